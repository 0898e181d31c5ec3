-- `boundary_run::run::run` meets its contract.
use Rattle.std.proofs.Common.{ap, ◌∙◌, rules}
use Rattle.mc_state.specs.Frame.{frame_of}
use Rattle.mc_state.specs.Answer.{buffers_now}
use Rattle.boundary_run.specs.Run.{ones, after_run}
use Rattle.boundary_run.proofs.RunLaws.{is-run, found-is}
use Rattle.boundary_run.proofs.run.run.Goals as goal

pub returns : goal.returns
returns c =
    let a = c.args in
    found-is (after_run a.loan a.state) c.frame_by_value-framed.result (buffers_now c.frame_by_value-framed.new.buffers) _ _ _ _ _ _ _ _
    (is-run a.loan a.state _ _ _ _ _ c.ramp-left.ensures c.ramp-right.ensures c.second_length-n.ensures.value c.second_length-m.ensures.value
    (c.frame_by_value-framed.ensures.frame ∙ ap (λ l. frame_of l ones a.state) c.lent.ensures))
    (search rules)
    (search rules)
    (search rules)
    (search rules)
    c.all_are.ensures
    c.all_are-2.ensures
    c.all_are-3.ensures
    c.all_are-4.ensures

-- `mc_output::output::write_output_of_both` meets its contract: the base alone, or all channels mixed.
use Rattle.std.proofs.Common.{◌∙◌}
use Rattle.mc_config.proofs.ConfigLaws.{layout-length}
use Rattle.mc_payload.specs.Places.{config}
use Rattle.mc_output.proofs.Laws.LayOut.{laid_out}
use Rattle.mc_output.proofs.Laws.OutputByMix.{second_fits, output-written}
use Rattle.mc_output.proofs.Laws.BaseAlone.{alone-written}
use Rattle.mc_output.proofs.output.write_output_of_both.Goals as goal

pub returns-then-not-x : goal.returns-then-not-x
returns-then-not-x c b both =
    alone-written c.args.s.now b c.args.work.now c.mix_of-x.ensures c.if-x-eq0.true c.if-not-x.true both.first_is both.second_is c.write_base.ensures

pub lay_out-requires : goal.lay_out-requires
lay_out-requires c =
    let x = c.mix_of-x in
    (rw x.ensures (layout-length (config c.args.s.now)).1, rw x.ensures (second_fits c.args.s.now))

pub returns-else-x-eq0 : goal.returns-else-x-eq0
returns-else-x-eq0 c b both =
    let s = c.args.s.now in
    let base = c.args.base in
    let work = c.args.work.now in
    let x = c.mix_of-x in
    output-written s b work x.ensures c.tcs_of.ensures both.second_is
    (c.lay_out.ensures ∙ rw (c.write_mixed.ensures, ← both.first_is) (laid_out x.result c.tcs_of.result base.left.now base.right.now work (rw x.ensures (second_fits s))))

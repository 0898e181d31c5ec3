-- `mc_codes::granules::read_granules` meets its contract.
use Rattle.std.specs.Prelude.{◌≡◌, length}
use Rattle.std.proofs.Common.{rules, arith}
use Rattle.bit_reader.proofs.ReadLaws.{stays}
use Rattle.mc_payload.specs.Payload.{granules}
use Rattle.mc_codes.proofs.PartLaws.{returned-stored, next-turn, last-turn, no-turn}
use Rattle.mc_codes.proofs.GranuleLaws.{same-codewords, same-granule}
use Rattle.mc_codes.proofs.granules.read_granules.Goals as goal

pub read_granule-requires-clause-table : goal.read_granule-requires-clause-table
read_granule-requires-clause-table c = rw (same-codewords _ _ c.trimmed-steps.ensures.1) c.codewords_of-codewords.ensures

pub loop-gr-init : goal.loop-gr-init
unfolding granules
loop-gr-init c =
    let long : length c.args.codes.now ≡ 3468 = search rules in
    rw (c.fill.ensures.after (λ y e. e), long) stays

pub returns-in_err-read_granule : goal.returns-in_err-read_granule
returns-in_err-read_granule c =
    returned-stored _ _ _ c.from_residual.ensures.1
    (last-turn _ 12 _ c.loop-gr.invariant (omega arith) (rw (same-granule c.args.lfe.value _ _ c.trimmed-steps.ensures.1) at c.in_err-read_granule.ensures))

pub loop-gr-preserved : goal.loop-gr-preserved
loop-gr-preserved c = next-turn _ 12 _ c.loop-gr.invariant (omega arith) (rw (same-granule c.args.lfe.value _ _ c.trimmed-steps.ensures.1) at c.in_ok-read_granule.ensures)

pub returns : goal.returns
returns c = no-turn _ 12 _ c.loop-gr.invariant (omega arith)

-- `mc_samples::excess::excesses` meets its contract.
use Rattle.std.proofs.Common.{◌≡◌, refl, sym, ◌∙◌, ◌+◌, ◌-◌, ◌*◌, rules, arith}
use Rattle.std.proofs.lemmas.List.{places}
use Rattle.fill.proofs.InOrder.{starts, more, ends-all}
use Rattle.mc_values.specs.Values.{excesses_from}
use Rattle.mc_samples.proofs.Counted.{zeros, groups-some, skip-place, excess-entry, place-written}
use Rattle.mc_samples.proofs.excess.excesses.Goals as goal
use Rattle.mc_samples.proofs.excess.excesses.Goals.{then-has_groups+else-loop-gr-test, else-has_groups}

pub loop-i-init : goal.loop-i-init
loop-i-init c = let z : 12 * 0 ≡ 0 = omega arith in rw z (starts {d = zeros} (omega arith))

pub loop-gr-init : goal.loop-gr-init
loop-gr-init c = starts (search (rules, places))

pub excess_of-requires : goal.excess_of-requires
excess_of-requires c = groups-some _ (sym c.has_groups.ensures ∙ c.if-has_groups.true)

pub loop-gr-preserved : goal.loop-gr-preserved
loop-gr-preserved c = more c.loop-gr.invariant (omega arith) (excess-entry _ _ _ _ _ (omega arith) (sym c.has_groups.ensures ∙ c.if-has_groups.true) c.excess_of.ensures)

pub loop-i-preserved : goal.loop-i-preserved
loop-i-preserved c =
    elim c.if-has_groups.branch [
      | then-has_groups+else-loop-gr-test w ↦ let n : 12 * c.loop-i.i + 12 - 12 * c.loop-i.i ≡ 12 = omega arith in rw w.table-is (rw n (place-written c.loop-i.invariant (omega arith) (search (rules, places)) w.loop-gr.invariant (omega arith)))
      | else-has_groups w ↦ rw w.table-is (skip-place _ _ _ _ c.loop-i.invariant (omega arith) (sym c.has_groups.ensures ∙ w.if-has_groups.false))
    ]

pub returns : goal.returns
unfolding excesses_from
returns c = ends-all c.loop-i.invariant (omega arith) refl

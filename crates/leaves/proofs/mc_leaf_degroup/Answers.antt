-- `leaves::mc_leaf_degroup` meets its contract: a grouped class has three to nine steps and its codes sixteen bits at most; where there is no class, nothing is grouped.
use mathlib.Core.Path.{◌≡◌, sym, ap, ◌∙◌, subst}
use mathlib.Core.Bool.{Bool, true}
use Prim.Native.Nat.{ℕ, ◌^◌, ◌≤◌, ◌<◌}
use Rattle.std.proofs.Common.{lt_of_lt_of_le, pow_mono, ltb-true}
use Rattle.std.specs.Prelude.{Option, Some, None}
use lib.Dec.{ltb}
use Rattle.bitalloc.specs.declared.QuantClass.{QuantClass}
use Rattle.bitalloc.specs.Classes.{lookup_of}
use Rattle.bitalloc.proofs.Places.{class-steps, class-absent}
use Rattle.bitalloc.proofs.Rules.{found-class, found-rules, group-steps}
use Rattle.leaves.specs.Leaves.{degroup_leaf}
use Rattle.leaves.proofs.mc_leaf_degroup.Goals as goal

module _ (steps : ℕ) (found : Option QuantClass) (class : QuantClass) (e : found ≡ lookup_of steps) (is : found ≡ Some class) (grouping : class.grouping ≡ true) where
  few : (3 ≤ steps) × (steps ≤ 9)
  few =
      let rules = found-rules steps found class e is in
      let own = found-class steps found class e is in
      let same : class.nb_steps ≡ steps = ap (λ (q : QuantClass). q.nb_steps) own.1 ∙ class-steps steps own.0 in
      subst (λ (n : ℕ). (3 ≤ n) × (n ≤ 9)) same (rules.steps_low, group-steps class rules grouping)

  below : (combined : ℕ) (b : Bool) → b ≡ ltb combined (2 ^ class.bits_per_codeword) → b ≡ true → combined < 65536
  below combined b f t = lt_of_lt_of_le (ltb-true combined (2 ^ class.bits_per_codeword) (sym f ∙ t)) (pow_mono (found-rules steps found class e is).codeword-high)

none : (steps combined : ℕ) → lookup_of steps ≡ None → 0 ≡ degroup_leaf steps combined
none steps combined e = simp (ap (λ (q : QuantClass). q.grouping) (class-absent steps e))

pub has_bits-requires : goal.has_bits-requires
has_bits-requires c = (found-rules _ _ _ c.class_of_quantization.ensures c.in-Some.is).codeword-high

pub degroup_packed-requires : goal.degroup_packed-requires
degroup_packed-requires c =
    let e = c.class_of_quantization.ensures in
    let f = few _ _ _ e c.in-Some.is c.if-class.true in
    (f.0, f.1, below _ _ _ e c.in-Some.is c.if-class.true _ _ c.has_bits.ensures c.if-has_bits.true)

pub returns-in_default-3 : goal.returns-in_default-3
returns-in_default-3 c = none _ _ (sym c.class_of_quantization.ensures ∙ c.in_default.is)

-- `bitalloc::class_or_zero` meets its contract: the default of a class is the row of zeros.
use mathlib.Core.Path.{◌≡◌, refl, sym, ◌∙◌, subst}
use mathlib.Core.Bool.{Bool, true, false, not, cond}
use Prim.Native.Nat.{ℕ}
use lib.Dec.{T}
use lib.IntN.{pos}
use lib.Ieee.{Float, fin, round, of_bits}
use Rattle.std.specs.Prelude.{Option, Some, None}
use Rattle.std.specs.Option.{UnwrapsOrElse}
use Rattle.bitalloc.specs.declared.QuantClass.{QuantClass}
use Rattle.bitalloc.specs.Classes.{row, is_class, class_of, lookup_of}
use Rattle.bitalloc.proofs.Places.{class-none}
use Rattle.bitalloc.proofs.class_or_zero.Goals as goal

-- what a derived default says of the fields
abbrev IsZero : QuantClass → Type 0
IsZero class =
    let zero : Float = fin false 0 (pos 0) in
    (class.nb_steps ≡ 0) × ((class.c ≡ zero) × ((class.d ≡ zero) × ((class.grouping ≡ false) × ((class.bits_per_sample ≡ 0) × (class.bits_per_codeword ≡ 0)))))

of_fields : ℕ → Float → Float → Bool → ℕ → ℕ → QuantClass
of_fields steps c d grouping sample codeword = record { nb_steps = steps; c = c; d = d; grouping = grouping; bits_per_sample = sample; bits_per_codeword = codeword }

zeros : (class : QuantClass) → IsZero class → class ≡ row 0 0 0 false 0 0
unfolding of_fields round
zeros class h =
    let zero : Float = fin false 0 (pos 0) in
    let own : class ≡ of_fields class.nb_steps class.c class.d class.grouping class.bits_per_sample class.bits_per_codeword = refl in
    rw own (rw (h.0, h.1.0, h.1.1.0, h.1.1.1.0, h.1.1.1.1.0, h.1.1.1.1.1))

chosen : (steps : ℕ) (class : QuantClass) → UnwrapsOrElse (lookup_of steps) IsZero class → class ≡ class_of steps
chosen steps class h = go (is_class steps) (class-none steps) h
  where
    go : (b : Bool) → (T (not b) → class_of steps ≡ row 0 0 0 false 0 0) → UnwrapsOrElse (cond b (Some (class_of steps)) None) IsZero class → class ≡ class_of steps
    go true none h = h
    go false none h = zeros class h ∙ sym (none tt)

pub returns : goal.returns
unfolding of_bits
returns c = chosen c.args.nb_steps _ (subst (λ (o : Option QuantClass). UnwrapsOrElse o IsZero c.unwrap_or_default.result) c.class_of_quantization.ensures c.unwrap_or_default.ensures)

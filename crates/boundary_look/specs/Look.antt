-- What is looked at in buffers and state after a frame call.
use Rattle.std.specs.Prelude.{Bool, true, false, ◌&&◌, cond, Option, Some, None, List, ℕ, zero, suc, ◌+◌, ◌*◌, ◌/◌, ◌%◌, eqb, Float, length, get_or}
use Rattle.std.specs.Float.{nan, binary64}
use Rattle.std.specs.Float.Ieee.{of_bits, eq}
use Rattle.floats.specs.Binary64.{◌⊘◌, zero64}
use Rattle.fill.specs.Each.{each}
use Rattle.boundary_look.specs.declared.look.Held.{Held}
use Rattle.boundary_look.specs.declared.look.Held.TheVariants.{Zero, Base, Other}

-- equal, and zeros of the same sign; a NaN is the same as nothing
unfoldable pub same : Float → Float → Bool
same x y = eq x y && eq (of_bits binary64 0x3FF0000000000000 ⊘ x) (of_bits binary64 0x3FF0000000000000 ⊘ y)

-- each value is x
abbrev pub all_are : List Float → Float → Bool
all_are xs x = each (λ k. same (get_or xs k nan) x) (length xs)

-- equally many values, and the same at each place
unfoldable pub same_values : List Float → List Float → Bool
same_values xs ys = eqb (length xs) (length ys) && each (λ k. same (get_or xs k nan) (get_or ys k nan)) (length xs)

-- history values k of both base channels are those of the last nine slots, oldest first: subband k / 9, slot 27 + k % 9
abbrev pub stored_at : List Float → List Float → List Float → ℕ → Bool
stored_at history left right k =
    same (get_or history k nan) (get_or left ((27 + k % 9) * 32 + k / 9) nan)
    && same (get_or history (288 + k) nan) (get_or right ((27 + k % 9) * 32 + k / 9) nan)

abbrev pub is_stored : List Float → List Float → List Float → Bool
is_stored history left right = each (stored_at history left right) 288

-- value k of the second output channel is that of the first
abbrev pub second_is_first : List Float → ℕ → Bool
second_is_first output k = same (get_or output (1152 + k) nan) (get_or output k nan)

-- value k of the third output channel is +0
abbrev pub third_is_silent : List Float → ℕ → Bool
third_is_silent output k = same (get_or output (2304 + k) nan) zero64

-- the second output channel in a subband and a slot
abbrev pub second_at : List Float → ℕ → ℕ → Float
second_at output subband slot = get_or output (1152 + (32 * slot + subband)) nan

abbrev pub zeros_at : List Float → ℕ → ℕ → Bool
zeros_at output subband slot = same (second_at output subband slot) zero64

abbrev pub bases_at : List Float → List Float → ℕ → ℕ → Bool
bases_at output base subband slot = same (second_at output subband slot) (get_or base (32 * slot + subband) nan)

-- what the second output channel holds in all slots of a subband
unfoldable pub held_of : List Float → List Float → ℕ → Held
held_of output base subband =
    cond (each (zeros_at output subband) 36) Zero (cond (each (bases_at output base subband) 36) Base Other)

-- the same by a number
abbrev pub held_by : ℕ → Option Held
held_by number = cond (eqb number 0) (Some Other) (cond (eqb number 1) (Some Zero) (cond (eqb number 2) (Some Base) None))

-- whether it holds that; nothing holds None
abbrev pub holds : Held → Option Held → Bool
holds Zero (Some Zero) = true
holds Base (Some Base) = true
holds Other (Some Other) = true
holds _ _ = false

-- the first of n subbands that does not hold that, or the one after them
unfoldable pub held_until : List Float → List Float → Option Held → ℕ → ℕ → ℕ
held_until output base what zero subband = subband
held_until output base what (suc n) subband = cond (holds (held_of output base subband) what) (held_until output base what n (subband + 1)) subband

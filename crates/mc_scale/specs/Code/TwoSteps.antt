-- The two steps by the tables of the places that `scale` takes: place 3 sb + m is channel m in subband sb.
use Rattle.std.specs.Prelude.{◌≡◌, List, ℕ, ◌+◌, ◌*◌, ◌/◌, Float, get_or, length}
use Rattle.std.specs.Float.{nan}
use Rattle.mc_scale.specs.TwoSteps.{two_steps}
use Rattle.mc_scale.specs.Code.ScaleByPlace.{unscaled_by, scaled_by_place}

abbrev pub two_steps_by_place : List ℕ → List ℕ → List ℕ → List Float → List Float → List Float → List Float → List Float → List Float
two_steps_by_place steps source base factors raw left right work =
    two_steps
    (λ (m sb : ℕ). get_or steps (3 * sb + m) 0)
    (λ (m slot sb : ℕ). let i = 3 * sb + m in unscaled_by (get_or source i 0) (get_or base i 0) raw left right i slot)
    (λ (m slot sb : ℕ). get_or factors (3 * (3 * sb + m) + slot / 12) nan)
    work

-- by any tables, and whatever work held, they leave what `scale` leaves
abbrev pub OneStep : Type 0
OneStep =
    (steps source base : List ℕ) (factors raw left right work : List Float)
    → length work ≡ 3456
    → scaled_by_place steps source base factors raw left right ≡ two_steps_by_place steps source base factors raw left right work

-- Scaling in two steps on a buffer, in the standard's order: what each channel has or copies goes into work (ISO/IEC 13818-3, 2.5.3.2.1.2), then
-- work is multiplied in place (2.5.3.2.3). `scale` has one step, which multiplies what it reads.
use Rattle.std.specs.Prelude.{◌≡◌, cond, List, ℕ, zero, suc, ◌+◌, ◌*◌, ◌/◌, ◌%◌, eqb, Float, get_or, set, length}
use Rattle.std.specs.Float.{nan}
use Rattle.floats.specs.Binary64.{◌⊗◌, zero64}
use Rattle.mc_base.specs.Base.{Base}
use Rattle.mc_payload.specs.declared.McSettings.{McSettings}
use Rattle.mc_payload.specs.Places.{source_at, steps_at}
use Rattle.mc_payload.specs.Record.{Record}
use Rattle.mc_scale.specs.Scale.{unscaled_from, factor_at, scaled_of}

-- what the first n turns of a loop make of a buffer
unfoldable pub turns : (ℕ → List Float → List Float) → ℕ → List Float → List Float
turns turn zero work = work
turns turn (suc n) work = turn n (turns turn n work)

-- where a slot of channel m in subband sb stands
abbrev pub element_at : ℕ → ℕ → ℕ → ℕ
element_at m slot sb = (36 * m + slot) * 32 + sb

-- step counts by channel and subband; what is copied and its factor by channel, slot and subband
module _ (steps : ℕ → ℕ → ℕ) (unscaled factor : ℕ → ℕ → ℕ → Float) where
  -- a slot is copied; +0 where the step count is 0
  unfoldable pub copy_slot : ℕ → ℕ → ℕ → List Float → List Float
  copy_slot m sb slot work = set work (element_at m slot sb) (cond (eqb (steps m sb) 0) zero64 (unscaled m slot sb))

  -- what stands in a slot is multiplied
  unfoldable pub scale_slot : ℕ → ℕ → ℕ → List Float → List Float
  scale_slot m sb slot work = set work (element_at m slot sb) (get_or work (element_at m slot sb) nan ⊗ factor m slot sb)

  -- at turn t the 36 slots of channel t / 32 in subband t % 32 are copied
  unfoldable pub copy_turn : ℕ → List Float → List Float
  copy_turn t work = turns (copy_slot (t / 32) (t % 32)) 36 work

  -- those slots are multiplied, but for a step count of 0
  unfoldable pub scale_turn : ℕ → List Float → List Float
  scale_turn t work = cond (eqb (steps (t / 32) (t % 32)) 0) work (turns (scale_slot (t / 32) (t % 32)) 36 work)

  -- all 96 places are copied, then all are multiplied
  unfoldable pub two_steps : List Float → List Float
  two_steps work = turns scale_turn 96 (turns copy_turn 96 work)

-- whatever work held, the two steps leave the scaled values of the definition
abbrev pub ScaledInTwo : Type 0
ScaledInTwo =
    (s : McSettings) (r : Record) (b : Base) (work : List Float)
    → length work ≡ 3456
    → scaled_of s r b ≡ two_steps (steps_at s) (λ (m slot sb : ℕ). unscaled_from s r b m slot sb (source_at s m sb)) (factor_at r) work

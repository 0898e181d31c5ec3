-- The boundary frames that are proved, as rows of one table: what is computed, and what it gives.
use Rattle.std.specs.Prelude.{Bool, true, false, ◌≡◌, List, [], ◌∷◌, ℕ, ◌+◌, ◌-◌, ◌*◌, Float, get_or}
use Rattle.std.specs.Float.{nan}
use Rattle.std.specs.Float.Ieee.{neg}
use Rattle.floats.specs.Binary64.{zero64}
use Rattle.floats.specs.Decimal.{decimal}
use Rattle.bitalloc.specs.Classes.{c_of}
use Rattle.requant.specs.Requant.{raw_of, degrouped, excess_of, lfe_of, coefficient_of}
use Rattle.mc_config.specs.Groups.{sbgr_of}
use Rattle.mc_crosstalk.specs.Crosstalk.{listed}
use Rattle.mc_payload.specs.declared.McSettings.{McSettings}
use Rattle.mc_base.specs.Base.{Base}
use Rattle.mc_predict.specs.Predict.{earlier}

pub data Row : Type 0 where
  -- a step count, a code, and its raw value
  sample : ℕ → ℕ → Float → Row
  -- a step count, a group code, its digits and its excess
  group : ℕ → ℕ → List ℕ → ℕ → Row
  -- a byte, and its coefficient
  coefficient : ℕ → Float → Row
  -- bits of an LFE code, the code, and its value before scaling
  lfe : ℕ → ℕ → Float → Row
  -- front and surround, a crosstalk code, and whether it passes
  crosstalk : ℕ → ℕ → Bool → Row
  -- a delay, a coefficient and a slot, and the place that they reach in the history
  history : ℕ → ℕ → ℕ → ℕ → Row
  -- a subband, and its group
  subband : ℕ → ℕ → Row

-- what a row says
unfoldable pub Holds : Row → Type 0
Holds (sample steps code x) = raw_of steps code ≡ x
Holds (group steps code digits excess) = (degrouped steps code ≡ digits) × (excess_of steps code ≡ excess)
Holds (coefficient byte x) = coefficient_of byte ≡ x
Holds (lfe bits code x) = lfe_of bits code ≡ x
Holds (crosstalk pair code passes) = listed pair code ≡ passes
Holds (history delay k slot place) =
    (s : McSettings) (base : Base) (h : List Float) (ch sb : ℕ) → earlier s base h ch sb (9 + slot - delay - k) ≡ get_or h ((32 * ch + sb) * 9 + place) nan
Holds (subband sb g) = sbgr_of sb ≡ g

unfoldable pub rows : List Row
rows =
    sample 3 1 zero64
    ∷ sample 7 7 (c_of 7)
    ∷ group 3 26 (2 ∷ 2 ∷ 2 ∷ []) 0
    ∷ group 3 27 (0 ∷ 0 ∷ 0 ∷ []) 1
    ∷ group 3 31 (1 ∷ 1 ∷ 0 ∷ []) 1
    ∷ group 5 127 (2 ∷ 0 ∷ 0 ∷ []) 1
    ∷ group 9 1023 (6 ∷ 5 ∷ 3 ∷ []) 1
    ∷ coefficient 0 (neg (decimal 5 396875))
    ∷ coefficient 127 zero64
    ∷ coefficient 255 (decimal 0 4)
    ∷ lfe 2 1 zero64
    ∷ crosstalk 32 14 true
    ∷ crosstalk 32 15 false
    ∷ crosstalk 31 4 true
    ∷ crosstalk 31 5 false
    ∷ history 7 2 0 0
    ∷ subband 15 10
    ∷ subband 16 11
    ∷ []

-- each row of a list
unfoldable pub Each : List Row → Type 0
Each [] = Unit {0}
Each (row ∷ more) = Holds row × Each more

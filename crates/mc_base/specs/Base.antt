-- The base frame's subband values as they are lent, and the choice of one of its channels. Definitions only.
use Rattle.std.specs.Prelude.{cond, List, ℕ, eqb, Float}
use Rattle.mc_base.specs.declared.Base as Lent

-- the base frame's subband values, slot and subband at 32 slot + sb; the right-hand lists are empty for one channel
pub record Base : Type 0 where
  pub raw_left : List Float
  pub raw_right : List Float
  pub scaled_left : List Float
  pub scaled_right : List Float

-- the chosen one of two base channels
abbrev pub chosen : ℕ → List Float → List Float → List Float
chosen ch left right = cond (eqb ch 0) left right

-- how many there are of a second base channel, of which a first one has n
abbrev pub second_length : ℕ → ℕ → ℕ
second_length base_channels n = cond (eqb base_channels 1) 0 n

-- the base's four lists
abbrev pub base_from : List Float → List Float → List Float → List Float → Base
base_from raw_left raw_right scaled_left scaled_right =
    record { raw_left = raw_left; raw_right = raw_right; scaled_left = scaled_left; scaled_right = scaled_right }

-- the same of the struct that lends them
abbrev pub lent : Lent.Base → Base
lent base = base_from base.raw.left.now base.raw.right.now base.scaled.left.now base.scaled.right.now

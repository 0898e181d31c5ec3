-- The lengths of what is lent, once it is tested.
use Rattle.std.specs.Prelude.{◌≡◌, cond, List, ℕ, ◌*◌, ◌≤◌, ◌<◌, eqb, length, get_or}
use Rattle.mc_base.specs.Base.{Base}
use Rattle.mc_state.specs.Frame.{Buffers}

-- the lengths of what is lent
pub record Long (base_channels : ℕ) (base : Base) (w : Buffers) : Type 0 where
  pub raw_left : length base.raw_left ≡ 1152
  pub raw_right : length base.raw_right ≡ cond (eqb base_channels 1) 0 1152
  pub scaled_left : length base.scaled_left ≡ 1152
  pub scaled_right : length base.scaled_right ≡ cond (eqb base_channels 1) 0 1152
  pub raw : length w.raw ≡ 3456
  pub work : length w.work ≡ 3456
  pub output : length w.output ≡ 5760
  pub lfe : length w.lfe ≡ 12

-- delays of three bits in a table of predictors
pub record Delayed (predictors : List ℕ) : Type 0 where
  pub small : (q : ℕ) → q < 48 → get_or predictors (4 * q) 0 ≤ 7

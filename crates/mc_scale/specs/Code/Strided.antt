-- The places of a buffer that one call writes: a column, and one place of each output channel.
use Rattle.std.specs.Prelude.{List, ℕ}
use Rattle.fill.specs.Strided.{strided}

module _ {A : Type 0} where
  -- a channel in one subband: its 36 slots, 32 places apart
  abbrev pub column : (ℕ → A) → ℕ → List A → List A
  column f at d = strided 32 f at 36 d

  -- one slot and subband of five channels, 1152 places apart
  abbrev pub across : (ℕ → A) → ℕ → List A → List A
  across f at d = strided 1152 f at 5 d

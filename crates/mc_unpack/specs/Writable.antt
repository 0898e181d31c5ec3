-- What an accepted payload is fit for: writing its samples, and scaling them.
use Rattle.std.specs.Prelude.{◌≡◌, true, ℕ, ◌<◌, length, get_or}
use Rattle.mc_payload.specs.declared.McSettings.{McSettings}
use Rattle.mc_payload.specs.Places.{own_of}
use Rattle.mc_payload.specs.Payload.{Codes}
use Rattle.mc_payload.specs.Unpack.{steps_fit}
use Rattle.mc_values.specs.Values.{SamplesFit, LfeFits}

pub record Writable (s : McSettings) (c : Codes) : Type 0 where
  pub steps : (i : ℕ) → i < 96 → steps_fit (get_or (own_of s) i 0) ≡ true
  pub samples : SamplesFit (own_of s) c.1.1.1.1
  pub lfe : LfeFits s.lfe_allocation c.1.1.1.1
  pub lf_factor : c.1.1.0 < 63
  pub factors : (length c.1.1.1.0 ≡ 288) × ((i : ℕ) → get_or c.1.1.1.0 i 0 < 63)

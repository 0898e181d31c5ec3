-- What an accepted payload brings for the writer of its samples, and that it writes what the definition says.
use Rattle.std.specs.Prelude.{◌≡◌, true, List, ℕ, ◌<◌, Float, get_or}
use Rattle.std.proofs.Math.Path.{ap}
use Rattle.std.proofs.Common.{◌∙◌}
use Rattle.mc_payload.specs.declared.McSettings.{McSettings}
use Rattle.mc_payload.specs.Record.{raw_of, lfe_of, excesses_of, excess_codes}
use Rattle.mc_payload.specs.Unpack.{steps_fit}
use Rattle.mc_codes.specs.Outcome.{codes_of}
use Rattle.mc_places.specs.PlacesBy.{places_of}
use Rattle.mc_values.specs.Values.{raw_from, lfe_from, excesses_from, SamplesFit}
use Rattle.mc_unpack.specs.declared.entry.McPayload.{McPayload}
use Rattle.mc_unpack.specs.Writable.{Writable}
use Rattle.mc_unpack.proofs.RecordLaws.{raw-record, lfe-record, excess-record}
use Rattle.mc_unpack.proofs.SettledLaws.{own-table}

module _ (s : McSettings) (p : McPayload) (e : p.places ≡ places_of s) where
  pub raw-ready : Writable s (codes_of p.codes) → ((i : ℕ) → i < 96 → steps_fit (get_or p.places.own i 0) ≡ true) × SamplesFit p.places.own p.codes.granules
  raw-ready w = rw (own-table s p.places e) (w.steps, w.samples)

  pub raw-written : (x : List Float) → x ≡ raw_from p.places.own p.codes.granules → x ≡ raw_of s (codes_of p.codes)
  raw-written x h = h ∙ (rw (own-table s p.places e) (raw-record s (codes_of p.codes)))

  pub lfe-written : (x : List Float) → x ≡ lfe_from s.lfe_allocation p.codes.lf_scalefactor p.codes.granules → x ≡ lfe_of s.lfe_allocation (codes_of p.codes)
  lfe-written x h = h ∙ lfe-record s.lfe_allocation (codes_of p.codes)

  pub excesses-counted : (n : ℕ) → n ≡ excess_codes (excesses_from p.places.own p.codes.granules) → n ≡ excess_codes (excesses_of s (codes_of p.codes))
  excesses-counted n h = h ∙ rw (own-table s p.places e) (ap excess_codes (excess-record s (codes_of p.codes)))

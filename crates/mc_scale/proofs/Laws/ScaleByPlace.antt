-- The tables of the places give the scaled values of the definition.
use Rattle.std.specs.Prelude.{◌≡◌, List, ℕ, ◌+◌, ◌*◌, ◌/◌, ◌%◌, ◌<◌, get_or}
use Rattle.std.proofs.Common.{◌∙◌}
use native.Mathlib.Omega.{arith}
use Rattle.std.specs.Float.{nan}
use Rattle.fill.proofs.TabLaws.{get_or-tab, tab-same}
use Rattle.tables.specs.Scalefactor.{scalefactor_of}
use Rattle.mc_payload.specs.declared.McSettings.{McSettings}
use Rattle.mc_payload.specs.Places.{place, steps_at, source_at, base_at, steps_of, sources_of, bases_of}
use Rattle.mc_payload.specs.Record.{Record}
use Rattle.mc_base.specs.Base.{Base}
use Rattle.mc_scale.specs.Scale.{scaled_at, scaled_of}
use Rattle.mc_scale.specs.Code.Column.{column_at, place_of, slot_of}
use Rattle.mc_scale.specs.Code.ScaleByPlace.{factors_of, place_scaled, scaled_by_place}

module _ (s : McSettings) (i : ℕ) (h : i < 96) where
  steps-at : get_or (steps_of s) i 0 ≡ steps_at s (i % 3) (i / 3)
  unfolding steps_of
  steps-at = get_or-tab 0 (place (steps_at s)) 96 i h

  pub source-at : get_or (sources_of s) i 0 ≡ source_at s (i % 3) (i / 3)
  unfolding sources_of
  source-at = get_or-tab 0 (place (source_at s)) 96 i h

  pub base-at : get_or (bases_of s) i 0 ≡ base_at s (i % 3) (i / 3)
  unfolding bases_of
  base-at = get_or-tab 0 (place (base_at s)) 96 i h

factor-at : (scalefactor : List ℕ) (j : ℕ) → j < 288 → get_or (factors_of scalefactor) j nan ≡ scalefactor_of (get_or scalefactor j 0)
unfolding factors_of
factor-at scalefactor j h = get_or-tab nan (λ (i : ℕ). scalefactor_of (get_or scalefactor i 0)) 288 j h

-- a place is the one of its channel and subband
at_place : (i : ℕ) → 3 * (i / 3) + i % 3 ≡ i
at_place i = omega arith

module _ (s : McSettings) (r : Record) (b : Base) where
  place-scaled :
      (i slot : ℕ)
      → i < 96
      → slot < 36
      → place_scaled (steps_of s) (sources_of s) (bases_of s) (factors_of r.scalefactor) r.raw b.raw_left b.raw_right i slot ≡ scaled_at s r b (i % 3) slot (i / 3)
  unfolding scaled_at
  place-scaled i slot h l =
      let own : column_at i + 32 * slot ≡ (36 * (i % 3) + slot) * 32 + i / 3 = omega arith in
      let base : i / 3 + 32 * slot ≡ 32 * slot + i / 3 = omega arith in
      let x = source_at s (i % 3) (i / 3) in
      let earlier : 1152 * x + i / 3 + 32 * slot ≡ (36 * x + slot) * 32 + i / 3 = omega arith in
      rw (steps-at s i h, source-at s i h, base-at s i h, factor-at r.scalefactor (3 * i + slot / 12) (omega arith), own, base, earlier, at_place i)

  pub scaled-by-place :
      scaled_by_place (steps_of s) (sources_of s) (bases_of s) (factors_of r.scalefactor) r.raw b.raw_left b.raw_right ≡ scaled_of s r b
  unfolding scaled_by_place scaled_of
  scaled-by-place =
      tab-same 3456 (λ k h.
      let m : place_of k % 3 ≡ k / 1152 = omega arith in
      let sb : place_of k / 3 ≡ k % 32 = omega arith in
      place-scaled (place_of k) (slot_of k) (omega arith) (omega arith) ∙ rw (m, sb))

-- What an accepted payload brings for the writers of its frame, and that they write what the definition says.
use Rattle.std.specs.Prelude.{◌≡◌, ℕ, ◌+◌, ◌*◌, ◌%◌, ◌^◌, ◌≤◌, ◌<◌, ltb, Float}
use Rattle.std.proofs.Math.Path.{ap}
use Rattle.std.proofs.Common.{◌∙◌, arith}
use mathlib.Core.List.{List, []}
use Rattle.fill.proofs.TabLaws.{length-tab, get_or-tab}
use Rattle.mc_fields.proofs.BitsIfLaws.{if-below}
use Rattle.mc_payload.specs.declared.McSettings.{McSettings}
use Rattle.mc_unpack.specs.declared.entry.McPayload.{McPayload}
use Rattle.mc_places.specs.declared.places.Places.{Places}
use Rattle.mc_codes.specs.Outcome.{codes_of}
use Rattle.mc_payload.specs.Payload.{Codes}
use Rattle.mc_places.specs.PlacesBy.{places_of}
use Rattle.mc_payload.specs.Record.{raw_of, record_of}
use Rattle.mc_unpack.proofs.RecordLaws.{delays-record, coefs-record}
use Rattle.mc_unpack.specs.Writable.{Writable}
use Rattle.mc_values.specs.Values.{delays_in, delays_from, coefs_from}
use Rattle.mc_payload.proofs.Demand3.Widths.{predictor_width, Fitting}
use Rattle.mc_base.specs.Base.{Base}
use Rattle.mc_output.specs.Output.{work_of}
use Rattle.mc_finish.proofs.Laws.Finish.{work-record}
use Rattle.mc_finish.specs.Finish.{record_from, Tables, RecordFits}
use Rattle.mc_state.specs.Long.{Delayed}

module _ (s : McSettings) (p : McPayload) (e : p.places ≡ places_of s) where
  -- ---- work

  pub tables : Tables s p.places.steps p.places.source p.places.base
  unfolding places_of
  tables =
      record {
        steps_are = ap (λ (q : Places). q.steps) e;
        source_are = ap (λ (q : Places). q.source) e;
        base_are = ap (λ (q : Places). q.base) e;
      }

  pub record-fits : Writable s (codes_of p.codes) → Delayed p.codes.predictors
      → (raw : List Float) → raw ≡ raw_of s (codes_of p.codes) → (d : List (List ℕ)) → d ≡ delays_from p.codes.predictors
      → (x : List (List (List Float))) → RecordFits (record_from raw p.codes.scalefactors d x)
  unfolding raw_of delays_from delays_in
  record-fits w z raw er d ed x =
      record {
        raw_long = rw er (length-tab _ 3456);
        listed = λ i h. w.factors.1 i;
        small = λ g px hg hp. rw (ed, get_or-tab {A = List ℕ} [] _ 8 g hg, get_or-tab {A = ℕ} 0 _ 6 px hp) (z.small (6 * g + px) (omega arith));
      }

pub work-written : (s : McSettings) (c : Codes) (base : Base) (history x : List Float) (raw : List Float) (d : List (List ℕ)) (k : List (List (List Float)))
    → raw ≡ raw_of s c → d ≡ delays_from c.1.0 → k ≡ coefs_from s.status.mc_prediction c.1.0
    → x ≡ work_of s (record_from raw c.1.1.1.0 d k) base history → x ≡ work_of s (record_of s c) base history
unfolding record_of
work-written s c base history x raw d k er ed ek h =
    h ∙ (rw (er, ed, ek, delays-record c, coefs-record s.status.mc_prediction c) (work-record s (record_of s c) base history))

-- delays are of three bits
three : (n v r : ℕ) → v < 2 ^ predictor_width n r → r ≡ 0 → v ≤ 7
three n v r b e = let y : v < 2 ^ predictor_width n 0 = rw e at b in omega (arith, if-below (ltb 0 n) 3 y)

pub delayed : (s : McSettings) (c : Codes) → Fitting s c → Delayed c.1.0
delayed s c f = record { small = λ q h. three _ _ (4 * q % 4) (f.predictors.entry (4 * q)) (omega arith) }

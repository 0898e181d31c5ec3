-- Each way through the unpacking call leaves what the definition says, and an accepted payload is fit for its writer.
use Rattle.std.specs.Prelude.{◌≡◌, Bool, true, false, ◌&&◌, cond, List, ℕ, ◌≤◌, Float, length, Result, Ok, Err, IfErr}
use Rattle.std.specs.Result.{IsErrAnd}
use Rattle.std.proofs.lemmas.Result.{err_from_is_err_and}
use Rattle.std.proofs.Common.{refl, sym, ◌∙◌}
use Rattle.bits.specs.Syntax.{plain, refused, run}
use Rattle.mc_error.specs.Error.{refusal_of}
use Rattle.mc_error.specs.declared.McError.{McError}
use Rattle.mc_error.specs.declared.McError.TheVariants.{InvalidArgument}
use Rattle.mc_fields.specs.Lent.{string_fits}
use Rattle.mc_payload.specs.declared.McSettings.{McSettings}
use Rattle.mc_payload.specs.Record.{raw_of, lfe_of, excesses_of, excess_codes}
use Rattle.mc_payload.specs.Unpack.{loan_fits, allocations_fit, payload_of, Loan, settings_of, unpack_of}
use Rattle.mc_payload.proofs.Demand3.Accepted.{both_true, lfe-low}
use Rattle.mc_codes.specs.Outcome.{codes_of, outcome_of}
use Rattle.mc_places.specs.PlacesBy.{places_of}
use Rattle.mc_values.specs.Values.{excesses_from}
use Rattle.mc_unpack.specs.declared.entry.McPayload.{McPayload}
use Rattle.mc_unpack.specs.declared.entry.Unpacked.{Unpacked}
use Rattle.mc_unpack.specs.Answer.{after_of, room_fits, checked_of, unpack_call}
use Rattle.mc_unpack.specs.Settled.{settled_of, Numbered}
use Rattle.mc_unpack.specs.Writable.{Writable}
use Rattle.mc_unpack.proofs.RecordLaws.{excess-record}
use Rattle.mc_unpack.proofs.SettledLaws.{own-table, settled-number, settled-writable}

-- the whole test of what is lent
abbrev pub lent_right : Loan → List ℕ → ℕ → ℕ → ℕ → Bool
lent_right l bytes bits raw lfe = room_fits raw lfe && (string_fits bytes bits && loan_fits l.reading l.rate l.base_channels l.lfe l.steps l.base_steps)

module _ (l : Loan) (bytes : List ℕ) (bits : ℕ) (raw lfe : List Float) (fits : Bool) (ef : fits ≡ lent_right l bytes bits (length raw) (length lfe)) where
  -- ---- a wrong loan

  checked-wrong : fits ≡ false → refused (plain 6) ≡ checked_of l bytes bits (length raw) (length lfe)
  unfolding checked_of unpack_of
  checked-wrong h = go (room_fits (length raw) (length lfe)) (string_fits bytes bits && loan_fits l.reading l.rate l.base_channels l.lfe l.steps l.base_steps) (sym ef ∙ h)
    where
      go : (t u : Bool) → (t && u) ≡ false → refused (plain 6) ≡ cond t (cond u (cond (allocations_fit (settings_of l)) (run (payload_of (settings_of l)) bytes bits 0) (refused (plain 8))) (refused (plain 6))) (refused (plain 6))
      go true true e = let z : true ≡ false = e in cc
      go true false e = refl
      go false u e = refl

  pub after-wrong : fits ≡ false → after_of (Err InvalidArgument) raw lfe ≡ unpack_call l bytes bits raw lfe
  unfolding unpack_call
  after-wrong h = rw (← checked-wrong h)

  -- ---- a right one, and the settings that it makes

  module _ (h : fits ≡ true) (s : McSettings) (es : s ≡ settings_of l) where
    right : (room_fits (length raw) (length lfe) ≡ true) × ((string_fits bytes bits && loan_fits l.reading l.rate l.base_channels l.lfe l.steps l.base_steps) ≡ true)
    right = both_true (room_fits (length raw) (length lfe)) _ (sym ef ∙ h)

    pub lfe-most : s.lfe_allocation ≤ 15
    unfolding settings_of
    lfe-most = rw es (lfe-low l (both_true (string_fits bytes bits) _ right.1).1)

    checked-right : checked_of l bytes bits (length raw) (length lfe) ≡ settled_of s bytes bits
    unfolding checked_of unpack_of settled_of
    checked-right = rw (right.0, right.1, es)

    -- what `?` returns where the payload was refused
    module _ (e : McError) (o : refused (refusal_of e) ≡ settled_of s bytes bits) (r : Result Unpacked McError) (i : IsErrAnd r (λ x. x ≡ e)) where
      pub after-refused : after_of r raw lfe ≡ unpack_call l bytes bits raw lfe
      unfolding unpack_call
      after-refused = let q = err_from_is_err_and r i in rw (checked-right, ← o, q.1, q.2)

      pub refused-numbered : IfErr r (λ x. Numbered (refusal_of x).number)
      refused-numbered = let q = err_from_is_err_and r i in rw (q.1, q.2) (settled-number s bytes bits (refusal_of e) (sym o))

    -- an accepted payload
    module _ (p : McPayload) (o : outcome_of (Ok tt) p.codes ≡ settled_of s bytes bits) where
      pub writable : Writable s (codes_of p.codes)
      writable = settled-writable s bytes bits _ _ (sym o)

      pub after-accepted : p.places ≡ places_of s → (raw' lfe' : List Float) → raw' ≡ raw_of s (codes_of p.codes)
          → lfe' ≡ lfe_of s.lfe_allocation (codes_of p.codes)
          → (excesses : List ℕ) → excesses ≡ excesses_from p.places.own p.codes.granules
          → (count : ℕ) → count ≡ excess_codes (excesses_of s (codes_of p.codes))
          → after_of (Ok (record {
            payload_bits = p.codes.bits;
            excess_codes = count;
            scfsi = p.codes.scfsi;
            predictors = p.codes.predictors;
            lf_scalefactor = p.codes.lf_scalefactor;
            scalefactors = p.codes.scalefactors;
            excesses = excesses;
          })) raw' lfe'
          ≡ unpack_call l bytes bits raw lfe
      unfolding unpack_call
      after-accepted q raw' lfe' er el excesses ex count ec =
          rw (checked-right, ← o, ← es, er, el, ec, ex, own-table s p.places q, excess-record s (codes_of p.codes))

-- Each way to decide of a payload says what the definition says, which refusals it can end in, and what an accepted payload is fit for.
use Rattle.std.specs.Prelude.{◌≡◌, refl, Result, Bool, true, false, ◌&&◌, cond, List, ℕ, ◌/◌, ◌%◌, ◌<◌, eqb, get_or}
use Rattle.std.proofs.Common.{sym, inl, inr, ⊎_elim, arith}
use Rattle.std.proofs.Math.Path.{ap}
use Rattle.std.specs.Result.{IsErrAnd}
use Rattle.std.proofs.lemmas.Result.{err_from_is_err_and}
use Rattle.mc_error.specs.declared.McError.{McError}
use Rattle.mc_error.specs.Error.{refusal_of}
use Rattle.mc_codes.specs.declared.payload.PayloadCodes.{PayloadCodes}
use Rattle.mc_codes.specs.Outcome.{outcome_of}
use borrow.Author.Tests.{eqb-false}
use Rattle.bits.specs.Syntax.{Refusal, plain, Outcome, accepted, refused, run}
use Rattle.bits.proofs.Yields.{accepted-yields, refused-yields}
use Rattle.mc_fields.specs.Lent.{string_fits}
use Rattle.mc_payload.specs.declared.McSettings.{McSettings}
use Rattle.mc_places.specs.declared.places.Places.{Places}
use Rattle.mc_payload.specs.Places.{own_at, steps_of, own_of}
use Rattle.mc_places.specs.PlacesBy.{places_of}
use Rattle.mc_payload.specs.Payload.{Codes, payload}
use Rattle.mc_payload.proofs.PayloadYields.{payload-yields}
use Rattle.mc_unpack.proofs.RecordLaws.{samples-fit, lfe-fits}
use Rattle.mc_payload.specs.Unpack.{steps_fit, loan_fits, allocations_fit, payload_of, Loan, settings_of, unpack_of}
use Rattle.mc_unpack.specs.Writable.{Writable}
use Rattle.mc_unpack.specs.Settled.{settled_of, Numbered}
use Rattle.mc_payload.proofs.Demand3.Accepted.{own-at, own-class}
use Rattle.mc_payload.proofs.Demand3.Widths.{Fitting, codes-fit}

module _ (s : McSettings) (p : Places) (e : p ≡ places_of s) where
  pub own-table : p.own ≡ own_of s
  unfolding places_of
  own-table = ap (λ (q : Places). q.own) e

  steps-table : p.steps ≡ steps_of s
  unfolding places_of
  steps-table = ap (λ (q : Places). q.steps) e

  -- what was read for these places
  pub settled-read : (bytes : List ℕ) (bits : ℕ) (o : Outcome Codes) → allocations_fit s ≡ true
      → run (payload s.header.multi_lingual_layer3 s.lfe_allocation s.status.mc_prediction p.steps p.own) bytes bits 0 ≡ o → o ≡ settled_of s bytes bits
  unfolding settled_of payload_of
  settled-read bytes bits o t r = rw (t, ← own-table, ← steps-table) (sym r)

pub settled-refused : (s : McSettings) (bytes : List ℕ) (bits : ℕ) → allocations_fit s ≡ false → refused (plain 8) ≡ settled_of s bytes bits
unfolding settled_of
settled-refused s bytes bits t = rw t

-- what `?` returns where it was refused
pub settled-returned : (x : Result (Unit {0}) McError) (y : McError) → IsErrAnd x (λ z. z ≡ y) → {o : Outcome Codes} → refused (refusal_of y) ≡ o → (codes : PayloadCodes) → outcome_of x codes ≡ o
settled-returned x y h e codes = let p = err_from_is_err_and x h in rw (p.1, p.2) e

-- ---- refused

pub plain-number : (n m : ℕ) → plain n ≡ plain m → n ≡ m
plain-number n m e = ap (λ (r : Refusal). r.number) e

run-refused : (s : McSettings) (bytes : List ℕ) (bits : ℕ) (x : Refusal) → run (payload_of s) bytes bits 0 ≡ refused x → Numbered x.number
unfolding payload_of
run-refused s bytes bits x e =
    ⊎_elim (λ q. inl (ap (λ (r : Refusal). r.number) q))
    (λ h. ⊎_elim (λ q. inr (inl (ap (λ (r : Refusal). r.number) q))) (λ q. inr (inr (inl (ap (λ (r : Refusal). r.number) q)))) h)
    (refused-yields (payload-yields _ _ _ _ _) bytes bits 0 x e)

pub settled-number : (s : McSettings) (bytes : List ℕ) (bits : ℕ) (x : Refusal) → settled_of s bytes bits ≡ refused x → Numbered x.number
unfolding settled_of
settled-number s bytes bits x = go (allocations_fit s)
  where
    go : (t : Bool) → cond t (run (payload_of s) bytes bits 0) (refused (plain 8)) ≡ refused x → Numbered x.number
    go true e = run-refused s bytes bits x e
    go false e = let q : plain 8 ≡ x = cc in inr (inr (inr (inr (sym (ap (λ (r : Refusal). r.number) q)))))

pub unpack-number : (l : Loan) (bytes : List ℕ) (bits : ℕ) (x : Refusal) → unpack_of l bytes bits ≡ refused x → Numbered x.number
unfolding unpack_of settled_of
unpack-number l bytes bits x = go (string_fits bytes bits && loan_fits l.reading l.rate l.base_channels l.lfe l.steps l.base_steps)
  where
    go : (t : Bool) → cond t (settled_of (settings_of l) bytes bits) (refused (plain 6)) ≡ refused x → Numbered x.number
    go true e = settled-number (settings_of l) bytes bits x e
    go false e = let q : plain 6 ≡ x = cc in inr (inr (inr (inl (sym (ap (λ (r : Refusal). r.number) q)))))

-- the same of a refusal by its number
pub run-numbered : (s : McSettings) (bytes : List ℕ) (bits n : ℕ) → run (payload_of s) bytes bits 0 ≡ refused (plain n) → Numbered n
run-numbered s bytes bits n = run-refused s bytes bits (plain n)

pub settled-numbered : (s : McSettings) (bytes : List ℕ) (bits n : ℕ) → settled_of s bytes bits ≡ refused (plain n) → Numbered n
settled-numbered s bytes bits n = settled-number s bytes bits (plain n)

pub unpack-numbered : (l : Loan) (bytes : List ℕ) (bits n : ℕ) → unpack_of l bytes bits ≡ refused (plain n) → Numbered n
unpack-numbered l bytes bits n = unpack-number l bytes bits (plain n)

-- ---- accepted

taken : (t : Bool) (o : Outcome Codes) (x : Refusal) (c : Codes) (u : ℕ) → cond t o (refused x) ≡ accepted c u → (t ≡ true) × (o ≡ accepted c u)
taken true o x c u e = (refl, e)
taken false o x c u e = let z : ◌≡◌ {A = ℕ} 0 1 = cc in absurd (omega arith)

own-steps : (s : McSettings) → allocations_fit s ≡ true → (i : ℕ) → i < 96 → steps_fit (get_or (own_of s) i 0) ≡ true
own-steps s a i h = rw (own-at s i h) (go (eqb (own_at s (i % 3) (i / 3)) 0) refl)
  where
    go : (t : Bool) → eqb (own_at s (i % 3) (i / 3)) 0 ≡ t → steps_fit (own_at s (i % 3) (i / 3)) ≡ true
    go true e = rw e
    go false e = rw e (own-class s (i % 3) (i / 3) a (omega arith) (omega arith) (eqb-false _ 0 e))

pub settled-writable : (s : McSettings) (bytes : List ℕ) (bits : ℕ) (c : Codes) (u : ℕ) → settled_of s bytes bits ≡ accepted c u → Writable s c
unfolding settled_of payload_of
settled-writable s bytes bits c u e =
    let t = taken (allocations_fit s) (run (payload_of s) bytes bits 0) (plain 8) c u e in
    let f : Fitting s c = accepted-yields (codes-fit s) bytes bits 0 c u t.1 in
    let b = accepted-yields (payload-yields _ _ _ _ _) bytes bits 0 c u t.1 in
    record { steps = own-steps s t.0; samples = samples-fit _ _ _ _ c f; lfe = lfe-fits _ _ _ _ c f; lf_factor = b.0; factors = (b.1.sized, b.1.entry) }

-- Each case of an unpacking's answer, and each way through the exported call, leaves what the definition says.
use Rattle.std.specs.Prelude.{◌≡◌, refl, Bool, false, List, ℕ, ◌+◌, ◌*◌, ◌%◌, eqb, Float, length, Result, Ok, Err}
use Rattle.std.proofs.Common.{sym, ◌∙◌, get_or, ext_get_or}
use Rattle.fill.specs.Tab.{tab}
use Rattle.fill.proofs.TabLaws.{length-tab, get_or-tab}
use Rattle.std.specs.Result.{IsErrAnd}
use Rattle.std.proofs.lemmas.Result.{err_from_is_err_and}
use Rattle.std.proofs.Math.Path.{ap}
use Rattle.std.proofs.Math.Bool.{true}
use borrow.Author.Tests.{eq-eqb, eqb-true}
use Rattle.bits.specs.Syntax.{Outcome, accepted, refused}
use Rattle.mc_error.specs.declared.McError.{McError}
use Rattle.mc_error.specs.declared.McError.TheVariants.{InvalidArgument}
use Rattle.mc_head.specs.Answer
use Rattle.mc_fields.specs.Lent.{string_fits, head_of}
use Rattle.mc_head.specs.declared.McHead.{McHead}
use Rattle.mc_unpack.specs.Answer as Unpacking
use Rattle.mc_payload.specs.Unpack.{loan_by, Loan, loan_fits, settings_of, unpack_of}
use Rattle.mc_unpack.specs.Answer.{tables_of, answered, after_of, room_fits, checked_of, leaves, unpack_call}
use Rattle.mc_payload.proofs.Demand3.Accepted.{both_true}
use Rattle.mc_payload.specs.Payload.{Codes}
use Rattle.mc_payload.specs.Record.{raw_of, lfe_of, excesses_of, record_of, excess_codes}
use Rattle.mc_unpack.proofs.RecordLaws.{delays-record, coefs-record}
use Rattle.mc_payload.specs.declared.McSettings.{McSettings}
use Rattle.mc_unpack.specs.declared.entry.Unpacked.{Unpacked}
use Rattle.mc_error.specs.Error.{refusal_of, packed_refusal}
use Rattle.part_tables.specs.Payload.{Lent, Buffers, buffers_from, after_by, lent_by, lent_fits, entries, flat_delays, flat_coefs, left_by, under_head, part_of}
use Rattle.mc_values.specs.Values.{delays_from, coefs_from}
use Rattle.part_tables.specs.PayloadCode.{scfsi_after, delays_after, coefs_after, scalefactors_after, excesses_after, tables_after, packed_tables}

-- a table of n entries is its first n
pub entries-all : (n : ℕ) (table : List ℕ) → length table ≡ n → table ≡ entries n table
unfolding entries
entries-all n table h =
    ext_get_or 0 table (tab (λ (k : ℕ). get_or table k 0) n) (h ∙ sym (length-tab (λ (k : ℕ). get_or table k 0) n))
    (λ k l. sym (get_or-tab 0 (λ (j : ℕ). get_or table j 0) n k (rw (← h) l)))

-- ---- the tables of an answer

module _ (r : Result Unpacked McError) where
  pub packs-accepted : (u : Unpacked) → r ≡ Ok u
      → u.payload_bits % 16777216 * 256 + u.lf_scalefactor * 4294967296 + u.excess_codes % 16777216 * 1099511627776 ≡ packed_tables (answered r)
  packs-accepted u q = rw q

  pub packs-refused : (e : McError) (n : ℕ) → r ≡ Err e → n ≡ packed_refusal (refusal_of e) → n ≡ packed_tables (answered r)
  packs-refused e n q en = rw q en

  -- what stands in the five tables after a call
  abbrev pub Written : List ℕ → List ℕ → List ℕ → List Float → List ℕ → List ℕ → List ℕ → List ℕ → List Float → List ℕ → List ℕ → Type 0
  Written predsi scfsi₀ delays₀ coefs₀ scalefactors₀ excesses₀ scfsi delays coefs scalefactors excesses =
      (scfsi ≡ scfsi_after (answered r) scfsi₀)
      × (delays ≡ delays_after (answered r) delays₀)
      × (coefs ≡ coefs_after predsi (answered r) coefs₀)
      × (scalefactors ≡ scalefactors_after (answered r) scalefactors₀)
      × (excesses ≡ excesses_after (answered r) excesses₀)

  module _ (predsi : List ℕ) (scfsi₀ delays₀ : List ℕ) (coefs₀ : List Float) (scalefactors₀ excesses₀ : List ℕ) where
    pub writes-accepted : (u : Unpacked) → r ≡ Ok u → (scfsi delays : List ℕ) (coefs : List Float) (scalefactors excesses : List ℕ)
        → scfsi ≡ entries 96 u.scfsi → delays ≡ flat_delays (delays_from u.predictors) → coefs ≡ flat_coefs (coefs_from predsi u.predictors) → scalefactors ≡ entries 288 u.scalefactors
        → excesses ≡ entries 1152 u.excesses
        → Written predsi scfsi₀ delays₀ coefs₀ scalefactors₀ excesses₀ scfsi delays coefs scalefactors excesses
    writes-accepted u q scfsi delays coefs scalefactors excesses es ed ec ef ex = rw q (es, ed, ec, ef, ex)

    pub writes-refused : (e : McError) → r ≡ Err e → Written predsi scfsi₀ delays₀ coefs₀ scalefactors₀ excesses₀ scfsi₀ delays₀ coefs₀ scalefactors₀ excesses₀
    writes-refused e q = rw q (refl, refl, refl, refl, refl)

-- ---- what an unpacking leaves

-- buffers with other raw and LFE values
abbrev pub samples_in : Buffers → List Float → List Float → Buffers
samples_in w raw lfe = buffers_from w.scfsi w.delays w.coefs w.scalefactors w.excesses raw lfe

module _ (r : Result Unpacked McError) (w : Buffers) (raw lfe : List Float) where
  left-of : (s : McSettings) (o : Outcome Codes) → after_of r raw lfe ≡ leaves s w.raw w.lfe o
      → after_by (packed_tables (answered r)) (tables_after s.status.mc_prediction (answered r) (samples_in w raw lfe)) ≡ left_by s w o
  unfolding left_by record_of
  left-of s (accepted c used) ea =
      let eo : answered r ≡ accepted (tables_of s c, excess_codes (excesses_of s c)) used = ap (λ (x : Unpacking.After). x.outcome) ea in
      let er : raw ≡ raw_of s c = ap (λ (x : Unpacking.After). x.raw) ea in
      let el : lfe ≡ lfe_of s.lfe_allocation c = ap (λ (x : Unpacking.After). x.lfe) ea in
      rw (eo, er, el, delays-record c, coefs-record s.status.mc_prediction c)
  left-of s (refused x) ea =
      let eo : answered r ≡ refused x = ap (λ (x : Unpacking.After). x.outcome) ea in
      let er : raw ≡ w.raw = ap (λ (x : Unpacking.After). x.raw) ea in
      let el : lfe ≡ w.lfe = ap (λ (x : Unpacking.After). x.lfe) ea in
      rw (eo, er, el)

  left-by : (l : Loan) → length w.raw ≡ 3456 → length w.lfe ≡ 12 → (payload : List ℕ) (bits : ℕ) → after_of r raw lfe ≡ unpack_call l payload bits w.raw w.lfe
      → after_by (packed_tables (answered r)) (tables_after l.status.mc_prediction (answered r) (samples_in w raw lfe)) ≡ left_by (settings_of l) w (unpack_of l payload bits)
  unfolding unpack_call checked_of settings_of
  left-by l hr hl payload bits ea =
      let f : room_fits (length w.raw) (length w.lfe) ≡ true = rw (eq-eqb (length w.raw) 3456 hr, eq-eqb (length w.lfe) 12 hl) in
      left-of (settings_of l) (unpack_of l payload bits) (rw f at ea)

-- ---- the whole call

module _ (l : Lent) (w : Buffers) (a : Bool) (ea : a ≡ lent_fits l w) where
  pub after-lent : a ≡ false → after_by (packed_tables (answered (Err InvalidArgument))) w ≡ part_of l w
  unfolding part_of
  after-lent t = rw (← ea, t)

  module _ (ta : a ≡ true) where
    pub fits : lent_fits l w ≡ true
    fits = sym ea ∙ ta

    -- buffers of the right length
    pub long : (length w.scfsi ≡ 96) × (length w.delays ≡ 48) × (length w.coefs ≡ 144) × (length w.scalefactors ≡ 288) × (length w.excesses ≡ 1152) × (length w.raw ≡ 3456) × (length w.lfe ≡ 12)
    unfolding lent_by
    long =
        let b = both_true (string_fits l.head l.head_bits) _ fits in
        let c = both_true (string_fits l.payload l.payload_bits) _ b.1 in
        let d = both_true (loan_fits l.reading l.rate l.base_channels l.lfe l.steps l.base_steps) _ c.1 in
        let e = both_true (eqb (length w.scfsi) 96) _ d.1 in
        let f = both_true (eqb (length w.delays) 48) _ e.1 in
        let g = both_true (eqb (length w.coefs) 144) _ f.1 in
        let h = both_true (eqb (length w.scalefactors) 288) _ g.1 in
        let x = both_true (eqb (length w.excesses) 1152) _ h.1 in
        let k = both_true (eqb (length w.raw) 3456) _ x.1 in
        (eqb-true _ 96 e.0, eqb-true _ 48 f.0, eqb-true _ 144 g.0, eqb-true _ 288 h.0, eqb-true _ 1152 x.0, eqb-true _ 3456 k.0, eqb-true _ 12 k.1)

    -- a head that was refused, and what `?` returns then
    pub after-head : (e : McError) → refused (refusal_of e) ≡ head_of l.reading l.head l.head_bits l.base_channels → (r : Result Unpacked McError) → IsErrAnd r (λ x. x ≡ e)
        → after_by (packed_tables (answered r)) w ≡ part_of l w
    unfolding part_of under_head
    after-head e o r i = let q = err_from_is_err_and r i in rw (← ea, ta, ← o, q.1, q.2)

    module _ (h : McHead) (o : Answer.outcome_of (Ok h) ≡ head_of l.reading l.head l.head_bits l.base_channels) (raw lfe : List Float) where
      -- what unpacking answers, with its tables written
      pub after-payload : (r : Result Unpacked McError)
          → after_of r raw lfe ≡ unpack_call (loan_by l.reading l.rate l.base_channels h.header h.status l.lfe l.steps l.base_steps) l.payload l.payload_bits w.raw w.lfe
          → after_by (packed_tables (answered r)) (tables_after h.status.mc_prediction (answered r) (samples_in w raw lfe)) ≡ part_of l w
      unfolding part_of under_head
      after-payload r e =
          left-by r w raw lfe (loan_by l.reading l.rate l.base_channels h.header h.status l.lfe l.steps l.base_steps) long.5 long.6 l.payload l.payload_bits e ∙ rw (← ea, ta, ← o)

      -- a payload that was refused, and what `?` returns then
      pub after-refused : (e : McError)
          → after_of (Err e) raw lfe ≡ unpack_call (loan_by l.reading l.rate l.base_channels h.header h.status l.lfe l.steps l.base_steps) l.payload l.payload_bits w.raw w.lfe
          → (r : Result Unpacked McError) → IsErrAnd r (λ x. x ≡ e) → after_by (packed_tables (answered r)) (samples_in w raw lfe) ≡ part_of l w
      after-refused e ex r i = let q = err_from_is_err_and r i in rw (q.1, q.2) (after-payload (Err e) ex)

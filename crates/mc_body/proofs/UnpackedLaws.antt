-- Each way through a frame from its payload on leaves what the definition says.
use Rattle.std.specs.Prelude.{◌≡◌, Bool, not, cond, List, ℕ, ◌+◌, ◌*◌, ◌≤◌, Float, length, Result, Ok, Err}
use Rattle.std.specs.Result.{IsErrAnd}
use Rattle.std.proofs.lemmas.Result.{err_from_is_err_and}
use Rattle.std.proofs.Math.Path.{sym}
use Rattle.std.proofs.Common.{◌∙◌, arith, Fits}
use Rattle.std.proofs.Math.Bool.{true, false}
use Rattle.std.proofs.lemmas.Bool.{not-true, not-false}
use Rattle.std.specs.Int.{w8}
use Rattle.mc_config.specs.Config.{config_of, layout_of}
use Rattle.mc_config.specs.declared.McConfig.{McConfig}
use Rattle.bits.specs.Syntax.{plain, accepted, refused, run}
use Rattle.bits.proofs.Yields.{accepted-yields}
use Rattle.mc_error.specs.Error.{refusal_of}
use Rattle.mc_error.specs.declared.McError.{McError}
use Rattle.mc_error.specs.declared.McError.TheVariants.{ConfigChanged}
use Rattle.mc_payload.specs.declared.McSettings.{McSettings}
use Rattle.mc_codes.specs.declared.payload.PayloadCodes.{PayloadCodes}
use Rattle.mc_codes.specs.Outcome.{codes_of, outcome_of}
use Rattle.mc_payload.specs.Payload.{Codes}
use Rattle.mc_unpack.specs.Settled.{settled_of, Numbered}
use Rattle.mc_unpack.specs.Writable.{Writable}
use Rattle.mc_unpack.proofs.SettledLaws.{settled-number, settled-writable}
use Rattle.mc_payload.specs.Record.{raw_of, lfe_of, excesses_of, record_of, excess_codes}
use Rattle.mc_payload.specs.Unpack.{allocations_fit, payload_of, Loan, settings_of}
use Rattle.mc_payload.proofs.Demand3.Widths.{codes-fit}
use Rattle.mc_base.specs.Base.{Base}
use Rattle.mc_output.specs.Output.{channels, work_of, output_of}
use Rattle.mc_history.specs.History.{history_at, history_of}
use Rattle.mc_finish.specs.Finish.{BaseFits}
use Rattle.mc_finish.proofs.Laws.Finish.{scaled_base}
use Rattle.mc_state.specs.declared.Accepted.{Accepted}
use Rattle.mc_state.specs.declared.held.HeldLayout.{HeldLayout}
use Rattle.mc_state.specs.declared.McDecodeState.{McDecodeState}
use Rattle.mc_state.specs.Held.{channels_by, layout_for, follows_by, follows, layout_after}
use Rattle.mc_state.proofs.HeldLaws.{layout-small}
use Rattle.mc_state.specs.Desk.{tallied}
use Rattle.mc_state.specs.Frame.{Buffers, verdict_unpacked, answer_of, written, buffers_of, state_of, after_unpacked}
use Rattle.mc_state.specs.Answer.{buffers_from, after_by}
use Rattle.mc_state.specs.Long.{Long, Delayed}
use Rattle.mc_body.proofs.WriteLaws.{delayed}

-- ---- what was read

settled-ran : (s : McSettings) (bytes : List ℕ) (bits : ℕ) (c : Codes) (u : ℕ) (t : Bool) → cond t (run (payload_of s) bytes bits 0) (refused (plain 8)) ≡ accepted c u
    → run (payload_of s) bytes bits 0 ≡ accepted c u
settled-ran s bytes bits c u true e = e
settled-ran s bytes bits c u false e = let z : ◌≡◌ {A = ℕ} 0 1 = cc in absurd (omega arith)

-- ---- what the parts require

module _ (s : McSettings) (l : Loan) (es : s ≡ settings_of l) where
  pub lfe-low : l.lfe ≤ 15 → s.lfe_allocation ≤ 15
  unfolding settings_of
  lfe-low h = rw es h

  pub surround-low : l.header.surround ≤ 3 → s.header.surround ≤ 3
  unfolding settings_of
  surround-low h = rw es h

  module _ (base : Base) (w : Buffers) (h : Long l.base_channels base w) where
    pub base-fits : BaseFits s base
    unfolding settings_of
    base-fits = rw es (record { raw_left_long = h.raw_left; raw_right_long = h.raw_right; scaled_left_long = h.scaled_left; scaled_right_long = h.scaled_right })

-- history looks at the scaled values alone
pub history-same : (s : McSettings) (base : Base) (h : List Float) → h ≡ history_of s (scaled_base base.scaled_left base.scaled_right) → h ≡ history_of s base
unfolding history_of history_at
history-same s base h e = e

-- ---- the frame's layout

module _ (s : McSettings) (k : McConfig) (e : k ≡ config_of s.header s.base_channels) where
  pub count-is : (n : ℕ) → n ≡ length (channels_by k.front s.header.surround) → n ≡ channels s
  unfolding config_of layout_of
  count-is n en = rw (en, e)

  module _ (h : s.header.surround ≤ 3) where
    number_small : 10 * k.front + s.header.surround ≤ 33
    number_small = rw e (layout-small s h)

    pub tens-fit : Fits w8 (10 * k.front)
    tens-fit = record { fits = omega (arith, number_small) }

    pub number_fits : Fits w8 (10 * k.front + s.header.surround)
    number_fits = record { fits = omega (arith, number_small) }

    pub number_is : 10 * k.front + s.header.surround ≡ layout_for s
    number_is = rw e

-- ---- what is written

pub written_is : (s : McSettings) (c : Codes) (base : Base) (history raw work output lfe : List Float)
    → raw ≡ raw_of s c → work ≡ work_of s (record_of s c) base history → output ≡ output_of s base work → lfe ≡ lfe_of s.lfe_allocation c
    → buffers_from raw work output lfe ≡ written s c base history
unfolding written record_of
written_is s c base history raw work output lfe er ew eo el = rw (er, eo, ew, el)

-- ---- what a payload was settled as

-- by what reading it answered
module _ (s : McSettings) (payload : List ℕ) (bits : ℕ) (x : Result (Unit {0}) McError) (codes : PayloadCodes) (o : outcome_of x codes ≡ settled_of s payload bits) where
  pub is-refused : (e : McError) → x ≡ Err e → settled_of s payload bits ≡ refused (refusal_of e)
  is-refused e z = sym o ∙ rw z

  pub refused-number : (e : McError) → x ≡ Err e → Numbered (refusal_of e).number
  refused-number e z = settled-number s payload bits (refusal_of e) (is-refused e z)

  pub is-accepted : (u : Unit {0}) → x ≡ Ok u → settled_of s payload bits ≡ accepted (codes_of codes) codes.bits
  is-accepted u z = sym o ∙ rw z

module _ (s : McSettings) (payload : List ℕ) (bits : ℕ) (codes : PayloadCodes) (o : accepted (codes_of codes) codes.bits ≡ settled_of s payload bits) where
  pub writable : Writable s (codes_of codes)
  writable = settled-writable s payload bits (codes_of codes) codes.bits (sym o)

  pub delays-small : Delayed codes.predictors
  unfolding settled_of
  delays-small =
      delayed s (codes_of codes)
      (accepted-yields (codes-fit s) payload bits 0 (codes_of codes) codes.bits
      (settled-ran s payload bits (codes_of codes) codes.bits (allocations_fit s) (sym o)))

-- ---- the three ways to end

module _ (st : McDecodeState) (desk head_used : ℕ) (base : Base) (w : Buffers) (s : McSettings) (payload : List ℕ) (bits : ℕ) (s' : McSettings) (es : s ≡ s') where
  -- what `?` returns where the payload was refused
  pub after-refused : (e : McError) → refused (refusal_of e) ≡ settled_of s payload bits → (x : Result Accepted McError) → IsErrAnd x (λ y. y ≡ e)
      → after_by x st w ≡ after_unpacked st desk s' head_used payload bits base w
  unfolding after_unpacked verdict_unpacked answer_of buffers_of state_of
  after-refused e o x i = let p = err_from_is_err_and x i in rw (← es, ← o, p.1, p.2)

  module _ (codes : PayloadCodes) (o : accepted (codes_of codes) codes.bits ≡ settled_of s payload bits) (n : ℕ) (en : n ≡ channels s) (own : ℕ) (el : own ≡ layout_for s) (h : List Float) (eh : h ≡ history_of s base) (held : HeldLayout)
      (eq : (held.count ≡ st.layout_len) × (held.layout ≡ st.layout)) (b : Bool) (eb : b ≡ follows_by s.reading held.count held.layout n own) where
    pub after-changed : not b ≡ true
        → after_by (Err ConfigChanged) (record { pred_hist = h; layout_len = st.layout_len; layout = st.layout; accepted = st.accepted }) w
        ≡ after_unpacked st desk s' head_used payload bits base w
    unfolding after_unpacked verdict_unpacked answer_of buffers_of state_of follows
    after-changed t =
        let f : follows_by s.reading st.layout_len st.layout (channels s) (layout_for s) ≡ false = rw (← en, ← el, ← eq.0, ← eq.1, ← eb) (not-true b t) in
        rw (← es, ← o, f, eh)

    pub after-accepted : not b ≡ false → (k : ℕ) → k ≡ layout_after s.reading held.layout own → (a : List ℕ) → a ≡ tallied desk st.accepted → (count : ℕ) → count ≡ excess_codes (excesses_of s (codes_of codes)) → (w' : Buffers) → w' ≡ written s (codes_of codes) base st.pred_hist
        → after_by (Ok (record { head_bits = head_used; payload_bits = codes.bits; excess_codes = count })) (record { pred_hist = h; layout_len = n; layout = k; accepted = a }) w'
        ≡ after_unpacked st desk s' head_used payload bits base w
    unfolding after_unpacked verdict_unpacked answer_of buffers_of state_of follows
    after-accepted t k ek a ea count ec w' ew =
        let f : follows_by s.reading st.layout_len st.layout (channels s) (layout_for s) ≡ true = rw (← en, ← el, ← eq.0, ← eq.1, ← eb) (not-false b t) in
        rw (← es, ← o, f, eh, ek, eq.1, en, el, ea, ec, ew)

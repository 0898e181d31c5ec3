-- What a tested loan brings, and that each way through a frame call leaves what the definition says.
use Rattle.std.specs.Prelude.{◌≡◌, Bool, true, false, ℕ, ◌≤◌, ◌<◌, eqb, leb, length, Result, Ok, Err}
use Rattle.std.specs.Result.{IsErrAnd}
use Rattle.std.proofs.lemmas.Result.{err_from_is_err_and}
use Rattle.std.proofs.Common.{sym, ◌∙◌}
use borrow.Author.Tests.{eqb-true, leb-true, le-leb, lt-leb}
use Rattle.mc_error.specs.declared.McError.{McError}
use Rattle.mc_error.specs.declared.McError.TheVariants.{InvalidArgument, InvalidDesk, ValueOutOfRange}
use Rattle.mc_head.specs.Answer
use Rattle.mc_config.specs.Reading.{reading_fits}
use Rattle.mc_fields.proofs.HeadYields.{header-fits}
use Rattle.mc_fields.specs.Lent.{string_fits, base_fits, head_of}
use Rattle.mc_fields.proofs.LentLaws.{lent-accepted}
use Rattle.mc_head.specs.declared.McHead.{McHead}
use Rattle.mc_payload.specs.Unpack.{rate_fits, loan_fits, settings_of, loan_by}
use Rattle.mc_payload.proofs.Demand3.Accepted.{both_true}
use Rattle.mc_state.specs.declared.Accepted.{Accepted}
use Rattle.mc_state.specs.declared.McDecodeState.{McDecodeState}
use Rattle.mc_state.specs.Frame.{Lent, Buffers, After, right_length, values_long, room_fits, lent_by, lent_fits, values_fit, verdict_head, verdict_of, answer_of, buffers_of, state_of, after_unpacked, frame_of}
use Rattle.mc_state.specs.Answer.{after_by}
use Rattle.mc_state.specs.Long.{Long}

module _ (l : Lent) (w : Buffers) (st : McDecodeState) (a : Bool) (ea : a ≡ lent_fits l w st) where
  pub after-lent : a ≡ false → after_by (Err InvalidArgument) st w ≡ frame_of l w st
  unfolding frame_of verdict_of answer_of buffers_of state_of
  after-lent t = rw (← ea, t)

  module _ (ta : a ≡ true) where
    fits : lent_fits l w st ≡ true
    fits = sym ea ∙ ta

    -- a loan and lengths that fit
    parts : (loan_fits l.reading l.rate l.base_channels l.lfe l.steps l.base_steps ≡ true)
        × ((values_long l.base_channels (length l.base.raw_left) (length l.base.raw_right) (length l.base.scaled_left) (length l.base.scaled_right) ≡ true)
        × (room_fits (length w.raw) (length w.work) (length w.output) (length w.lfe) ≡ true))
    unfolding lent_by
    parts =
        let b = both_true (string_fits l.head l.head_bits) _ fits in
        let c = both_true (string_fits l.payload l.payload_bits) _ b.1 in
        let d = both_true (loan_fits l.reading l.rate l.base_channels l.lfe l.steps l.base_steps) _ c.1 in
        let e = both_true (values_long l.base_channels (length l.base.raw_left) (length l.base.raw_right) (length l.base.scaled_left) (length l.base.scaled_right)) _ d.1 in
        let f = both_true (room_fits (length w.raw) (length w.work) (length w.output) (length w.lfe)) _ e.1 in
        (d.0, (e.0, f.0))

    pub lfe-low : l.lfe ≤ 15
    unfolding loan_fits
    lfe-low =
        let k = both_true (reading_fits l.reading) _ parts.0 in
        let b = both_true (rate_fits l.rate) _ k.1 in
        let c = both_true (base_fits l.base_channels) _ b.1 in
        leb-true l.lfe 15 (both_true (leb l.lfe 15) _ c.1).0

    pub long : Long l.base_channels l.base w
    long =
        let r : ℕ = right_length l.base_channels in
        let b = both_true (eqb (length l.base.raw_left) 1152) _ parts.1.0 in
        let c = both_true (eqb (length l.base.raw_right) r) _ b.1 in
        let d = both_true (eqb (length l.base.scaled_left) 1152) _ c.1 in
        let e = both_true (eqb (length w.raw) 3456) _ parts.1.1 in
        let f = both_true (eqb (length w.work) 3456) _ e.1 in
        let g = both_true (eqb (length w.output) 5760) _ f.1 in
        record {
          raw_left = eqb-true _ 1152 b.0;
          raw_right = eqb-true _ r c.0;
          scaled_left = eqb-true _ 1152 d.0;
          scaled_right = eqb-true _ r d.1;
          raw = eqb-true _ 3456 e.0;
          work = eqb-true _ 3456 f.0;
          output = eqb-true _ 5760 g.0;
          lfe = eqb-true _ 12 g.1;
        }

    pub after-desk : 7 < l.desk → after_by (Err InvalidDesk) st w ≡ frame_of l w st
    unfolding frame_of verdict_of answer_of buffers_of state_of
    after-desk h = rw (← ea, ta, lt-leb l.desk 7 h)

    module _ (low : l.desk ≤ 7) (b : Bool) (eb : b ≡ values_fit l.base st.pred_hist) where
      pub after-values : b ≡ false → after_by (Err ValueOutOfRange) st w ≡ frame_of l w st
      unfolding frame_of verdict_of answer_of buffers_of state_of
      after-values t = rw (← ea, ta, le-leb l.desk 7 low, ← eb, t)

      module _ (tb : b ≡ true) (r : Result McHead McError) (er : Answer.outcome_of r ≡ head_of l.reading l.head l.head_bits l.base_channels) where
        -- what `?` returns of a refused head
        pub after-head : (e : McError) → r ≡ Err e → (x : Result Accepted McError) → IsErrAnd x (λ y. y ≡ e) → after_by x st w ≡ frame_of l w st
        unfolding frame_of verdict_of verdict_head answer_of buffers_of state_of
        after-head e q x i = let p = err_from_is_err_and x i in rw (p.1, p.2, ← ea, ta, le-leb l.desk 7 low, ← eb, tb, ← er, q)

        module _ (h : McHead) (q : r ≡ Ok h) where
          pub surround-low : h.header.surround ≤ 3
          surround-low =
              (header-fits l.reading l.base_channels l.head l.head_bits 0 h.header h.check_word h.status h.used
              (lent-accepted l.reading l.head l.head_bits l.base_channels (h.header, (h.check_word, h.status)) h.used (sym er ∙ rw q))).surround

          pub after-payload : (x : After)
              → x ≡ after_unpacked st l.desk (settings_of (loan_by l.reading l.rate l.base_channels h.header h.status l.lfe l.steps l.base_steps)) h.used l.payload l.payload_bits l.base w
              → x ≡ frame_of l w st
          unfolding frame_of verdict_of verdict_head after_unpacked
          after-payload x e = e ∙ rw (← ea, ta, le-leb l.desk 7 low, ← eb, tb, ← er, q)

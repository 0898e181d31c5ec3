-- What a reading does to a whole frame call: a number that is none is refused, and so is a centre code that has no meaning under the reading;
-- any other frame is one of reading 1, over one base channel that with centre code 1 in place of 3, unless its layout is another than the one that is held.
use Rattle.std.specs.Prelude.{◌≡◌, Bool, cond, List, ℕ, length}
use Rattle.std.proofs.Math.Path.{refl}
use Rattle.std.proofs.Common.{◌∙◌}
use Rattle.std.proofs.Math.Bool.{true, false, and-false}
use Rattle.std.proofs.Math.Logic.{inl}
use Rattle.bits.specs.Syntax.{Refusal, plain, Outcome, accepted, refused, run}
use Rattle.mc_config.specs.Reading.{reading_fits, centre_stops}
use Rattle.mc_config.proofs.ReadingLaws.{without_phantom}
use Rattle.mc_config.specs.declared.McHeader.{McHeader}
use Rattle.mc_fields.specs.declared.McStatus.{McStatus}
use Rattle.mc_fields.specs.Head.{mc_header}
use Rattle.mc_fields.specs.Lent.{string_fits, base_fits, head_fits, head_of}
use Rattle.mc_fields.proofs.HeadYields.{header-fits}
use Rattle.mc_fields.proofs.LentLaws.{lent-fits, lent-only, lent-accepted}
use Rattle.mc_fields.proofs.ReadingLaws.{header_refused, centre-stopped, centre-known}
use Rattle.mc_payload.specs.Unpack.{rate_fits, loan_fits, settings_of}
use Rattle.mc_payload.proofs.Demand3.Accepted.{both_true}
use Rattle.mc_payload.proofs.Alike.{Alike}
use Rattle.mc_payload.proofs.ReadingLaws.{alike-stereo, alike-mono}
use Rattle.mc_state.specs.declared.McDecodeState.{McDecodeState}
use Rattle.mc_state.specs.Held.{held_fits}
use Rattle.mc_state.specs.Desk.{desk_fits}
use Rattle.mc_state.specs.Frame.{Lent, Buffers, After, Verdict, refusal, values_long, room_fits, lent_by, lent_fits, values_fit, settings_for, verdict_head, verdict_of, answer_of, buffers_of, state_of, after_verdict, after_unpacked, frame_of}
use Rattle.mc_state.proofs.AlikeLaws.{Judged, same-but, frame-judged}

-- refused so, and nothing is changed
abbrev pub stopped_by : Refusal → Buffers → McDecodeState → After
stopped_by x w st = record { answer = refused x; buffers = w; state = st }

module _ (l : Lent) (w : Buffers) (st : McDecodeState) where
  -- another number than 1 or 2
  pub wrong-reading : reading_fits l.reading ≡ false → frame_of l w st ≡ stopped_by (plain 6) w st
  unfolding frame_of verdict_of answer_of buffers_of state_of lent_by loan_fits
  wrong-reading e = rw (e, and-false (string_fits l.payload l.payload_bits), and-false (string_fits l.head l.head_bits))

  module _ (fits : lent_fits l w st ≡ true) (desk : desk_fits l.desk ≡ true) (values : values_fit l.base st.pred_hist ≡ true) where
    -- what may be lent to the frame call may be lent to the head
    head-lent : head_fits l.reading l.head l.head_bits l.base_channels ≡ true
    unfolding lent_by loan_fits head_fits
    head-lent =
        let head = both_true (string_fits l.head l.head_bits) _ fits in
        let payload = both_true (string_fits l.payload l.payload_bits) _ head.1 in
        let loan = both_true (loan_fits l.reading l.rate l.base_channels l.lfe l.steps l.base_steps) _ payload.1 in
        let reading = both_true (reading_fits l.reading) _ loan.0 in
        let rate = both_true (rate_fits l.rate) _ reading.1 in
        let base = both_true (base_fits l.base_channels) _ rate.1 in
        rw (reading.0, head.0, base.0)

    -- a head that is refused
    refused-head : (x : Refusal) → head_of l.reading l.head l.head_bits l.base_channels ≡ refused x → frame_of l w st ≡ stopped_by x w st
    unfolding frame_of verdict_of verdict_head answer_of buffers_of state_of
    refused-head x e = rw (fits, desk, values, e)

    -- a header that is cut, before its centre code is looked at
    pub header-stops : (x : Refusal) → run mc_header l.head l.head_bits 0 ≡ refused x → frame_of l w st ≡ stopped_by x w st
    header-stops x e =
        refused-head x
        (lent-fits l.reading l.head l.head_bits l.base_channels head-lent
        ∙ header_refused l.reading l.base_channels l.head l.head_bits 0 x e)

    -- centre code 2 under reading 2, whatever follows the header
    pub centre-stops : (h : McHeader) (u : ℕ) → run mc_header l.head l.head_bits 0 ≡ accepted h u → centre_stops l.reading h.centre ≡ true
        → frame_of l w st ≡ stopped_by (plain 13) w st
    centre-stops h u e t =
        refused-head (plain 13)
        (lent-fits l.reading l.head l.head_bits l.base_channels head-lent
        ∙ centre-stopped l.reading l.base_channels l.head l.head_bits 0 h u e t)

-- ---- frames of reading 1

-- the same call under reading 1, with this head
abbrev pub under_first : Lent → List ℕ → ℕ → Lent
under_first l head head_bits =
    record {
      head = head;
      head_bits = head_bits;
      payload = l.payload;
      payload_bits = l.payload_bits;
      reading = 1;
      desk = l.desk;
      rate = l.rate;
      base_channels = l.base_channels;
      base = l.base;
      base_steps = l.base_steps;
      lfe = l.lfe;
      steps = l.steps;
    }

module _ (l : Lent) (w : Buffers) (st : McDecodeState) (head : List ℕ) (head_bits : ℕ) where
  abbrev first : Lent
  first = under_first l head head_bits

  -- what a call leaves, by the head that it has read
  abbrev found : Lent → Outcome (McHeader × (ℕ × McStatus)) → After
  found k o = after_verdict (verdict_head k st o) l.desk l.base w st

  -- by the tests of what is lent
  abbrev tested : Bool → Bool → Bool → Verdict → After
  tested lent desk values v = after_verdict (cond lent (cond desk (cond values v (refusal (plain 7))) (refusal (plain 14))) (refusal (plain 6))) l.desk l.base w st

  frames-same : lent_fits l w st ≡ lent_fits first w st
      → (lent_fits first w st ≡ true → Judged st (found l (head_of l.reading l.head l.head_bits l.base_channels)) (found first (head_of 1 head head_bits l.base_channels)))
      → Judged st (frame_of l w st) (frame_of first w st)
  unfolding frame_of verdict_of
  frames-same fits same = rw fits (go (lent_fits first w st) (desk_fits l.desk) (values_fit l.base st.pred_hist) refl)
    where
      go : (lent desk values : Bool) → lent_fits first w st ≡ lent
          → Judged st
          (tested lent desk values (verdict_head l st (head_of l.reading l.head l.head_bits l.base_channels)))
          (tested lent desk values (verdict_head first st (head_of 1 head head_bits l.base_channels)))
      go true true true e = same e
      go true true false e = inl (same-but _)
      go true false values e = inl (same-but _)
      go false desk values e = inl (same-but _)

  held-fits : lent_fits first w st ≡ true → held_fits st.layout_len st.layout ≡ true
  unfolding lent_by
  held-fits e =
      let a = both_true (string_fits head head_bits) _ e in
      let b = both_true (string_fits l.payload l.payload_bits) _ a.1 in
      let c = both_true (loan_fits 1 l.rate l.base_channels l.lfe l.steps l.base_steps) _ b.1 in
      let d = both_true (values_long l.base_channels (length l.base.raw_left) (length l.base.raw_right) (length l.base.scaled_left) (length l.base.scaled_right)) _ c.1 in
      (both_true (room_fits (length w.raw) (length w.work) (length w.output) (length w.lfe)) _ d.1).1

  heads-same : (h h' : McHeader) (word word' : ℕ) (status : McStatus) (used : ℕ)
      → head_of l.reading l.head l.head_bits l.base_channels ≡ accepted (h, (word, status)) used
      → Alike (settings_for l h status) (settings_for first h' status) → lent_fits first w st ≡ true
      → Judged st (found l (accepted (h, (word, status)) used)) (found first (accepted (h', (word', status)) used))
  unfolding verdict_head after_unpacked settings_of
  heads-same h h' word word' status used read e lent =
      let low =
      (header-fits l.reading l.base_channels l.head l.head_bits 0 h word status used
      (lent-accepted l.reading l.head l.head_bits l.base_channels (h, (word, status)) used read)).surround
      in
      frame-judged (settings_for l h status) (settings_for first h' status) e l.base st l.desk used w (held-fits lent) low refl l.payload l.payload_bits

  -- over one base channel reading 2 gives the frame whose head has centre code 1 in place of 3
  pub mono-frame : l.reading ≡ 2 → l.base_channels ≡ 1 → (h : McHeader) (word word' : ℕ) (status : McStatus) (used : ℕ)
      → head_of l.reading l.head l.head_bits l.base_channels ≡ accepted (h, (word, status)) used
      → head_of 1 head head_bits l.base_channels ≡ accepted (without_phantom h, (word', status)) used
      → Judged st (frame_of l w st) (frame_of first w st)
  unfolding lent_by loan_fits head_fits
  mono-frame r b h word word' status used e e' =
      frames-same fits (λ lent. rw (e, e') (heads-same h (without_phantom h) word word' status used e alike lent))
    where
      fits : lent_fits l w st ≡ lent_fits first w st
      fits =
          let lent = both_true (reading_fits l.reading) _ (lent-only l.reading l.head l.head_bits l.base_channels _ used e) in
          let other = lent-only 1 head head_bits l.base_channels _ used e' in
          rw ((both_true (string_fits l.head l.head_bits) _ lent.1).0, (both_true (string_fits head head_bits) _ other).0, lent.0)

      alike : Alike (settings_for l h status) (settings_for first (without_phantom h) status)
      alike = rw (r, b) (alike-mono l.rate status l.lfe l.steps l.base_steps h)

-- over two base channels every reading gives the frame of reading 1, unless the centre code stops it
module _ (l : Lent) (w : Buffers) (st : McDecodeState) (fits : reading_fits l.reading ≡ true) (n : l.base_channels ≡ 1 → ⊥) (h : McHeader) (u : ℕ)
    (e : run mc_header l.head l.head_bits 0 ≡ accepted h u) (known : centre_stops l.reading h.centre ≡ false) where
  head-same : head_of l.reading l.head l.head_bits l.base_channels ≡ head_of 1 l.head l.head_bits l.base_channels
  unfolding head_of head_fits
  head-same = rw (fits, centre-known l.reading l.base_channels l.head l.head_bits 0 h u e known)

  pub stereo-frame : Judged st (frame_of l w st) (frame_of (under_first l l.head l.head_bits) w st)
  unfolding lent_by loan_fits verdict_head
  stereo-frame =
      frames-same l w st l.head l.head_bits (rw fits) (λ lent. rw (← head-same) (go lent (head_of l.reading l.head l.head_bits l.base_channels) refl))
    where
      go : lent_fits (under_first l l.head l.head_bits) w st ≡ true → (o : Outcome (McHeader × (ℕ × McStatus)))
          → head_of l.reading l.head l.head_bits l.base_channels ≡ o
          → Judged st (found l w st l.head l.head_bits l o) (found l w st l.head l.head_bits (under_first l l.head l.head_bits) o)
      go lent (refused x) q = inl (same-but _)
      go lent (accepted (h, (word, status)) used) q =
          heads-same l w st l.head l.head_bits h h word word status used q (alike-stereo l.rate status l.lfe l.steps l.base_steps l.reading l.base_channels h n) lent

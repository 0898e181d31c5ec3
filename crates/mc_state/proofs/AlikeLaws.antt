-- Settings that are alike give the same frame from the payload on, but for the layout that is held.
use Rattle.std.proofs.Math.Path.{◌≡◌, refl, sym}
use Rattle.std.proofs.Common.{ap, ◌∙◌, ⊎_elim, arith, eq-eqb}
use Rattle.std.specs.Prelude.{Bool, cond, List, ◌⊎◌, eqb, Float, length}
use Rattle.std.proofs.Math.Bool.{true, false, or-true}
use Rattle.std.proofs.Math.Logic.{inl, inr}
use Prim.Native.Nat.{ℕ, zero, suc, ◌*◌, ◌/◌, ◌%◌, ◌≤◌}
use Rattle.fill.proofs.TabLaws.{tab-same}
use Rattle.bits.specs.Syntax.{plain, Outcome, accepted, refused}
use Rattle.mc_payload.specs.declared.McSettings.{McSettings}
use Rattle.mc_payload.specs.Payload.{Codes}
use Rattle.mc_payload.specs.Record.{Record, record_of}
use Rattle.mc_payload.proofs.Alike.{Alike, source-alike, base-alike, steps_alike, allocations-alike, payload-alike, excesses-alike, record-alike}
use Rattle.mc_unpack.specs.Settled.{settled_of}
use Rattle.mc_base.specs.Base.{Base}
use Rattle.mc_scale.specs.Scale.{scaled_at}
use Rattle.mc_predict.specs.Predict.{with_term, sum_of, place_in, predicted_in, work_at}
use Rattle.mc_output.specs.Output.{channels, work_of, output_at, output_of}
use Rattle.mc_history.specs.History.{history_at, history_of}
use Rattle.mc_state.specs.declared.McDecodeState.{McDecodeState}
use Rattle.mc_state.specs.Held.{layout_for, held_fits, follows}
use Rattle.mc_state.proofs.HeldLaws.{lone-follows, follows-count}
use Rattle.mc_state.specs.Frame.{Buffers, After, frame, changed, verdict_unpacked, answer_of, written, buffers_of, state_of, after_verdict, after_unpacked}

-- the same but for the layout that the state holds
pub record SameBut (a b : After) : Type 0 where
  pub answer : a.answer ≡ b.answer
  pub buffers : a.buffers ≡ b.buffers
  pub history : a.state.pred_hist ≡ b.state.pred_hist
  pub count : a.state.layout_len ≡ b.state.layout_len
  pub tallies : a.state.accepted ≡ b.state.accepted

pub same-but : (a : After) → SameBut a a
same-but a = record { answer = refl; buffers = refl; history = refl; count = refl; tallies = refl }

-- the layout is another than the one that is held
pub record OtherLayout (st : McDecodeState) (a : After) : Type 0 where
  pub known : st.layout ≡ 0 → ⊥
  pub answer : a.answer ≡ refused (plain 5)

-- what a call leaves, judged by another call's
abbrev pub Judged : McDecodeState → After → After → Type 0
Judged st a b = SameBut a b ⊎ OtherLayout st a

module _ (s t : McSettings) (e : Alike s t) where
  settled-alike : (bytes : List ℕ) (bits : ℕ) → settled_of s bytes bits ≡ settled_of t bytes bits
  unfolding settled_of
  settled-alike bytes bits = rw (allocations-alike s t e, payload-alike s t e)

  predicted-alike : (sb : ℕ) → predicted_in s sb ≡ predicted_in t sb
  predicted-alike sb = rw (e.statuses, e.pairs)

  module _ (r : Record) (base : Base) (history : List Float) where
    scaled-alike : (m slot sb : ℕ) → scaled_at s r base m slot sb ≡ scaled_at t r base m slot sb
    unfolding scaled_at
    scaled-alike m slot sb = rw (steps_alike s t e m sb, source-alike s t e m sb, base-alike s t e m sb)

    sum_alike : (px sb slot n : ℕ) → sum_of s r base history px sb slot n ≡ sum_of t r base history px sb slot n
    unfolding sum_of with_term
    sum_alike px sb slot zero = refl
    sum_alike px sb slot (suc n) = rw (sum_alike px sb slot n, e.bases)

    work-at-alike : (m slot sb : ℕ) → work_at s r base history m slot sb ≡ work_at t r base history m slot sb
    unfolding work_at
    work-at-alike m slot sb =
        rw (scaled-alike m slot sb, sum_alike (2 * place_in (predicted_in s sb) m) sb slot 6, predicted-alike sb)

    work-alike : work_of s r base history ≡ work_of t r base history
    unfolding work_of
    work-alike = tab-same 3456 (λ k h. work-at-alike (k / 1152) (k / 32 % 36) (k % 32))

  channels-alike : channels s ≡ channels t
  channels-alike = ap (λ l. length l) e.layouts

  -- where no layout is held, a frame of one may follow exactly if one of the other may
  lone-alike : (count layout : ℕ) → layout ≡ 0 → follows count layout s ≡ follows count layout t
  unfolding follows
  lone-alike count layout z =
      rw (z, channels-alike) (lone-follows s.reading count (channels t) (layout_for s) ∙ sym (lone-follows t.reading count (channels t) (layout_for t)))

  -- reading 1 takes what any reading takes
  counts-taken : (count layout : ℕ) → held_fits count layout ≡ true → s.header.surround ≤ 3 → t.reading ≡ 1 → follows count layout s ≡ true → follows count layout t ≡ true
  unfolding follows
  counts-taken count layout fits low first f =
      rw first
      (⊎_elim (λ z. rw z)
      (λ q. rw (eq-eqb count (channels t) (q ∙ channels-alike)) (or-true (eqb count 0)))
      (follows-count count layout s fits low f))

  module _ (base : Base) where
    output-at-alike : (work : List Float) (ch slot sb : ℕ) → output_at s base work ch slot sb ≡ output_at t base work ch slot sb
    unfolding output_at
    output-at-alike work ch slot sb = rw (channels-alike, e.seconds, e.pairs, e.rates, e.bases, e.statuses, e.procedures)

    output-alike : (work : List Float) → output_of s base work ≡ output_of t base work
    unfolding output_of
    output-alike work = tab-same 5760 (λ k h. output-at-alike work (k / 1152) (k / 32 % 36) (k % 32))

    history-alike : history_of s base ≡ history_of t base
    unfolding history_of history_at
    history-alike = tab-same 576 (λ i h. rw e.bases)

    written-alike : (c : Codes) (history : List Float) → written s c base history ≡ written t c base history
    unfolding written
    written-alike c history =
        rw (record-alike s t e c, work-alike (record_of t c) base history, output-alike (work_of t (record_of t c) base history))

    module _ (st : McDecodeState) (desk head_used : ℕ) (w : Buffers) where
      verdict-alike : (c : Codes) (used : ℕ) (b : Bool)
          → SameBut (after_verdict (cond b (frame s c head_used used) (changed s)) desk base w st) (after_verdict (cond b (frame t c head_used used) (changed t)) desk base w st)
      unfolding answer_of buffers_of state_of
      verdict-alike c used true = record { answer = rw (excesses-alike s t e c); buffers = written-alike c st.pred_hist; history = history-alike; count = channels-alike; tallies = refl }
      verdict-alike c used false = record { answer = refl; buffers = refl; history = history-alike; count = refl; tallies = refl }

      -- if t is under reading 1, s gives the same frame, or its layout is another than the one that is held
      module _ (fits : held_fits st.layout_len st.layout ≡ true) (low : s.header.surround ≤ 3) (first : t.reading ≡ 1) where
        verdict-judged : (o : Outcome Codes)
            → Judged st (after_verdict (verdict_unpacked st s head_used o) desk base w st) (after_verdict (verdict_unpacked st t head_used o) desk base w st)
        unfolding verdict_unpacked answer_of
        verdict-judged (refused x) = inl (same-but _)
        verdict-judged (accepted c used) = go (follows st.layout_len st.layout s) (follows st.layout_len st.layout t) refl refl
          where
            go : (b d : Bool) → follows st.layout_len st.layout s ≡ b → follows st.layout_len st.layout t ≡ d
                → Judged st (after_verdict (cond b (frame s c head_used used) (changed s)) desk base w st) (after_verdict (cond d (frame t c head_used used) (changed t)) desk base w st)
            go true true p q = inl (verdict-alike c used true)
            go false false p q = inl (verdict-alike c used false)
            go true false p q =
                let r = counts-taken st.layout_len st.layout fits low first p in
                let z : ◌≡◌ {A = ℕ} 0 1 = cc in absurd (omega arith)
            go false true p q =
                inr (record {
                  known = λ z. (let r = lone-alike st.layout_len st.layout z in let n : ◌≡◌ {A = ℕ} 0 1 = cc in omega arith);
                  answer = refl;
                })

        pub frame-judged : (payload : List ℕ) (bits : ℕ) → Judged st (after_unpacked st desk s head_used payload bits base w) (after_unpacked st desk t head_used payload bits base w)
        unfolding after_unpacked
        frame-judged payload bits = rw (settled-alike payload bits) (verdict-judged (settled_of t payload bits))

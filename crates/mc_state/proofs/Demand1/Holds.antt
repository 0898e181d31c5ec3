-- What is promised on all input holds.
use Rattle.std.proofs.Math.Path.{◌≡◌, refl}
use Rattle.std.proofs.Common.{sym, ap, inl, ⊎_elim, arith}
use Rattle.std.specs.Prelude.{Bool, cond, List, ℕ}
use Rattle.std.proofs.Math.Bool.{true, false}
use Rattle.std.proofs.Math.Logic.{inr}
use Rattle.bits.specs.Syntax.{Refusal, plain, Outcome, accepted, refused, run}
use Rattle.bits.proofs.Yields.{refused-yields}
use Rattle.mc_config.specs.declared.McHeader.{McHeader}
use Rattle.mc_fields.specs.declared.McStatus.{McStatus}
use Rattle.mc_fields.specs.Head.{head}
use Rattle.mc_fields.proofs.HeadYields.{head-refused}
use Rattle.mc_fields.proofs.StatusYields.{Forbids}
use Rattle.mc_fields.specs.Lent.{head_fits, head_of}
use Rattle.mc_payload.specs.declared.McSettings.{McSettings}
use Rattle.mc_payload.specs.Payload.{Codes}
use Rattle.mc_payload.specs.Record.{excesses_of, excess_codes}
use Rattle.mc_payload.proofs.PayloadYields.{payload-yields}
use Rattle.mc_payload.specs.Unpack.{allocations_fit, payload_of}
use Rattle.mc_unpack.specs.Settled.{settled_of}
use Rattle.mc_state.specs.declared.McDecodeState.{McDecodeState}
use Rattle.mc_state.specs.Held.{follows}
use Rattle.mc_state.specs.Desk.{desk_fits}
use Rattle.mc_state.specs.Frame.{Lent, Buffers, Verdict, refusal, changed, frame, settings_for, lent_fits, values_fit, verdict_unpacked, verdict_head, verdict_of, answer_of, buffers_of, state_of, after_verdict, frame_of}
use Rattle.mc_state.specs.Demand1.{Found, among, frame_numbers, Numbered, Left, Written, RefusedLeaves, AcceptedWrites}

-- ---- refusals before the layout is compared

record Early (x : Refusal) : Type 0 where
  numbered : Numbered frame_numbers x
  before : x ≡ plain 5 → ⊥

early-plain : (n : ℕ) → among frame_numbers n ≡ true → (n ≡ 5 → ⊥) → (x : Refusal) → x ≡ plain n → Early x
early-plain n a d x e =
    rw e
    (record {
      numbered = record { number = a; group = omega arith; bare = inr refl };
      before = λ q. d (ap (λ (r : Refusal). r.number) q);
    })

early-1 : (x : Refusal) → x ≡ plain 1 → Early x
unfolding among
early-1 = early-plain 1 refl (λ q. omega arith)

forbids-early : (x : Refusal) → Forbids x → Early x
unfolding among
forbids-early x f =
    record {
      numbered = record { number = rw f.number; group = f.group; bare = inl f.number };
      before = λ q. let n : x.number ≡ 5 = ap (λ (r : Refusal). r.number) q in omega (arith, f.number);
    }

head-early : (reading : ℕ) (bytes : List ℕ) (bits base_channels : ℕ) (x : Refusal) → head_of reading bytes bits base_channels ≡ refused x → Early x
unfolding head_of among
head-early reading bytes bits base_channels x = go (head_fits reading bytes bits base_channels)
  where
    go : (t : Bool) → cond t (run (head reading base_channels) bytes bits 0) (refused (plain 6)) ≡ refused x → Early x
    go true e = ⊎_elim (early-1 x) (λ o. ⊎_elim (early-plain 13 refl (λ z. omega arith) x) (forbids-early x) o) (head-refused reading base_channels bytes bits 0 x e)
    go false e = let q : x ≡ plain 6 = cc in early-plain 6 refl (λ z. omega arith) x q

settled-early : (s : McSettings) (bytes : List ℕ) (bits : ℕ) (x : Refusal) → settled_of s bytes bits ≡ refused x → Early x
unfolding settled_of payload_of among
settled-early s bytes bits x = go (allocations_fit s)
  where
    go : (t : Bool) → cond t (run (payload_of s) bytes bits 0) (refused (plain 8)) ≡ refused x → Early x
    go true e =
        ⊎_elim (early-1 x)
        (λ h. ⊎_elim (early-plain 3 refl (λ z. omega arith) x) (early-plain 4 refl (λ z. omega arith) x) h)
        (refused-yields (payload-yields _ _ _ _ _) bytes bits 0 x e)
    go false e = let q : x ≡ plain 8 = cc in early-plain 8 refl (λ z. omega arith) x q

-- ---- how each verdict comes about

record Changed (l : Lent) (s : McSettings) : Type 0 where
  codes : Codes
  head_used : ℕ
  used : ℕ
  found : Found l s codes head_used used

unfoldable Way : Lent → McDecodeState → Verdict → Type 0
Way l st (refusal x) = Early x
Way l st (changed s) = Changed l s
Way l st (frame s c head_used used) = Found l s c head_used used × ((follows st.layout_len st.layout s ≡ true) × (desk_fits l.desk ≡ true))

module _ (l : Lent) (st : McDecodeState) where
  way-unpacked :
      desk_fits l.desk ≡ true
      → (header : McHeader) (word : ℕ) (status : McStatus) (head_used : ℕ)
      → head_of l.reading l.head l.head_bits l.base_channels ≡ accepted (header, (word, status)) head_used
      → (o : Outcome Codes)
      → settled_of (settings_for l header status) l.payload l.payload_bits ≡ o
      → Way l st (verdict_unpacked st (settings_for l header status) head_used o)
  unfolding Way verdict_unpacked
  way-unpacked d header word status head_used eh (refused x) e = settled-early _ _ _ x e
  way-unpacked d header word status head_used eh (accepted c used) e = go (follows st.layout_len st.layout (settings_for l header status)) refl
    where
      found : Found l (settings_for l header status) c head_used used
      found = record { header = header; word = word; status = status; head = eh; settings = refl; payload = e }

      go : (t : Bool) → follows st.layout_len st.layout (settings_for l header status) ≡ t
          → Way l st (cond t (frame (settings_for l header status) c head_used used) (changed (settings_for l header status)))
      go true f = (found, (f, d))
      go false f = record { codes = c; head_used = head_used; used = used; found = found }

  way-head :
      desk_fits l.desk ≡ true
      → (o : Outcome (McHeader × (ℕ × McStatus)))
      → head_of l.reading l.head l.head_bits l.base_channels ≡ o
      → Way l st (verdict_head l st o)
  unfolding Way verdict_head
  way-head d (refused x) e = head-early _ _ _ _ x e
  way-head d (accepted (header, (word, status)) head_used) e = way-unpacked d header word status head_used e _ refl

  -- what is found in the strings
  abbrev read : Verdict
  read = verdict_head l st (head_of l.reading l.head l.head_bits l.base_channels)

  way : (w : Buffers) → Way l st (verdict_of l w st)
  unfolding Way verdict_of among
  way w = loan (lent_fits l w st)
    where
      values : desk_fits l.desk ≡ true → (t : Bool) → Way l st (cond t read (refusal (plain 7)))
      values d true = way-head d _ refl
      values d false = early-plain 7 refl (λ z. omega arith) (plain 7) refl

      desk : (t : Bool) → desk_fits l.desk ≡ t → Way l st (cond t (cond (values_fit l.base st.pred_hist) read (refusal (plain 7))) (refusal (plain 14)))
      desk true d = values d (values_fit l.base st.pred_hist)
      desk false d = early-plain 14 refl (λ z. omega arith) (plain 14) refl

      loan : (t : Bool) → Way l st (cond t (cond (desk_fits l.desk) (cond (values_fit l.base st.pred_hist) read (refusal (plain 7))) (refusal (plain 14))) (refusal (plain 6)))
      loan true = desk (desk_fits l.desk) refl
      loan false = early-plain 6 refl (λ z. omega arith) (plain 6) refl

-- ---- what each leaves

module _ (l : Lent) (w : Buffers) (st : McDecodeState) where
  left-by : (v : Verdict) → Way l st v → (x : Refusal) → answer_of v ≡ refused x → Left x l w st (after_verdict v l.desk l.base w st)
  unfolding Way answer_of buffers_of state_of among
  left-by (refusal r) h x e =
      let q : r ≡ x = cc in
      let f : Early x = rw q at h in
      record { numbered = f.numbered; buffers = refl; state = λ _. refl; stored = λ z. absurd (f.before z) }
  left-by (changed s) h x e =
      let q : x ≡ plain 5 = cc in
      record {
        numbered = rw q (record { number = refl; group = omega arith; bare = inr refl });
        buffers = refl;
        state = λ n. absurd (n q);
        stored =
            λ _. record {
              settings = s;
              codes = h.codes;
              head_used = h.head_used;
              used = h.used;
              found = h.found;
              history = refl;
              count = refl;
              layout = refl;
              tallies = refl;
            };
      }
  left-by (frame s c head_used used) h x e = let z : ◌≡◌ {A = ℕ} 0 1 = cc in absurd (omega arith)

  written-by : (v : Verdict) → Way l st v → (head_used excess used : ℕ) → answer_of v ≡ accepted (head_used, excess) used
      → Written l st head_used excess used (after_verdict v l.desk l.base w st)
  unfolding Way answer_of buffers_of state_of
  written-by (refusal r) h head_used excess used e = let z : ◌≡◌ {A = ℕ} 0 1 = cc in absurd (omega arith)
  written-by (changed s) h head_used excess used e = let z : ◌≡◌ {A = ℕ} 0 1 = cc in absurd (omega arith)
  written-by (frame s c n u) h head_used excess used e =
      let told : ◌≡◌ {A = ℕ × ℕ} (n, excess_codes (excesses_of s c)) (head_used, excess) = cc in
      let en : n ≡ head_used = ap (λ p. p.0) told in
      let ex : excess ≡ excess_codes (excesses_of s c) = ap (λ p. p.1) (sym told) in
      let eu : u ≡ used = cc in
      record {
        settings = s;
        codes = c;
        found = rw (en, eu) at h.0;
        excesses = ex;
        allowed = h.1.0;
        desk = h.1.1;
        buffers = refl;
        history = refl;
        count = refl;
        layout = refl;
        tallies = refl;
      }

pub refused-leaves : RefusedLeaves
unfolding frame_of
refused-leaves l w st x e = left-by l w st (verdict_of l w st) (way l st w) x e

pub accepted-writes : AcceptedWrites
unfolding frame_of
accepted-writes l w st head_used excess used e = written-by l w st (verdict_of l w st) (way l st w) head_used excess used e

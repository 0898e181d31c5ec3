-- The packed answer loses nothing.
use Rattle.std.specs.Prelude.{◌≡◌, refl, Bool, true, false, ◌||◌, cond, ℕ, ◌+◌, ◌*◌, ◌%◌, ◌≤◌, ◌<◌, eqb, leb, length}
use Rattle.std.proofs.Common.{sym, ap, arith, eqb-true, leb-true, mod-eq_of_lt}
use Rattle.bits.specs.Syntax.{Refusal, plain, accepted, refused, run}
use Rattle.bits.proofs.SyntaxLaws.{within}
use Rattle.mc_fields.specs.Lent.{string_fits, head_of}
use Rattle.mc_fields.proofs.LentLaws.{lent-used}
use Rattle.mc_payload.specs.declared.McSettings.{McSettings}
use Rattle.mc_payload.specs.Payload.{Codes}
use Rattle.mc_payload.specs.Unpack.{allocations_fit, payload_of}
use Rattle.mc_payload.proofs.Demand3.Accepted.{both_true}
use Rattle.mc_payload.proofs.Excess.{excess-most}
use Rattle.mc_unpack.specs.Settled.{settled_of}
use Rattle.mc_state.specs.declared.McDecodeState.{McDecodeState}
use Rattle.mc_state.specs.Desk.{desk_fits}
use Rattle.mc_state.specs.Frame.{Lent, Buffers, Answer, refusal, lent_by, lent_fits, values_fit, verdict_head, verdict_of, answer_of, frame_of}
use Rattle.mc_state.specs.Demand1.{among, frame_numbers}
use Rattle.mc_state.specs.Packing.{Packable, Apart, AnswersPack, PackedOnce}
use Rattle.mc_state.proofs.Demand1.Holds.{refused-leaves, accepted-writes}

-- ---- the fields of the number

module _ (a b c : ℕ) where
  abbrev three : ℕ
  three = a * 256 + b * 4294967296 + c * 4503599627370496

  -- a refusal's number is not 0
  mixed : (n g k : ℕ) → 1 ≤ n → n < 256 → three ≡ n + g * 256 + k * 4294967296 → ⊥
  mixed n g k h h' e = omega arith

  three-fields : (a' b' c' : ℕ) → a < 16777216 → a' < 16777216 → b < 1048576 → b' < 1048576 → three ≡ a' * 256 + b' * 4294967296 + c' * 4503599627370496
      → (a ≡ a') × ((b ≡ b') × (c ≡ c'))
  three-fields a' b' c' h h' k k' e = (omega arith, (omega arith, omega arith))

refusal-fields : (x y : Refusal) → x.number < 256 → y.number < 256 → x.group < 16777216 → y.group < 16777216
    → x.number + x.group * 256 + x.code * 4294967296 ≡ y.number + y.group * 256 + y.code * 4294967296 → x ≡ y
refusal-fields x y h h' k k' e =
    let number : x.number ≡ y.number = omega arith in
    let group : x.group ≡ y.group = omega arith in
    let code : x.code ≡ y.code = omega arith in
    λ i. record { number = number i; group = group i; code = code i }

-- what fits a field is kept whole
kept : (n w : ℕ) → n < w → n % w ≡ n
kept n w h = mod-eq_of_lt h

pub apart : Apart
unfolding Packable
apart (accepted (h, n) u) (accepted (h', n') u') p q e =
    let f = three-fields h u n h' u' n' p.0 q.0 p.1.0 q.1.0
    (rw (kept h _ p.0, kept u _ p.1.0, kept n _ p.1.1, kept h' _ q.0, kept u' _ q.1.0, kept n' _ q.1.1) at e) in
    rw (f.0, f.1.0, f.1.1)
apart (accepted (h, n) u) (refused y) p q e =
    absurd (mixed (h % 16777216) (u % 1048576) (n % 4096) y.number (y.group % 16777216) y.code q.0 q.1.0 e)
apart (refused x) (accepted (h, n) u) p q e =
    absurd (mixed (h % 16777216) (u % 1048576) (n % 4096) x.number (x.group % 16777216) x.code p.0 p.1.0 (sym e))
apart (refused x) (refused y) p q e =
    ap refused (refusal-fields x y p.1.0 q.1.0 p.1.1 q.1.1 (rw (kept x.group _ p.1.1, kept y.group _ q.1.1) at e))

-- ---- what calls answer

-- the numbers of refusals are from 1 to 255
number-fits : (n : ℕ) → among frame_numbers n ≡ true → (1 ≤ n) × (n < 256)
unfolding among
number-fits n e =
    go 1 (omega arith) (go 2 (omega arith) (go 3 (omega arith) (go 4 (omega arith) (go 5 (omega arith) (go 6 (omega arith) (go 7 (omega arith)
    (go 8 (omega arith) (go 13 (omega arith) (go 14 (omega arith) (λ z. absurd (none z))))))))))) e
  where
    none : false ≡ true → ⊥
    none z = let q : ◌≡◌ {A = ℕ} 0 1 = cc in omega arith

    go : {t : Bool} (m : ℕ) → (1 ≤ m) × (m < 256) → (t ≡ true → (1 ≤ n) × (n < 256)) → (eqb n m || t) ≡ true → (1 ≤ n) × (n < 256)
    go {t} m h more e = by (eqb n m) refl e
      where
        by : (b : Bool) → eqb n m ≡ b → (b || t) ≡ true → (1 ≤ n) × (n < 256)
        by true q e = rw (eqb-true n m q) h
        by false q e = more e

module _ (l : Lent) (w : Buffers) (st : McDecodeState) where
  -- an accepted call was lent what may be lent
  lent : (a : ℕ × ℕ) (u : ℕ) → (frame_of l w st).answer ≡ accepted a u → lent_fits l w st ≡ true
  unfolding frame_of verdict_of answer_of
  lent a u e = go (lent_fits l w st) e
    where
      go : (t : Bool) → answer_of (cond t (cond (desk_fits l.desk) (cond (values_fit l.base st.pred_hist) (verdict_head l st (head_of l.reading l.head l.head_bits l.base_channels)) (refusal (plain 7))) (refusal (plain 14))) (refusal (plain 6))) ≡ accepted a u → t ≡ true
      go true e = refl
      go false e = let z : ◌≡◌ {A = ℕ} 0 1 = cc in absurd (omega arith)

  -- a payload string has 65,536 bits at the most
  payload-short : lent_fits l w st ≡ true → l.payload_bits ≤ 65536
  unfolding lent_by
  payload-short e =
      let head = both_true (string_fits l.head l.head_bits) _ e in
      let payload = both_true (string_fits l.payload l.payload_bits) _ head.1 in
      let string = both_true (leb (length l.payload) 8192) _ payload.0 in
      let bytes = leb-true (length l.payload) 8192 string.0 in
      let bits = leb-true l.payload_bits (8 * length l.payload) string.1 in
      omega arith

  settled-used : (s : McSettings) (c : Codes) (u : ℕ) → settled_of s l.payload l.payload_bits ≡ accepted c u → u ≤ l.payload_bits
  unfolding settled_of
  settled-used s c u e = go (allocations_fit s) e
    where
      go : (t : Bool) → cond t (run (payload_of s) l.payload l.payload_bits 0) (refused (plain 8)) ≡ accepted c u → u ≤ l.payload_bits
      go true e = within (payload_of s) l.payload l.payload_bits 0 c u (omega arith) e
      go false e = let z : ◌≡◌ {A = ℕ} 0 1 = cc in absurd (omega arith)

  packable : Packable (frame_of l w st).answer
  unfolding Packable
  packable = go (frame_of l w st).answer refl
    where
      go : (o : Answer) → (frame_of l w st).answer ≡ o → Packable o
      go (refused x) q =
          let f = (refused-leaves l w st x q).numbered in
          let n = number-fits x.number f.number in
          let group = f.group in
          (n.0, (n.1, omega arith))
      go (accepted (h, n) u) q =
          let f = accepted-writes l w st h n u q in
          let head = (lent-used l.reading l.head l.head_bits l.base_channels (f.found.header, (f.found.word, f.found.status)) h f.found.head).1 in
          let short = payload-short (lent (h, n) u q) in
          let used = settled-used f.settings f.codes u f.found.payload in
          let few = excess-most f.settings f.codes in
          (omega arith, (omega arith, rw f.excesses (omega arith)))

pub answers-pack : AnswersPack
answers-pack l w st = packable l w st

pub packed-once : PackedOnce
packed-once l l' w w' st st' e = apart _ _ (packable l w st) (packable l' w' st') e

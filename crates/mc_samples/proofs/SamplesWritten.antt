-- What the calls and the stores for samples say: three values, the values of a place, and the buffer place by place.
use mathlib.Core.Path.{◌≡◌, sym, ap, ◌∙◌}
use mathlib.Core.Bool.{true}
use mathlib.Core.List.{List, [], ◌∷◌}
use mathlib.Core.Logic.{⊎_elim}
use Prim.Native.Nat.{ℕ, ◌+◌, ◌*◌, ◌/◌, ◌%◌, ◌^◌, ◌≤◌, ◌<◌}
use native.Mathlib.Nat.{eq-or-lt_of_le}
use native.Mathlib.Omega.{arith}
use lib.Ieee.{Float, nan}
use lib.ListN.{length, get_or, set}
use lib.Seq.{ext_get_or}
use borrow.Author.Tests.{ne_eqb}
use Rattle.fill.specs.Tab.{tab}
use Rattle.fill.proofs.TabLaws.{length-tab, get_or-tab}
use Rattle.floats.specs.Binary64.{zero64}
use Rattle.bitalloc.specs.Classes.{is_class, class_of}
use Rattle.bitalloc.specs.declared.QuantClass.{QuantClass}
use Rattle.requant.specs.Requant.{requantized}
use Rattle.mc_payload.specs.Unpack.{steps_fit}
use Rattle.mc_values.specs.Values.{three_codes, three_values, first_at, values_at, raw_by, raw_in, raw_from, ValuesFit}
use Rattle.fill.specs.Strided.{strided}
use Rattle.fill.proofs.StridedLaws.{length-strided, strided-more, get_or-strided, strided-other}

module _ (class : QuantClass) (x y z : ℕ) (codes : List ℕ) (e : codes ≡ three_codes class.grouping class.nb_steps x y z) where
  pub code_small : ValuesFit class x y z → (k : ℕ) → get_or codes k 0 < 2 ^ class.bits_per_sample
  code_small f k = rw e (f.codes k)

  pub three_made : (u v w : Float) → u ≡ requantized class (get_or codes 0 0) → v ≡ requantized class (get_or codes 1 0) → w ≡ requantized class (get_or codes 2 0)
      → u ∷ v ∷ w ∷ [] ≡ three_values class x y z
  unfolding three_values
  three_made u v w eu ev ew = rw (eu, ev, ew, e)

-- the values of granule gr of place i are those of its three slots
module _ (n : ℕ) (granules : List ℕ) (i gr : ℕ) (class : QuantClass) (ec : class ≡ class_of n) (values : List Float)
    (ev : values ≡ three_values class (get_or granules (first_at gr i) 0) (get_or granules (first_at gr i + 1) 0) (get_or granules (first_at gr i + 2) 0)) where
  slot-value : (k : ℕ) → k < 3 → get_or values k nan ≡ raw_by n granules i (3 * gr + k)
  unfolding raw_by values_at
  slot-value k h =
      let d : (3 * gr + k) / 3 ≡ gr = omega arith in
      let m : (3 * gr + k) % 3 ≡ k = omega arith in
      rw (d, m, ← ec, ← ev)

  -- three stores
  pub place-next : (a : ℕ) (raw d : List Float) → raw ≡ strided 32 (raw_by n granules i) a (3 * gr) d
      → set (set (set raw (a + 96 * gr) (get_or values 0 nan)) (a + 96 * gr + 32) (get_or values 1 nan)) (a + 96 * gr + 64) (get_or values 2 nan)
      ≡ strided 32 (raw_by n granules i) a (3 * (gr + 1)) d
  place-next a raw d e =
      let f = raw_by n granules i in
      let i₀ : a + 96 * gr ≡ a + 32 * (3 * gr + 0) = omega arith in
      let i₁ : a + 96 * gr + 32 ≡ a + 32 * (3 * gr + 1) = omega arith in
      let i₂ : a + 96 * gr + 64 ≡ a + 32 * (3 * gr + 2) = omega arith in
      let n₀ : 3 * gr ≡ 3 * gr + 0 = omega arith in
      let n₁ : 3 * gr + 0 + 1 ≡ 3 * gr + 1 = omega arith in
      let n₂ : 3 * gr + 1 + 1 ≡ 3 * gr + 2 = omega arith in
      let n₃ : 3 * gr + 2 + 1 ≡ 3 * (gr + 1) = omega arith in
      let s₀ : raw ≡ strided 32 f a (3 * gr + 0) d = rw (← n₀) e in
      let s₁ : set raw (a + 96 * gr) (get_or values 0 nan) ≡ strided 32 f a (3 * gr + 1) d = rw (s₀, i₀, slot-value 0 (omega arith), ← n₁) (strided-more 32 f a d (3 * gr + 0)) in
      let s₂ : set (strided 32 f a (3 * gr + 1) d) (a + 96 * gr + 32) (get_or values 1 nan) ≡ strided 32 f a (3 * gr + 2) d = rw (i₁, slot-value 1 (omega arith), ← n₂) (strided-more 32 f a d (3 * gr + 1)) in
      rw (s₁, s₂, i₂, slot-value 2 (omega arith), ← n₃) (strided-more 32 f a d (3 * gr + 2))

-- a step count that may stand and is not 0 is that of a class
pub own-fits : (n : ℕ) → steps_fit n ≡ true → (n ≡ 0 → ⊥) → is_class n ≡ true
own-fits n e h = rw (ne_eqb n 0 h) at e

-- ---- the buffer, place by place

-- before place i: the values of the places below i, and +0 elsewhere
pub record Written (own granules : List ℕ) (raw : List Float) (i : ℕ) : Type 0 where
  pub long : length raw ≡ 3456
  pub done : (m slot sb : ℕ) → m < 3 → slot < 36 → sb < 32 → 3 * sb + m < i → get_or raw (1152 * m + 32 * slot + sb) nan ≡ raw_in own granules m slot sb
  pub rest : (m slot sb : ℕ) → m < 3 → slot < 36 → sb < 32 → i ≤ 3 * sb + m → get_or raw (1152 * m + 32 * slot + sb) nan ≡ zero64

module _ (own granules : List ℕ) where
  pub written_none : (n : ℕ) (raw : List Float) → n ≡ 3456 → raw ≡ tab (λ (k : ℕ). zero64) n → Written own granules raw 0
  written_none n raw en e =
      record {
        long = rw (e, en) (length-tab (λ (k : ℕ). zero64) 3456);
        done = λ m slot sb hm hs hb l. absurd (omega arith);
        rest = λ m slot sb hm hs hb l. rw (e, en) (get_or-tab nan (λ (k : ℕ). zero64) 3456 (1152 * m + 32 * slot + sb) (omega arith));
      }

  -- a place is known by any of its 36 slots in the buffer
  same_place : {i : ℕ} (m slot sb j : ℕ) → m < 3 → slot < 36 → sb < 32 → j < 36 → i < 96 → 1152 * m + 32 * slot + sb ≡ 1152 * (i % 3) + i / 3 + 32 * j → 3 * sb + m ≡ i
  same_place {i} m slot sb j hm hs hb hj h e =
      let r : (1152 * m + 32 * slot + sb) % 32 ≡ sb = omega arith in
      let r' : (1152 * (i % 3) + i / 3 + 32 * j) % 32 ≡ i / 3 = omega arith in
      let q : (1152 * m + 32 * slot + sb) / 1152 ≡ m = omega arith in
      let q' : (1152 * (i % 3) + i / 3 + 32 * j) / 1152 ≡ i % 3 = omega arith in
      let sames : sb ≡ i / 3 = sym r ∙ (ap (λ (x : ℕ). x % 32) e ∙ r') in
      let samem : m ≡ i % 3 = sym q ∙ (ap (λ (x : ℕ). x / 1152) e ∙ q') in
      omega arith

  module _ (raw raw' : List Float) (i : ℕ) (w : Written own granules raw i) (h : i < 96) where
    pub written-skip : get_or own i 0 ≡ 0 → raw' ≡ raw → Written own granules raw' (i + 1)
    unfolding raw_in
    written-skip z e =
        rw e
        (record {
          long = w.long;
          done = λ m slot sb hm hs hb l. let q : 3 * sb + m ≤ i = omega arith in ⊎_elim
              (λ eq. let n : get_or own (3 * sb + m) 0 ≡ 0 = rw eq z in rw (n) (w.rest m slot sb hm hs hb (omega arith)))
              (λ lt. w.done m slot sb hm hs hb lt)
              (eq-or-lt_of_le q);
          rest = λ m slot sb hm hs hb l. w.rest m slot sb hm hs hb (omega arith);
        })

    module _ (n : get_or own i 0 ≡ 0 → ⊥) (e : raw' ≡ strided 32 (raw_by (get_or own i 0) granules i) (1152 * (i % 3) + i / 3) 36 raw) where
      a : ℕ
      a = 1152 * (i % 3) + i / 3

      f : ℕ → Float
      f = raw_by (get_or own i 0) granules i

      here : (m slot sb : ℕ) → m < 3 → slot < 36 → sb < 32 → 3 * sb + m ≡ i → get_or raw' (1152 * m + 32 * slot + sb) nan ≡ raw_in own granules m slot sb
      unfolding raw_in a f
      here m slot sb hm hs hb eq =
          let long = w.long in
          let j : 1152 * m + 32 * slot + sb ≡ a + 32 * slot = omega arith in
          rw (e, j, eq, ne_eqb (get_or own i 0) 0 n) (get_or-strided 32 f a raw nan 36 slot (omega arith) hs (omega arith))

      there : (m slot sb : ℕ) → m < 3 → slot < 36 → sb < 32 → (3 * sb + m ≡ i → ⊥) → get_or raw' (1152 * m + 32 * slot + sb) nan ≡ get_or raw (1152 * m + 32 * slot + sb) nan
      unfolding a f
      there m slot sb hm hs hb ne = rw e (strided-other 32 f a raw nan 36 (1152 * m + 32 * slot + sb) (λ j l eq. ne (same_place m slot sb j hm hs hb l h eq)))

      written-here : Written own granules raw' (i + 1)
      unfolding a f
      written-here =
          record {
            long = ap length e ∙ (length-strided 32 f a raw 36 ∙ w.long);
            done = λ m slot sb hm hs hb l. let q : 3 * sb + m ≤ i = omega arith in ⊎_elim
                (λ eq. here m slot sb hm hs hb eq)
                (λ lt. there m slot sb hm hs hb (λ eq. absurd (omega arith)) ∙ w.done m slot sb hm hs hb lt)
                (eq-or-lt_of_le q);
            rest = λ m slot sb hm hs hb l. there m slot sb hm hs hb (λ eq. absurd (omega arith)) ∙ w.rest m slot sb hm hs hb (omega arith);
          }

    -- the buffer as it comes back from a call that writes the place
    pub written-place : (get_or own i 0 ≡ 0 → ⊥) → (left : List Float) → left ≡ strided 32 (raw_by (get_or own i 0) granules i) (1152 * (i % 3) + i / 3) 36 raw → raw' ≡ left
        → Written own granules raw' (i + 1)
    written-place n left e e' = written-here n (e' ∙ e)

  pub written_all : (raw : List Float) (i : ℕ) → Written own granules raw i → 96 ≤ i → raw ≡ raw_from own granules
  unfolding raw_from
  written_all raw i w h =
      let cell : ℕ → Float = λ k. raw_in own granules (k / 1152) (k / 32 % 36) (k % 32) in
      let long = w.long in
      ext_get_or nan raw (tab cell 3456) (long ∙ sym (length-tab cell 3456))
      (λ k l. let p : 1152 * (k / 1152) + 32 * (k / 32 % 36) + k % 32 ≡ k = omega arith in
      (rw p at (w.done (k / 1152) (k / 32 % 36) (k % 32) (omega arith) (omega arith) (omega arith) (omega arith)))
      ∙ sym (get_or-tab nan cell 3456 k (omega arith)))

-- What the loops over granules and over places have counted, and the entries of the table of excesses.
use Rattle.std.specs.Prelude.{◌≡◌, refl, true, false, List, ℕ, zero, suc, ◌+◌, ◌-◌, ◌*◌, ◌/◌, ◌%◌, ◌≤◌, ◌<◌, T, length, get_or, replicate}
use Rattle.std.proofs.Common.{sym, ap, ◌∙◌, subst, ⊎_elim, eq-zero-or-pos, ext_get_or, arith}
use Rattle.std.proofs.Math.Nat.{div-le_self}
use Rattle.std.proofs.lemmas.List.{set-get_or, get_or-replicate}
use borrow.Rule.Slice.PartMut.{put_mid}
use Rattle.fill.specs.Tab.{filled}
use Rattle.fill.proofs.TabLaws.{get_or-tab, length-filled, get_or-filled, get_d_past}
use Rattle.fill.proofs.InOrder.{Filling, more, moved, ends, unfilled}
use Rattle.bits.specs.Total.{total}
use Rattle.bits.proofs.TotalLaws.{total-same}
use Rattle.bitalloc.specs.Classes.{is_class, class_of, grouped}
use Rattle.bitalloc.specs.declared.QuantClass.{QuantClass}
use Rattle.bitalloc.proofs.Places.{class-steps}
use Rattle.requant.specs.Requant.{excess_of}
use Rattle.mc_payload.specs.Record.{one_for, excess_codes}
use Rattle.mc_payload.proofs.Counting.{total-more, total-split, total-from, total-most, one-most, one_none, one-some}
use Rattle.mc_payload.proofs.Excess.{single_none}
use Rattle.fill.proofs.Part.{length-part, part-in, part-before, part-after}
use Rattle.mc_values.specs.Values.{first_at, code_excess, excess_by, excess_in, excesses_from}

-- how many of f 0, .., f (n - 1) are not 0
abbrev pub counted : (ℕ → ℕ) → ℕ → ℕ
counted f n = total n 0 (λ k. one_for (f k))

pub counted-none : (f : ℕ → ℕ) → 0 ≡ counted f 0
unfolding total
counted-none f = refl

counted-more : (f : ℕ → ℕ) (n : ℕ) → counted f (n + 1) ≡ counted f n + one_for (f n)
counted-more f n = let at : 0 + n ≡ n = omega arith in rw at at (total-more n 0 (λ k. one_for (f k)))

module _ (f : ℕ → ℕ) (n count : ℕ) (e : count ≡ counted f n) where
  pub count-most : count ≤ n
  count-most = rw e (total-most n 0 (λ k. one_for (f k)) (λ k. one-most (f k)))

  module _ (x : ℕ) (is : x ≡ f n) where
    pub count_one : (x ≡ 0 → ⊥) → count + 1 ≡ counted f (n + 1)
    count_one h = let y = rw is at h in rw (counted-more f n, one-some (f n) y, e)

    pub count_none : x ≡ 0 → count ≡ counted f (n + 1)
    count_none z =
        let y : f n ≡ 0 = sym is ∙ z in
        rw (counted-more f n, one_none (f n) y) (e ∙ omega arith)

-- the excess of granule gr of place i
pub excess-here : (n : ℕ) → is_class n ≡ true → (class : QuantClass) → class ≡ class_of n → (granules : List ℕ) (i gr x : ℕ)
    → x ≡ code_excess class.grouping class.nb_steps (get_or granules (first_at gr i) 0) → x ≡ excess_by n granules i gr
unfolding excess_by
excess-here n is class found granules i gr x e =
    let steps : (class_of n).nb_steps ≡ n = class-steps n (subst T (sym is) tt) in
    e ∙ rw (found, steps)

-- ---- place by place

module _ (own granules : List ℕ) where
  abbrev place : ℕ → ℕ → ℕ
  place i = excess_by (get_or own i 0) granules i

  -- the excesses of place i follow those of the places before it
  places-more : (i : ℕ) → counted (excess_in own granules) (12 * (i + 1)) ≡ counted (excess_in own granules) (12 * i) + counted (place i) 12
  unfolding excess_in
  places-more i =
      let w : ℕ → ℕ = λ k. one_for (excess_in own granules k) in
      let end : 12 * (i + 1) ≡ 12 * i + 12 = omega arith in
      let from : 0 + 12 * i ≡ 12 * i + 0 = omega arith in
      rw (
        end,
        total-split (12 * i) 12 0 w,
        from,
        total-from 12 (12 * i) 0 w,
        total-same 12 0 (λ k. w (12 * i + k)) (λ k. one_for (place i k))
            (λ j h. let q : (12 * i + j) / 12 ≡ i = omega arith in let r : (12 * i + j) % 12 ≡ j = omega arith in rw (q, r)),
      )

  module _ (i count : ℕ) (e : count ≡ counted (excess_in own granules) (12 * i)) where
    pub place-counted : (more : ℕ) → more ≡ counted (place i) 12 → count + more ≡ counted (excess_in own granules) (12 * (i + 1))
    place-counted more m = rw (places-more i, e, m)

    -- a place without samples has none
    pub place-skipped : get_or own i 0 ≡ 0 → count ≡ counted (excess_in own granules) (12 * (i + 1))
    unfolding excess_by code_excess total one_for
    place-skipped z =
        let none : counted (place i) 12 ≡ 0 = rw (z, single_none) in
        rw (places-more i, none) (e ∙ omega arith)

  pub all-counted : (i count : ℕ) → count ≡ counted (excess_in own granules) (12 * i) → i ≤ 96 → 96 ≤ i → count ≡ excess_codes (excesses_from own granules)
  unfolding excess_codes excesses_from
  all-counted i count e h h' =
      let end : 12 * i ≡ 1152 = omega arith in
      (rw end at e)
      ∙ total-same 1152 0 (λ k. one_for (excess_in own granules k)) (λ k. one_for (get_or (excesses_from own granules) k 0))
      (λ k l. rw (get_or-tab 0 (excess_in own granules) 1152 k (omega arith)))

-- ---- the record's excesses

-- an excess is not above its code
pub excess-fits : (n c : ℕ) → excess_of n c ≤ c
unfolding excess_of
excess-fits n c = omega (arith, div-le_self c n, div-le_self (c / n) n, div-le_self (c / n / n) n)

-- a step count with group codes is not 0
pub groups-some : (n : ℕ) → grouped n ≡ true → 0 < n
groups-some zero g = let z : ◌≡◌ {A = ℕ} 0 1 = (let single = single_none in cc) in absurd (omega arith)
groups-some (suc n) g = omega arith

-- ---- a table of them, which is 0 to begin with

-- places without group codes are skipped
abbrev pub zeros : List ℕ
zeros = replicate 1152 0

module _ (own granules table : List ℕ) where
  abbrev Made : ℕ → Type 0
  Made k = Filling (excess_in own granules) 1152 zeros table k

  skip : (k : ℕ) → Made k → k < 1152 → excess_in own granules k ≡ 0 → Made (k + 1)
  skip k p h z =
      let kept = unfilled 0 k p (omega arith) ∙ get_or-replicate 1152 k 0 0 h in
      subst (λ (l : List ℕ). Filling (excess_in own granules) 1152 zeros l (k + 1)) (set-get_or table k 0) (more p h (kept ∙ sym z))

  skip_all : (m k : ℕ) → Made k → k + m ≤ 1152 → ((j : ℕ) → k ≤ j → j < k + m → excess_in own granules j ≡ 0) → Made (k + m)
  skip_all zero k p h z = moved p (omega arith)
  skip_all (suc m) k p h z =
      moved (skip_all m (k + 1) (skip k p (omega arith) (z k (omega arith) (omega arith))) (omega arith) (λ j l u. z j (omega arith) (omega arith))) (omega arith)

  pub skip-place : (i : ℕ) → Made (12 * i) → i < 96 → grouped (get_or own i 0) ≡ false → Made (12 * (i + 1))
  unfolding excess_in excess_by code_excess
  skip-place i p h g =
      moved
      (skip_all 12 (12 * i) p (omega arith) (λ j l u. let at : j / 12 ≡ i = omega arith in rw (at, g)))
      (omega arith)

-- the excess of a place that has group codes
pub excess-entry : (own granules : List ℕ) (i gr x : ℕ) → gr < 12 → grouped (get_or own i 0) ≡ true
    → x ≡ excess_of (get_or own i 0) (get_or granules (first_at gr i) 0) → x ≡ excess_in own granules (12 * i + gr)
unfolding excess_in excess_by code_excess
excess-entry own granules i gr x h g e =
    let at : (12 * i + gr) / 12 ≡ i = omega arith in
    let granule : (12 * i + gr) % 12 ≡ gr = omega arith in
    rw (at, granule, g) e

-- a place whose twelve excesses were written
module _ {f : ℕ → ℕ} {d dst part items : List ℕ} {i k : ℕ} (p : Filling f 1152 d dst (12 * i)) (h : i < 96) (n : length part ≡ 12) (q : Filling (λ (gr : ℕ). f (12 * i + gr)) 12 part items k) (full : 12 ≤ k) where
  abbrev next : List ℕ
  next = put_mid (12 * i) 12 dst items

  long-items : length items ≡ 12
  long-items = q.long ∙ n

  room : 12 * i + 12 ≤ length dst
  room = omega (arith, p.room, p.long)

  written : (j : ℕ) → j < 12 * (i + 1) → get_or next j 0 ≡ f j
  written j l =
      ⊎_elim
      (λ e. let at : 12 * i + (j - 12 * i) ≡ j = omega arith in
      part-in 0 (12 * i) 12 dst items long-items room j (omega arith) (omega arith) ∙ ap (λ (x : List ℕ). get_or x (j - 12 * i) 0) (ends q full) ∙ get_or-filled 0 (λ (gr : ℕ). f (12 * i + gr)) 12 (j - 12 * i) part (omega arith) ∙ ap f at)
      (λ e. part-before 0 (12 * i) 12 dst items long-items room j (omega arith) ∙ ap (λ (x : List ℕ). get_or x j 0) p.is ∙ get_or-filled 0 f (12 * i) j d (omega arith))
      (eq-zero-or-pos (12 * i - j))

  long-next : length next ≡ length dst
  long-next = length-part 0 (12 * i) 12 dst items long-items room

  pub place-written : Filling f 1152 d next (12 * (i + 1))
  place-written =
      record {
        room = p.room;
        below = omega arith;
        long = long-next ∙ p.long;
        is = ext_get_or 0 next (filled f (12 * (i + 1)) d) (long-next ∙ p.long ∙ sym (length-filled f (12 * (i + 1)) d (omega (arith, p.room)))) (λ j l. ⊎_elim
            (λ e. part-after 0 (12 * i) 12 dst items long-items room j (omega arith) ∙ ap (λ (x : List ℕ). get_or x j 0) p.is ∙ get_d_past 0 f (12 * i) j d (omega arith) ∙ sym (get_d_past 0 f (12 * (i + 1)) j d (omega arith)))
            (λ e. written j (omega arith) ∙ sym (get_or-filled 0 f (12 * (i + 1)) j d (omega arith)))
            (eq-zero-or-pos (12 * (i + 1) - j)));
      }

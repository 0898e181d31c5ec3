-- Eight bytes as one number, and the fields in it.
use Rattle.std.specs.Prelude.{◌≡◌, List, ℕ, ◌+◌, ◌-◌, ◌*◌, ◌/◌, ◌%◌, ◌^◌, ◌≤◌, ◌<◌, get_or, take, drop, length}
use Rattle.std.specs.Int.{from_be_bytes}
use Rattle.std.specs.List.{slice_index, slice_range}
use Rattle.std.proofs.Common.{◌∙◌, add-zero, arith, Fits, w8, w64}
use Rattle.std.proofs.lemmas.List.{get_or-take, get_or-drop, take_rest}
use Rattle.bits.specs.Bits.{value_at}
use Rattle.bits.proofs.BitsLaws.{value-add, value-byte, value-field, value-window}

-- four bytes from byte q on
pub value-word : (b : List ℕ) (q : ℕ) → get_or b q 0 < 256 → get_or b (q + 1) 0 < 256 → get_or b (q + 2) 0 < 256 → get_or b (q + 3) 0 < 256
    → get_or b q 0 * 16777216 + get_or b (q + 1) 0 * 65536 + get_or b (q + 2) 0 * 256 + get_or b (q + 3) 0 ≡ value_at b (q * 8) 32
value-word b q h₀ h₁ h₂ h₃ =
    let e₁ : q * 8 + 8 ≡ (q + 1) * 8 = omega arith in
    let e₂ : q + 1 + 1 ≡ q + 2 = omega arith in
    let e₃ : q + 1 + 2 ≡ q + 3 = omega arith in
    let rest : value_at b ((q + 1) * 8) 24 ≡ get_or b (q + 1) 0 * 65536 + get_or b (q + 2) 0 * 256 + get_or b (q + 3) 0 =
    rw (e₂, e₃) at (value-window b (q + 1) h₁ (rw e₂ h₂) (rw e₃ h₃)) in
    let all : value_at b (q * 8) 32 ≡ get_or b q 0 * 16777216 + (get_or b (q + 1) 0 * 65536 + get_or b (q + 2) 0 * 256 + get_or b (q + 3) 0) =
    value-add b (q * 8) 8 24 ∙ rw (e₁, value-byte b q h₀, rest) in
    omega (arith, all)

-- two words
pub value-two : (b : List ℕ) (q u v : ℕ) → u ≡ value_at b (q * 8) 32 → v ≡ value_at b ((q + 4) * 8) 32 → u * 4294967296 + v ≡ value_at b (q * 8) 64
value-two b q u v eu ev =
    let e : q * 8 + 32 ≡ (q + 4) * 8 = omega arith in
    let s = value-add b (q * 8) 32 32 in
    rw (eu, ev) (omega (arith, rw e at s))

-- the first eight bytes from byte q on
module _ (b : List ℕ) (q : ℕ) (h : (k : ℕ) → Fits w8 (get_or b k 0)) where
  small : (k : ℕ) → get_or b k 0 < 256
  small k = omega (arith, h k)

  second : get_or b (q + 4) 0 * 16777216 + get_or b (q + 5) 0 * 65536 + get_or b (q + 6) 0 * 256 + get_or b (q + 7) 0 ≡ value_at b ((q + 4) * 8) 32
  second =
      let e₁ : q + 4 + 1 ≡ q + 5 = omega arith in
      let e₂ : q + 4 + 2 ≡ q + 6 = omega arith in
      let e₃ : q + 4 + 3 ≡ q + 7 = omega arith in
      rw (e₁, e₂, e₃) at (value-word b (q + 4) (small (q + 4)) (small (q + 4 + 1)) (small (q + 4 + 2)) (small (q + 4 + 3)))

  pub value-eight : (eight : List ℕ) → eight ≡ take 8 (slice_range b q (length b)) → from_be_bytes w64 eight ≡ value_at b (q * 8) 64
  value-eight eight e =
      let all = value-two b q _ _ (value-word b q (small q) (small (q + 1)) (small (q + 2)) (small (q + 3))) second in
      rw (entry 0 (omega arith), entry 1 (omega arith), entry 2 (omega arith), entry 3 (omega arith), entry 4 (omega arith), entry 5 (omega arith), entry 6 (omega arith), entry 7 (omega arith), add-zero q)
      (omega (arith, all))
    where
      entry : (j : ℕ) → j < 8 → slice_index eight j ≡ get_or b (q + j) 0
      entry j l = rw (e, take_rest b q, get_or-take 8 (drop q b) j 0 l, get_or-drop q b j 0)

-- the field that stands after the first o bits of the window
module _ (b : List ℕ) (p n o window : ℕ) (ew : window ≡ value_at b (p / 8 * 8) 64) where
  pub window-field : p % 8 ≤ o → o + n ≤ 64 → (r : ℕ) → r ≡ window / 2 ^ (64 - o - n) % 2 ^ n → r ≡ value_at b (p + (o - p % 8)) n
  window-field l h r e =
      let k : ℕ = 64 - o - n in
      let w : 64 ≡ o + (n + k) = omega arith in
      let a : p / 8 * 8 + o ≡ p + (o - p % 8) = omega arith in
      e ∙ (rw (ew) (rw (← w, a) at (value-field b (p / 8 * 8) o n k)))

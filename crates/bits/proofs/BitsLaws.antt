-- Laws of `bit_at` and `value_at`: values are small, values and bits decide each other, a field is its two parts, and the field in a window of
-- three bytes.
use Rattle.std.specs.Prelude.{◌≡◌, refl, List, ℕ, zero, suc, ◌+◌, ◌*◌, ◌-◌, ◌/◌, ◌%◌, ◌^◌, ◌≤◌, ◌<◌, take, get_or}
use Rattle.std.proofs.Common.{sym, ap₂, ◌∙◌, add-suc, add-zero, add_assoc, add-mul, mul_assoc, pow-suc, div-add-mod', div-one, arith, lit≤, get_or-take, pow-add, shr-shr}
use Rattle.std.proofs.Math.Nat.{div-eq_of_lt}
use Rattle.std.proofs.Math.Decide.{dec_lt}
use Rattle.std.proofs.Math.Arith.{digits_div, digits_mod}
use Rattle.std.proofs.Math.Pow.{high, low}
use Rattle.bits.specs.Bits.{bit_at, value_at, Agree}

pub bit< : (b : List ℕ) (i : ℕ) → bit_at b i < 2
unfolding bit_at
bit< b i = omega arith

pub value< : (b : List ℕ) (p n : ℕ) → value_at b p n < 2 ^ n
unfolding value_at
value< b p zero = omega arith
value< b p (suc n) = omega (arith, value< b p n, bit< b (p + n))

-- equal bits, equal values
pub value-agree : (b b' : List ℕ) (p n : ℕ) → Agree b b' p (p + n) → value_at b p n ≡ value_at b' p n
unfolding value_at
value-agree b b' p zero h = refl
value-agree b b' p (suc n) h =
    ap₂ (λ (x y : ℕ). 2 * x + y) (value-agree b b' p n (λ i pi iu. h i pi (omega arith))) (h (p + n) (omega arith) (omega arith))

-- equal values, equal bits
pub agree-value : (b b' : List ℕ) (p n : ℕ) → value_at b p n ≡ value_at b' p n → Agree b b' p (p + n)
unfolding value_at
agree-value b b' p zero e i pi iu = absurd (omega arith)
agree-value b b' p (suc n) e i pi iu = go (dec_lt i (p + n)) (agree-value b b' p n (omega (arith, bit< b (p + n), bit< b' (p + n))) i pi)
  where
    last : bit_at b (p + n) ≡ bit_at b' (p + n)
    last = omega (arith, bit< b (p + n), bit< b' (p + n))

    go : Dec (i < p + n) → (i < p + n → bit_at b i ≡ bit_at b' i) → bit_at b i ≡ bit_at b' i
    go (yes h) before = before h
    go (no h) before = let q : i ≡ p + n = omega arith in rw q last

-- the first k bytes have the bits below 8 * k
pub bit-take : (b : List ℕ) (k i : ℕ) → i < 8 * k → bit_at (take k b) i ≡ bit_at b i
unfolding bit_at
bit-take b k i h = rw (get_or-take k b (i / 8) 0 (omega arith))

-- agreeing up to q and from q on
pub agree-join : (b b' : List ℕ) (p q u : ℕ) → Agree b b' p q → Agree b b' q u → Agree b b' p u
agree-join b b' p q u g h i pi iu = go (dec_lt i q)
  where
    go : Dec (i < q) → bit_at b i ≡ bit_at b' i
    go (yes iq) = g i pi iq
    go (no iq) = h i (omega arith) iu

-- a field of n + m bits is one of n bits and one of m bits
pub value-add : (b : List ℕ) (p n m : ℕ) → value_at b p (n + m) ≡ value_at b p n * 2 ^ m + value_at b (p + n) m
unfolding value_at
value-add b p n zero = rw (add-zero n) (omega arith)
value-add b p n (suc m) = rw (add-suc n m, pow-suc, ← mul_assoc, ← add_assoc p n m) (omega (arith, value-add b p n m))

-- bit j of byte q
bit_in : (b : List ℕ) (q j : ℕ) → j < 8 → bit_at b (q * 8 + j) ≡ get_or b q 0 / 2 ^ (7 - j) % 2
unfolding bit_at
bit_in b q j h = rw (digits_div q {m = 8} {r = j}, digits_mod q {m = 8} {r = j})

-- the first j bits of byte q
value-front : (b : List ℕ) (q j : ℕ) → get_or b q 0 < 256 → j ≤ 8 → value_at b (q * 8) j ≡ get_or b q 0 / 2 ^ (8 - j)
unfolding value_at
value-front b q zero h l = sym (div-eq_of_lt h)
value-front b q (suc j) h l =
    let e : 8 - j ≡ (7 - j) + 1 = omega arith in
    let e' : 8 - suc j ≡ 7 - j = omega arith in
    let s : get_or b q 0 / 2 ^ (8 - j) ≡ get_or b q 0 / 2 ^ (7 - j) / 2 = rw e (sym (shr-shr (get_or b q 0) (7 - j) 1)) in
    rw e' (omega (arith, value-front b q j h (omega arith), bit_in b q j l, s))

-- the eight bits of byte q are that byte
pub value-byte : (b : List ℕ) (q : ℕ) → get_or b q 0 < 256 → value_at b (q * 8) 8 ≡ get_or b q 0
value-byte b q h = value-front b q 8 h (lit≤ tt) ∙ div-one (get_or b q 0)

-- the field of n bits with o bits before it and k bits after it, in a window that starts at bit p
pub value-field : (b : List ℕ) (p o n k : ℕ) → value_at b p (o + (n + k)) / 2 ^ k % 2 ^ n ≡ value_at b (p + o) n
value-field b p o n k =
    let x = value_at b p o in
    let y = value_at b (p + o) n in
    let z = value_at b (p + o + n) k in
    let e : value_at b p (o + (n + k)) ≡ (x * 2 ^ n + y) * 2 ^ k + z =
    value-add b p o (n + k) ∙ rw (value-add b (p + o) n k, pow-add 2 n k) (omega (arith, mul_assoc x (2 ^ n) (2 ^ k), add-mul (x * 2 ^ n) y (2 ^ k))) in
    rw (e, high (x * 2 ^ n + y) k (value< b (p + o + n) k)) (low x n (value< b (p + o) n))

-- the window of three bytes from byte q on
pub value-window : (b : List ℕ) (q : ℕ) → get_or b q 0 < 256 → get_or b (q + 1) 0 < 256 → get_or b (q + 2) 0 < 256
    → value_at b (q * 8) 24 ≡ get_or b q 0 * 65536 + get_or b (q + 1) 0 * 256 + get_or b (q + 2) 0
value-window b q h₀ h₁ h₂ =
    let e₁ : q * 8 + 8 ≡ (q + 1) * 8 = omega arith in
    let e₂ : (q + 1) * 8 + 8 ≡ (q + 2) * 8 = omega arith in
    let s₁ : value_at b (q * 8 + 8) 16 ≡ get_or b (q + 1) 0 * 256 + get_or b (q + 2) 0 =
    rw e₁ (value-add b ((q + 1) * 8) 8 8 ∙ rw (e₂, value-byte b (q + 1) h₁, value-byte b (q + 2) h₂)) in
    value-add b (q * 8) 8 16 ∙ rw (s₁, value-byte b q h₀) (omega arith)

-- a field of at most 16 bits lies in the three bytes from the byte of its first bit on
pub field-of-window : (b : List ℕ) (p n : ℕ) → n ≤ 16 → get_or b (p / 8) 0 < 256 → get_or b (p / 8 + 1) 0 < 256 → get_or b (p / 8 + 2) 0 < 256
    → (get_or b (p / 8) 0 * 65536 + get_or b (p / 8 + 1) 0 * 256 + get_or b (p / 8 + 2) 0) / 2 ^ (24 - p % 8 - n) % 2 ^ n ≡ value_at b p n
field-of-window b p n l h₀ h₁ h₂ =
    let k = 24 - p % 8 - n in
    let w : p % 8 + (n + k) ≡ 24 = omega arith in
    let f : value_at b (p / 8 * 8) (p % 8 + (n + k)) / 2 ^ k % 2 ^ n ≡ value_at b (p / 8 * 8 + p % 8) n =
    value-field b (p / 8 * 8) (p % 8) n k in
    rw (w, value-window b (p / 8) h₀ h₁ h₂, div-add-mod' p 8) at f

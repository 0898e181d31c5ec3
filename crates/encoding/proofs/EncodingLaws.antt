-- Laws of numbers as bytes and of the hash, one step each.
use Rattle.std.specs.Prelude.{◌≡◌, min, refl, Bool, true, false, not, List, [], ◌∷◌, fold, T, Float, length, drop, get_or}
use Rattle.std.proofs.Common.{sym, ap, ◌∙◌, add-one, lt-ltb, le-ltb, eq-eqb, drop_of_length-le, pow_mono, drop-cons, Fits}
use Rattle.std.specs.Bool.{beq}
use Prim.Native.Nat.{ℕ, zero, suc, ◌+◌, ◌-◌, ◌*◌, ◌/◌, ◌%◌, ◌^◌, ◌≤◌, ◌<◌}
use Rattle.std.proofs.Math.Nat.{mod-add-mod, add-mul-mod_self_right}
use native.Mathlib.Omega.{arith}
use Rattle.std.specs.Float.{nan, inf, fin, binary64}
use Rattle.std.specs.Float.Ieee.{is_nan, eq, ne, up, down, to_bits, of_bits, nan_bits, div}
use Rattle.std.specs.Float.Ieee.Bits.{nan_bits_is, nan_bits_above}
use Rattle.std.proofs.Math.Pow.{pow-add}
use Rattle.std.specs.Int.{w8, w64, to_le_bytes, from_le_bytes}
use Rattle.fill.specs.Tab.{tab}
use Rattle.encoding.specs.Encoding.{byte_of, lowest_first, number_at, hash_byte, hash_bytes, hash_number, hash_floats}

-- a loop that reads n bytes from the last to the first has read those from k on
pub record ReadFrom (bytes : List ℕ) (at n k value : ℕ) : Type 0 where
  pub below : k ≤ n
  pub is : value ≡ lowest_first bytes (at + k) (n - k)
  pub small : value < 2 ^ (8 * (n - k))

module _ (bytes : List ℕ) (at n : ℕ) where
  pub read-starts : (k : ℕ) → k ≡ n → ReadFrom bytes at n k 0
  unfolding lowest_first
  read-starts k e = let z : n - k ≡ 0 = omega arith in record { below = omega arith; is = rw z; small = rw z (omega arith) }

  pub read_more : (k value b : ℕ) → 0 < k → ReadFrom bytes at n k value → b ≡ get_or bytes (at + (k - 1)) 0 → b ≤ 255 → ReadFrom bytes at n (k - 1) (value * 256 + b)
  unfolding lowest_first
  read_more k value b h p e l =
      let below : k ≤ n = p.below in
      let one : n - (k - 1) ≡ suc (n - k) = omega arith in
      let next : at + k ≡ suc (at + (k - 1)) = omega arith in
      let eight : 8 * (n - (k - 1)) ≡ 8 * (n - k) + 8 = omega arith in
      let q = pow-add 2 (8 * (n - k)) 8 in
      let small = p.small in
      record {
        below = omega arith;
        is = rw (p.is, e, one, next) (omega arith);
        small = rw (eight, q) (omega arith);
      }

  pub read_fits : (k value : ℕ) → 0 < k → n ≤ 8 → ReadFrom bytes at n k value → value < 72057594037927936
  read_fits k value h l p = let m : 2 ^ (8 * (n - k)) ≤ 2 ^ 56 = pow_mono {i = 8 * (n - k)} {j = 56} (omega arith) in omega (arith, p.small)

  pub read-ends : (k value : ℕ) → k ≤ 0 → ReadFrom bytes at n k value → value ≡ lowest_first bytes at n
  read-ends k value h p = let z : k ≡ 0 = omega arith in let a : at + k ≡ at = omega arith in let m : n - k ≡ n = omega arith in rw (a, m) at p.is

-- one byte is its own number
pub one-byte : (bytes : List ℕ) (at : ℕ) → number_at bytes at 1 ≡ get_or bytes at 0
unfolding lowest_first
one-byte bytes at = omega arith

-- one byte and four fit their widths
module _ (bytes : List ℕ) (at : ℕ) (small : (i : ℕ) → Fits w8 (get_or bytes i 0)) where
  pub one-fits : number_at bytes at 1 < 256
  unfolding lowest_first
  one-fits = omega (arith, small at)

  pub four-fits : number_at bytes at 4 < 4294967296
  unfolding lowest_first
  four-fits = omega (arith, small at, small (suc at), small (suc (suc at)), small (suc (suc (suc at))))

-- the product by 435 + 2^40, put together from three parts
pub product : (h : ℕ)
    → ((h % 4294967296 * 435 + h / 4294967296 * 435 % 4294967296 * 4294967296) % 18446744073709551616 + h % 16777216 * 1099511627776) % 18446744073709551616 ≡ h * 1099511628211 % 18446744073709551616
product h =
    let lost = h / 16777216 + h / 4294967296 * 435 / 4294967296 in
    let kept = h % 4294967296 * 435 + h / 4294967296 * 435 % 4294967296 * 4294967296 in
    let all : h * 1099511628211 ≡ kept + h % 16777216 * 1099511627776 + lost * 18446744073709551616 = omega arith in
    mod-add-mod kept 18446744073709551616 (h % 16777216 * 1099511627776)
    ∙ (sym (add-mul-mod_self_right (kept + h % 16777216 * 1099511627776) lost 18446744073709551616)
    ∙ ap (λ (x : ℕ). x % 18446744073709551616) (sym all))

pub hash-more : (k h n : ℕ) → 0 < k → hash_bytes k h n ≡ hash_bytes (k - 1) (hash_byte h (n % 256)) (n / 256)
unfolding hash_bytes
hash-more k h n l = let e : k ≡ suc (k - 1) = omega arith in ap (λ (j : ℕ). hash_bytes j h n) e

pub hash-none : (k h n : ℕ) → k ≤ 0 → hash_bytes k h n ≡ h
unfolding hash_bytes
hash-none k h n l = let e : k ≡ 0 = omega arith in ap (λ (j : ℕ). hash_bytes j h n) e

pub floats-none : (h i : ℕ) (xs : List Float) → length xs ≤ i → hash_floats h (drop i xs) ≡ h
unfolding hash_floats
floats-none h i xs l = rw (drop_of_length-le xs {i = i} l)

pub floats-more : (h i : ℕ) (xs : List Float) → i < length xs → hash_floats h (drop i xs) ≡ hash_floats (hash_number h (to_bits binary64 (get_or xs i nan))) (drop (i + 1) xs)
unfolding hash_floats
floats-more h i xs l = rw (add-one, drop-cons xs i nan)

-- the hash as a fold, over a number's bytes and over floats
pub number-folded : (h n : ℕ) → fold hash_byte h (to_le_bytes w64 n) ≡ hash_number h n
unfolding hash_bytes
number-folded h n =
    let two : n / 256 / 256 ≡ n / 65536 = omega arith in
    let three : n / 65536 / 256 ≡ n / 16777216 = omega arith in
    let four : n / 16777216 / 256 ≡ n / 4294967296 = omega arith in
    let five : n / 4294967296 / 256 ≡ n / 1099511627776 = omega arith in
    let six : n / 1099511627776 / 256 ≡ n / 281474976710656 = omega arith in
    let seven : n / 281474976710656 / 256 ≡ n / 72057594037927936 = omega arith in
    rw (two, three, four, five, six, seven)

pub floats-folded : (h : ℕ) (xs : List Float) → fold (λ (hash : ℕ) (x : Float). hash_number hash (to_bits binary64 x)) h xs ≡ hash_floats h xs
unfolding hash_floats
floats-folded h [] = refl
floats-folded h (x ∷ xs) = floats-folded (hash_number h (to_bits binary64 x)) xs

is-nan : (x : Float) → is_nan x ≡ true → nan ≡ x
unfolding is_nan
is-nan nan e = refl
is-nan (inf s) e = let z : ◌≡◌ {A = ℕ} 0 1 = cc in absurd (omega arith)
is-nan (fin s m k) e = let z : ◌≡◌ {A = ℕ} 0 1 = cc in absurd (omega arith)

-- only a NaN differs from itself
beq-self : (s : Bool) → beq s s ≡ true
beq-self true = refl
beq-self false = refl

pub differs : (x : Float) → ne x x ≡ is_nan x
unfolding ne eq is_nan
differs nan = refl
differs (inf s) = ap not (beq-self s)
differs (fin s m e) = simp (eq-eqb (m * up e * down e) _ refl, beq-self s)

pub nan-bits : (x : Float) → ne x x ≡ true → 9221120237041090560 ≡ to_bits binary64 x
unfolding to_bits
nan-bits x h = rw (sym (is-nan x (sym (differs x) ∙ h)))

pub no_nan : (x : Float) → ne x x ≡ false → T (not (is_nan x))
no_nan x h = rw (sym (differs x) ∙ h) tt

-- with the sign's bit taken off, a NaN's pattern is above the infinity's
pub nan_pattern : (bits : ℕ) → 9218868437227405312 < bits % 9223372036854775808 → div binary64 (of_bits binary64 0) (of_bits binary64 0) ≡ of_bits binary64 bits
unfolding div of_bits
nan_pattern bits h = is-nan (of_bits binary64 bits) (sym (nan_bits_is binary64 bits) ∙ (nan_bits_above binary64 bits ∙ lt-ltb 9218868437227405312 (bits % 9223372036854775808) h))

pub no-nan-pattern : (bits : ℕ) → bits % 9223372036854775808 ≤ 9218868437227405312 → T (not (nan_bits binary64 bits))
no-nan-pattern bits h = rw (nan_bits_above binary64 bits ∙ le-ltb 9218868437227405312 (bits % 9223372036854775808) h) tt

eight : (f : ℕ → ℕ) → from_le_bytes w64 (tab f 8) ≡ f 0 + f 1 * 256 + f 2 * 65536 + f 3 * 16777216 + f 4 * 4294967296 + f 5 * 1099511627776 + f 6 * 281474976710656 + f 7 * 72057594037927936
unfolding tab
eight f = refl

-- eight bytes, those past the n counting 0
module _ (bytes : List ℕ) (at : ℕ) where
  inside : (n k place : ℕ) → k < n → at + k ≡ place → byte_of bytes at n k ≡ get_or bytes place 0
  inside n k place h e = rw (lt-ltb k n h, e)

  outside : (n k : ℕ) → n ≤ k → byte_of bytes at n k ≡ 0
  outside n k h = rw (le-ltb k n h)

  pub eight-bytes : (n : ℕ) → from_le_bytes w64 (tab (byte_of bytes at n) 8) ≡ number_at bytes at n
  unfolding lowest_first
  eight-bytes zero = eight (byte_of bytes at zero) ∙ omega (arith, outside zero 0 (omega arith), outside zero 1 (omega arith), outside zero 2 (omega arith), outside zero 3 (omega arith), outside zero 4 (omega arith), outside zero 5 (omega arith), outside zero 6 (omega arith), outside zero 7 (omega arith))
  eight-bytes (suc zero) = eight (byte_of bytes at (suc zero)) ∙ omega (arith, inside (suc zero) 0 at (omega arith) (omega arith), outside (suc zero) 1 (omega arith), outside (suc zero) 2 (omega arith), outside (suc zero) 3 (omega arith), outside (suc zero) 4 (omega arith), outside (suc zero) 5 (omega arith), outside (suc zero) 6 (omega arith), outside (suc zero) 7 (omega arith))
  eight-bytes (suc (suc zero)) = eight (byte_of bytes at (suc (suc zero))) ∙ omega (arith, inside (suc (suc zero)) 0 at (omega arith) (omega arith), inside (suc (suc zero)) 1 (suc at) (omega arith) (omega arith), outside (suc (suc zero)) 2 (omega arith), outside (suc (suc zero)) 3 (omega arith), outside (suc (suc zero)) 4 (omega arith), outside (suc (suc zero)) 5 (omega arith), outside (suc (suc zero)) 6 (omega arith), outside (suc (suc zero)) 7 (omega arith))
  eight-bytes (suc (suc (suc zero))) = eight (byte_of bytes at (suc (suc (suc zero)))) ∙ omega (arith, inside (suc (suc (suc zero))) 0 at (omega arith) (omega arith), inside (suc (suc (suc zero))) 1 (suc at) (omega arith) (omega arith), inside (suc (suc (suc zero))) 2 (suc (suc at)) (omega arith) (omega arith), outside (suc (suc (suc zero))) 3 (omega arith), outside (suc (suc (suc zero))) 4 (omega arith), outside (suc (suc (suc zero))) 5 (omega arith), outside (suc (suc (suc zero))) 6 (omega arith), outside (suc (suc (suc zero))) 7 (omega arith))
  eight-bytes (suc (suc (suc (suc zero)))) = eight (byte_of bytes at (suc (suc (suc (suc zero))))) ∙ omega (arith, inside (suc (suc (suc (suc zero)))) 0 at (omega arith) (omega arith), inside (suc (suc (suc (suc zero)))) 1 (suc at) (omega arith) (omega arith), inside (suc (suc (suc (suc zero)))) 2 (suc (suc at)) (omega arith) (omega arith), inside (suc (suc (suc (suc zero)))) 3 (suc (suc (suc at))) (omega arith) (omega arith), outside (suc (suc (suc (suc zero)))) 4 (omega arith), outside (suc (suc (suc (suc zero)))) 5 (omega arith), outside (suc (suc (suc (suc zero)))) 6 (omega arith), outside (suc (suc (suc (suc zero)))) 7 (omega arith))
  eight-bytes (suc (suc (suc (suc (suc zero))))) = eight (byte_of bytes at (suc (suc (suc (suc (suc zero)))))) ∙ omega (arith, inside (suc (suc (suc (suc (suc zero))))) 0 at (omega arith) (omega arith), inside (suc (suc (suc (suc (suc zero))))) 1 (suc at) (omega arith) (omega arith), inside (suc (suc (suc (suc (suc zero))))) 2 (suc (suc at)) (omega arith) (omega arith), inside (suc (suc (suc (suc (suc zero))))) 3 (suc (suc (suc at))) (omega arith) (omega arith), inside (suc (suc (suc (suc (suc zero))))) 4 (suc (suc (suc (suc at)))) (omega arith) (omega arith), outside (suc (suc (suc (suc (suc zero))))) 5 (omega arith), outside (suc (suc (suc (suc (suc zero))))) 6 (omega arith), outside (suc (suc (suc (suc (suc zero))))) 7 (omega arith))
  eight-bytes (suc (suc (suc (suc (suc (suc zero)))))) = eight (byte_of bytes at (suc (suc (suc (suc (suc (suc zero))))))) ∙ omega (arith, inside (suc (suc (suc (suc (suc (suc zero)))))) 0 at (omega arith) (omega arith), inside (suc (suc (suc (suc (suc (suc zero)))))) 1 (suc at) (omega arith) (omega arith), inside (suc (suc (suc (suc (suc (suc zero)))))) 2 (suc (suc at)) (omega arith) (omega arith), inside (suc (suc (suc (suc (suc (suc zero)))))) 3 (suc (suc (suc at))) (omega arith) (omega arith), inside (suc (suc (suc (suc (suc (suc zero)))))) 4 (suc (suc (suc (suc at)))) (omega arith) (omega arith), inside (suc (suc (suc (suc (suc (suc zero)))))) 5 (suc (suc (suc (suc (suc at))))) (omega arith) (omega arith), outside (suc (suc (suc (suc (suc (suc zero)))))) 6 (omega arith), outside (suc (suc (suc (suc (suc (suc zero)))))) 7 (omega arith))
  eight-bytes (suc (suc (suc (suc (suc (suc (suc zero))))))) = eight (byte_of bytes at (suc (suc (suc (suc (suc (suc (suc zero)))))))) ∙ omega (arith, inside (suc (suc (suc (suc (suc (suc (suc zero))))))) 0 at (omega arith) (omega arith), inside (suc (suc (suc (suc (suc (suc (suc zero))))))) 1 (suc at) (omega arith) (omega arith), inside (suc (suc (suc (suc (suc (suc (suc zero))))))) 2 (suc (suc at)) (omega arith) (omega arith), inside (suc (suc (suc (suc (suc (suc (suc zero))))))) 3 (suc (suc (suc at))) (omega arith) (omega arith), inside (suc (suc (suc (suc (suc (suc (suc zero))))))) 4 (suc (suc (suc (suc at)))) (omega arith) (omega arith), inside (suc (suc (suc (suc (suc (suc (suc zero))))))) 5 (suc (suc (suc (suc (suc at))))) (omega arith) (omega arith), inside (suc (suc (suc (suc (suc (suc (suc zero))))))) 6 (suc (suc (suc (suc (suc (suc at)))))) (omega arith) (omega arith), outside (suc (suc (suc (suc (suc (suc (suc zero))))))) 7 (omega arith))
  eight-bytes (suc (suc (suc (suc (suc (suc (suc (suc n)))))))) = let few : min (suc (suc (suc (suc (suc (suc (suc (suc n)))))))) 8 ≡ 8 = omega arith in rw few (eight (byte_of bytes at (suc (suc (suc (suc (suc (suc (suc (suc n))))))))) ∙ omega (arith, inside (suc (suc (suc (suc (suc (suc (suc (suc n)))))))) 0 at (omega arith) (omega arith), inside (suc (suc (suc (suc (suc (suc (suc (suc n)))))))) 1 (suc at) (omega arith) (omega arith), inside (suc (suc (suc (suc (suc (suc (suc (suc n)))))))) 2 (suc (suc at)) (omega arith) (omega arith), inside (suc (suc (suc (suc (suc (suc (suc (suc n)))))))) 3 (suc (suc (suc at))) (omega arith) (omega arith), inside (suc (suc (suc (suc (suc (suc (suc (suc n)))))))) 4 (suc (suc (suc (suc at)))) (omega arith) (omega arith), inside (suc (suc (suc (suc (suc (suc (suc (suc n)))))))) 5 (suc (suc (suc (suc (suc at))))) (omega arith) (omega arith), inside (suc (suc (suc (suc (suc (suc (suc (suc n)))))))) 6 (suc (suc (suc (suc (suc (suc at)))))) (omega arith) (omega arith), inside (suc (suc (suc (suc (suc (suc (suc (suc n)))))))) 7 (suc (suc (suc (suc (suc (suc (suc at))))))) (omega arith) (omega arith)))

-- The last six decimal digits of a number are what `{:06}` writes of the number below a million.
use Rattle.std.specs.Prelude.{◌≡◌, ℕ, zero, suc, ◌+◌, ◌-◌, ◌/◌, ◌%◌, ◌^◌, ◌<◌, ◌≤◌, List, [], ◌∷◌, ◌++◌, Bool, true, false, length, replicate, ltb}
use Rattle.std.proofs.Common.{refl, sym, ap, ◌∙◌, arith, append_assoc, length-append}
use Rattle.std.proofs.Math.Nat.{sub-zero}
use Rattle.std.proofs.lemmas.Bool.{ltb-true, ltb-false}
use Rattle.std.proofs.lemmas.List.{append-nil, replicate-append-replicate}
use Rattle.std.proofs.lemmas.Fmt.{decimal_digit, decimal_step}
use Rattle.std.specs.Fmt.{decimal, padded_integral, char_count, format_spec}
use Rattle.frame_summary.specs.Decimal.{hex_digit_ascii, last_digits}

-- a digit below 10
digit : (d : ℕ) → d < 10 → hex_digit_ascii d ≡ 48 + d
digit d h = grind (arith)

last : (n : ℕ) → hex_digit_ascii (n % 10) ≡ 48 + n % 10
last n = digit (n % 10) (omega arith)

below_ten : (n : ℕ) → n < 10 → 48 + n ≡ hex_digit_ascii (n % 10)
below_ten n h = sym (last n ∙ omega arith)

-- one digit more, after a zero and after others
after_zero : (k n : ℕ) (front : List ℕ) → n < 10 → replicate k 48 ++ 48 ∷ [] ≡ front → replicate (suc k) 48 ++ (48 + n) ∷ [] ≡ front ++ hex_digit_ascii (n % 10) ∷ []
after_zero k n front h e =
    let next : suc k ≡ k + 1 = omega arith in
    let more : replicate (suc k) 48 ≡ front = ap (λ (j : ℕ). replicate j 48) next ∙ (sym (replicate-append-replicate k 1 48) ∙ e) in
    ap (λ (l : List ℕ). l ++ (48 + n) ∷ []) more ∙ ap (λ (d : ℕ). front ++ d ∷ []) (below_ten n h)

after_digits : (k d : ℕ) (ds front : List ℕ) → replicate (suc k - length ds) 48 ++ ds ≡ front → replicate (suc (suc k) - length (ds ++ d ∷ [])) 48 ++ (ds ++ d ∷ []) ≡ front ++ d ∷ []
after_digits k d ds front e =
    let same : suc (suc k) - length (ds ++ d ∷ []) ≡ suc k - length ds = omega (arith, length-append ds (d ∷ [])) in
    rw same (sym (append_assoc (replicate (suc k - length ds) 48) ds (d ∷ [])) ∙ ap (λ (l : List ℕ). l ++ d ∷ []) e)

module _ (k n : ℕ) (w : n < 2 ^ 64) (before : replicate (suc k - length (decimal (n / 10))) 48 ++ decimal (n / 10) ≡ last_digits 10 (suc k) (n / 10)) where
  low : n < 10 → replicate (suc (suc k) - length (decimal n)) 48 ++ decimal n ≡ last_digits 10 (suc (suc k)) n
  low h =
      let none : n / 10 ≡ 0 = omega arith in
      let zero_digit : decimal (n / 10) ≡ 48 ∷ [] = ap decimal none ∙ decimal_digit 0 (omega arith) in
      let one_less : suc k - 1 ≡ k = omega arith in
      let left = ap (λ (ds : List ℕ). replicate (suc k - length ds) 48 ++ ds) zero_digit ∙ ap (λ (j : ℕ). replicate j 48 ++ 48 ∷ []) one_less in
      let more : suc (suc k) - 1 ≡ suc k = omega arith in
      rw (decimal_digit n h) (ap (λ (j : ℕ). replicate j 48 ++ (48 + n) ∷ []) more ∙ after_zero k n (last_digits 10 (suc k) (n / 10)) h (sym left ∙ before))

  high : 10 ≤ n → replicate (suc (suc k) - length (decimal n)) 48 ++ decimal n ≡ last_digits 10 (suc (suc k)) n
  high h =
      rw (decimal_step n h w) (after_digits k (48 + n % 10) (decimal (n / 10)) (last_digits 10 (suc k) (n / 10)) before ∙ ap (λ (d : ℕ). last_digits 10 (suc k) (n / 10) ++ d ∷ []) (sym (last n)))

  by_size : (b : Bool) → ltb n 10 ≡ b → replicate (suc (suc k) - length (decimal n)) 48 ++ decimal n ≡ last_digits 10 (suc (suc k)) n
  by_size true t = low (ltb-true n 10 t)
  by_size false t = high (ltb-false n 10 t)

-- a number below 10 ^ (k + 1), with zeros before it
zeros : (k n : ℕ) → n < 10 ^ suc k → n < 2 ^ 64 → replicate (suc k - length (decimal n)) 48 ++ decimal n ≡ last_digits 10 (suc k) n
zeros zero n h w = rw (decimal_digit n (omega arith)) (ap (λ (d : ℕ). d ∷ []) (below_ten n (omega arith)))
zeros (suc k) n h w = by_size k n w (zeros k (n / 10) (omega arith) (omega arith)) (ltb n 10) refl

same : (n : ℕ) → last_digits 10 6 (n % 1000000) ≡ last_digits 10 6 n
same n =
    let m = n % 1000000 in
    let a : m / 10 / 10 / 10 / 10 / 10 % 10 ≡ n / 10 / 10 / 10 / 10 / 10 % 10 = omega arith in
    let b : m / 10 / 10 / 10 / 10 % 10 ≡ n / 10 / 10 / 10 / 10 % 10 = omega arith in
    let c : m / 10 / 10 / 10 % 10 ≡ n / 10 / 10 / 10 % 10 = omega arith in
    let d : m / 10 / 10 % 10 ≡ n / 10 / 10 % 10 = omega arith in
    let e : m / 10 % 10 ≡ n / 10 % 10 = omega arith in
    let f : m % 10 ≡ n % 10 = omega arith in
    rw (a, b, c, d, e, f)

pub six : (n : ℕ) → padded_integral (format_spec 32 0 4 6 (2 ^ 64 - 1)) false [] (decimal (n % 1000000)) ≡ last_digits 10 6 n
unfolding padded_integral char_count
six n =
    let m = n % 1000000 in
    let z : replicate (6 - length (decimal m)) 48 ++ decimal m ≡ last_digits 10 6 n = zeros 5 m (omega arith) (omega arith) ∙ same n in
    simp (append-nil, sub-zero) z

-- A code of n bits with its first bit inverted, read in two's complement, is the code less 2 ^ (n - 1).
use Rattle.std.specs.Prelude.{◌≡◌, ℕ, suc, ◌+◌, ◌-◌, ◌*◌, ◌^◌, ◌≤◌, ◌<◌, Bool, true, false, not, cond, pos, negsuc, T, leb}
use Rattle.std.proofs.Common.{sym, ap, ap₂, ◌∙◌, subst, zero-mul, one-mul, add-zero, zero-add, arith, leb→le, pow_pos, lt-ltb, le-ltb, le-leb}
use Rattle.std.proofs.Math.Nat.{two-pow-succ}
use Rattle.std.proofs.Math.Dec.{nleb→lt}
use Rattle.std.specs.Int.Bits.{bit_xor, xor_zero_r}
use Rattle.std.proofs.lemmas.Nat.{xor_block}
use Rattle.std.specs.Float.Ieee.{minus}
use Rattle.std.proofs.lemmas.Bool.{lt-leb}
use Rattle.requant.specs.Requant.{inverted, twos_complement}

pub pow-halves : (n : ℕ) → 1 ≤ n → 2 ^ n ≡ 2 ^ (n - 1) + 2 ^ (n - 1)
pow-halves n h = ap (λ (x : ℕ). 2 ^ x) (sym (up n h)) ∙ two-pow-succ (n - 1)
  where
    up : (n : ℕ) → 1 ≤ n → suc (n - 1) ≡ n
    up n h = omega arith

pub in_halves : (n k : ℕ) → 1 ≤ n → k < 2 ^ n → k < 2 ^ (n - 1) + 2 ^ (n - 1)
in_halves n k N K = subst (λ (x : ℕ). k < x) (pow-halves n N) K

minus-less : (a b : ℕ) → a < b → minus a b ≡ negsuc (b - suc a)
minus-less a b h = ap (λ (t : Bool). cond t (pos (a - b)) (negsuc (b - suc a))) (lt-leb b a h)

minus-more : (a b : ℕ) → b ≤ a → minus a b ≡ pos (a - b)
minus-more a b h = ap (λ (t : Bool). cond t (pos (a - b)) (negsuc (b - suc a))) (le-leb b a h)

invert-low : (h k : ℕ) → k < 2 ^ h → bit_xor k (2 ^ h) ≡ 2 ^ h + k
invert-low h k l =
    ap₂ bit_xor (sym (zero-add k) ∙ ap (λ (z : ℕ). z + k) (sym (zero-mul (2 ^ h)))) (sym (one-mul (2 ^ h)) ∙ sym (add-zero (1 * 2 ^ h)))
    ∙ xor_block h 0 1 k 0 l (pow_pos h)
    ∙ ap₂ (λ (x y : ℕ). x + y) (one-mul (2 ^ h)) (xor_zero_r k)

invert-high : (h r : ℕ) → r < 2 ^ h → bit_xor (2 ^ h + r) (2 ^ h) ≡ r
invert-high h r l =
    ap₂ bit_xor (ap (λ (z : ℕ). z + r) (sym (one-mul (2 ^ h)))) (sym (one-mul (2 ^ h)) ∙ sym (add-zero (1 * 2 ^ h)))
    ∙ xor_block h 1 1 r 0 l (pow_pos h)
    ∙ ap₂ (λ (x y : ℕ). x + y) (zero-mul (2 ^ h)) (xor_zero_r r)
    ∙ zero-add r

twos-low : (n x : ℕ) → x < 2 ^ (n - 1) → twos_complement n x ≡ pos x
twos-low n x h = ap (λ (t : Bool). cond t (pos x) (minus x (2 ^ n))) (lt-ltb x (2 ^ (n - 1)) h)

twos-high : (n x : ℕ) → 2 ^ (n - 1) ≤ x → x < 2 ^ n → twos_complement n x ≡ negsuc (2 ^ n - suc x)
twos-high n x h l = ap (λ (t : Bool). cond t (pos x) (minus x (2 ^ n))) (le-ltb x (2 ^ (n - 1)) h) ∙ minus-less x (2 ^ n) l

pub inverted-minus : (n code : ℕ) → 1 ≤ n → code < 2 ^ n → twos_complement n (inverted n code) ≡ minus code (2 ^ (n - 1))
inverted-minus n code N K = go (leb H code) (leb→le H code) (nleb→lt H code)
  where
    H : ℕ
    H = 2 ^ (n - 1)

    go : (b : Bool) → (T b → H ≤ code) → (T (not b) → code < H) → twos_complement n (inverted n code) ≡ minus code H
    go true f g =
        let h = f tt in
        let w = pow-halves n N in
        let l : code - H < H = omega arith in
        ap (λ (x : ℕ). twos_complement n (bit_xor x H)) (the code H h) ∙ ap (twos_complement n) (invert-high (n - 1) (code - H) l) ∙ twos-low n (code - H) l ∙ sym (minus-more code H h)
      where
        the : (k H : ℕ) → H ≤ k → k ≡ H + (k - H)
        the k H l = omega arith
    go false f g =
        let h = g tt in
        let w = pow-halves n N in
        ap (twos_complement n) (invert-low (n - 1) code h) ∙ twos-high n (H + code) (omega arith) (omega arith) ∙ ap negsuc (less code H (2 ^ n) w) ∙ sym (minus-less code H h)
      where
        less : (k H N : ℕ) → N ≡ H + H → N - suc (H + k) ≡ H - suc k
        less k H N e = omega arith

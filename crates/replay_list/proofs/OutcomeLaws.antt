-- The hash of all numbers of a list, by its first ones; a flag as a number, and a hash of one number more.
use Rattle.std.specs.Prelude.{◌≡◌, ℕ, zero, suc, ◌+◌, ◌≤◌, Bool, true, false, cond, List, length, take, get_or, slice_index}
use Rattle.std.specs.List.{fold}
use Rattle.std.proofs.Common.{refl, sym, ap, ◌∙◌, add-one, arith}
use Rattle.std.proofs.Math.Seq.{take-length}
use Rattle.std.proofs.lemmas.List.Sums.{fold_more}
use mir.Val.{bool_byte}
use Rattle.encoding.specs.Encoding.{hash_number}
use Rattle.replay_list.specs.Outcome.{hash_numbers}

numbers-taken : (h : ℕ) (xs : List ℕ) (n : ℕ) → n ≤ length xs → fold hash_number h (take n xs) ≡ hash_numbers h xs n
unfolding hash_numbers
numbers-taken h xs zero l = refl
numbers-taken h xs (suc n) l = ap (λ (k : ℕ). fold hash_number h (take k xs)) (sym (add-one n)) ∙ (fold_more hash_number h xs n 0 (omega arith) ∙ ap (λ g. hash_number g (get_or xs n 0)) (numbers-taken h xs n (omega arith)))

pub numbers-fold : (h : ℕ) (xs : List ℕ) → fold hash_number h xs ≡ hash_numbers h xs (length xs)
numbers-fold h xs = ap (fold hash_number h) (sym (take-length xs)) ∙ numbers-taken h xs (length xs) (omega arith)

pub flag-byte : (b : Bool) → bool_byte b ≡ cond b 1 0
flag-byte true = refl
flag-byte false = refl

pub numbers-none : (h : ℕ) (xs : List ℕ) → h ≡ hash_numbers h xs 0
unfolding hash_numbers
numbers-none h xs = refl

pub numbers_more : (h : ℕ) (xs : List ℕ) (k hash next : ℕ) → hash ≡ hash_numbers h xs k → next ≡ hash_number hash (slice_index xs k) → next ≡ hash_numbers h xs (k + 1)
unfolding hash_numbers
numbers_more h xs k hash next e q = q ∙ rw (e, add-one)

pub numbers-all : (h : ℕ) (xs : List ℕ) (n k hash : ℕ) → hash ≡ hash_numbers h xs k → k ≤ n → n ≤ k → hash ≡ hash_numbers h xs n
numbers-all h xs n k hash e below above = let q : k ≡ n = omega arith in e ∙ rw q

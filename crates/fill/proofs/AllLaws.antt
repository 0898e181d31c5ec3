-- A test of each item of a list, with its number or without, is a test of each of its first numbers.
use Rattle.std.specs.Prelude.{◌≡◌, refl, Bool, true, false, ◌&&◌, List, [], ◌∷◌, ℕ, zero, suc, ◌+◌, length, get_or}
use Rattle.std.specs.List.{list_all, enumerate_from}
use Rattle.std.proofs.Common.{sym, ap, ◌∙◌, arith}
use Rattle.fill.specs.Each.{each}
use Rattle.fill.proofs.EachLaws.{each_same}

and-assoc : (a b c : Bool) → (a && b) && c ≡ a && (b && c)
and-assoc true b c = refl
and-assoc false b c = refl

and-end : (a : Bool) → a ≡ a && true
and-end true = refl
and-end false = refl

each-front : (f : ℕ → Bool) (n : ℕ) → each f (suc n) ≡ f 0 && each (λ k. f (suc k)) n
unfolding each
each-front f zero = and-end (f 0)
each-front f (suc n) = ap (λ b. b && f (suc n)) (each-front f n) ∙ and-assoc (f 0) (each (λ k. f (suc k)) n) (f (suc n))

pub all_each : {A : Type 0} (p : A → Bool) (z : A) (xs : List A) → list_all p xs ≡ each (λ k. p (get_or xs k z)) (length xs)
unfolding each
all_each p z [] = refl
all_each p z (x ∷ xs) = ap (λ b. p x && b) (all_each p z xs) ∙ sym (each-front (λ k. p (get_or (x ∷ xs) k z)) (length xs))

-- the same of each item with its number
all-numbered : {A : Type 0} (p : ℕ × A → Bool) (z : A) (n : ℕ) (xs : List A) → list_all p (enumerate_from n xs) ≡ each (λ k. p (n + k, get_or xs k z)) (length xs)
unfolding each
all-numbered p z n [] = refl
all-numbered p z n (x ∷ xs) =
    let first : n + 0 ≡ n = omega arith in
    ap (λ b. p (n, x) && b)
    (all-numbered p z (n + 1) xs
    ∙ each_same (λ k. p (n + 1 + k, get_or xs k z)) (λ k. p (n + suc k, get_or xs k z)) (length xs)
    (λ k l. let same : n + 1 + k ≡ n + suc k = omega arith in ap (λ j. p (j, get_or xs k z)) same))
    ∙ ap (λ j. p (j, x) && each (λ k. p (n + suc k, get_or xs k z)) (length xs)) (sym first)
    ∙ sym (each-front (λ k. p (n + k, get_or (x ∷ xs) k z)) (length xs))

pub all_numbered : {A : Type 0} (p : ℕ × A → Bool) (z : A) (xs : List A) → list_all p (enumerate_from 0 xs) ≡ each (λ k. p (k, get_or xs k z)) (length xs)
all_numbered p z xs = all-numbered p z 0 xs ∙ each_same (λ k. p (0 + k, get_or xs k z)) (λ k. p (k, get_or xs k z)) (length xs) (λ k l. let same : 0 + k ≡ k = omega arith in ap (λ j. p (j, get_or xs k z)) same)

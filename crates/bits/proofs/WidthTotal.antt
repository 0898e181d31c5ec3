-- How many bits a program uses at the most, as the sum of its parts: fields, two parts, the turns of a loop.
use Rattle.std.specs.Prelude.{Bool, true, false, cond, ℕ, zero, suc, ◌+◌, ◌^◌, ◌<◌}
use Rattle.std.proofs.Common.{arith}
use Rattle.bits.specs.Syntax.{Syntax, done, field, both, times}
use Rattle.bits.proofs.Width.{AtMost, most-done, most-field, most-bind, most-both}
use Rattle.bits.specs.Total.{total}

-- a field, and w bits after it
pub most-then : {A : Type 0} {n : ℕ} {k : ℕ → Syntax A} {w : ℕ} → ((v : ℕ) → v < 2 ^ n → AtMost (k v) w) → AtMost (field n k) (n + w)
most-then {w = w} h = most-field w (omega arith) h

-- a last field
pub most-last : {A : Type 0} {n : ℕ} {g : ℕ → A} → AtMost (field n (λ v. done (g v))) n
most-last = most-field 0 (omega arith) (λ v b. most-done)

-- either program, by the same test
pub most-either : {A : Type 0} (t : Bool) {m m' : Syntax A} {w w' : ℕ} → AtMost m w → AtMost m' w' → AtMost (cond t m m') (cond t w w')
most-either true f g = f
most-either false f g = g

-- two parts
pub most-parts : {A B : Type 0} {m : Syntax A} {k : A → Syntax B} {w w' : ℕ} → AtMost m w → ((a : A) → AtMost (k a) w') → AtMost (both m k) (w + w')
most-parts {w = w} {w' = w'} h f = most-both w' (omega arith) h f

-- a loop whose turn j uses at most w j bits
pub most-total : {A : Type 0} (n i : ℕ) {f : ℕ → A → Syntax A} (a : A) (w : ℕ → ℕ) → ((j : ℕ) (a : A) → AtMost (f j a) (w j)) → AtMost (times n i f a) (total n i w)
unfolding times total
most-total zero i a w turn = most-done
most-total (suc n) i a w turn = most-bind (total n (suc i) w) (omega arith) (turn i a) (λ a'. most-total n (suc i) a' w turn)

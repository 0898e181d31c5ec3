-- One turn of each loop over a string's places, and both cases of a field.
use Rattle.std.specs.Prelude.{◌≡◌, List, [], ◌∷◌, ℕ, zero, suc, length, take, drop, ◌+◌, ◌-◌, ◌*◌, ◌/◌, ◌%◌, ◌≤◌, ◌<◌, get_or, set}
use Rattle.std.specs.List.{fold}
use Rattle.std.proofs.Common.{refl, sym, ap, ap₂, ◌∙◌, add-one, arith, le-leb, length-drop, get_or-drop}
use Rattle.std.proofs.lemmas.Bool.{lt-leb}
use Rattle.std.proofs.lemmas.List.Sums.{fold_more}
use Rattle.boundary_run.specs.String.{put_bits, field_of, fields_of, byte_of}
use Rattle.boundary_run.specs.declared.string.Bits.{Bits}

-- one bit, the last of those that are left
pub put_one : (whole bits : List ℕ) (p n v : ℕ) → 0 < n → whole ≡ put_bits bits p n v → whole ≡ put_bits (set bits (p + (n - 1)) (v % 2)) p (n - 1) (v / 2)
unfolding put_bits
put_one whole bits p n v h e = let q : n ≡ suc (n - 1) = omega arith in e ∙ ap (λ (m : ℕ). put_bits bits p m v) q

pub put-none : (bits : List ℕ) (p n v : ℕ) → n ≤ 0 → put_bits bits p n v ≡ bits
unfolding put_bits
put-none bits p n v h = let q : n ≡ 0 = omega arith in rw q

fields-first : (b : Bits) (k n v : ℕ) → fields_of (field_of b n v) k n v ≡ field_of (fields_of b k n v) n v
unfolding fields_of
fields-first b zero n v = refl
fields-first b (suc k) n v = ap (λ (o : Bits). field_of o n v) (fields-first b k n v)

-- a field for each element, whatever it is
pub fields-fold : (xs : List ℕ) (b : Bits) (n v : ℕ) → fold (λ o x. field_of o n v) b xs ≡ fields_of b (length xs) n v
unfolding fields_of
fields-fold [] b n v = refl
fields-fold (x ∷ xs) b n v = fields-fold xs (field_of b n v) n v ∙ fields-first b (length xs) n v

-- places are taken from the first on
pub byte-fold : (bits : List ℕ) (first n : ℕ) → first + n ≤ length bits → fold (λ v b. (2 * v + b) % 256) 0 (take n (drop first bits)) ≡ byte_of bits first n
unfolding byte_of
byte-fold bits first zero h = refl
byte-fold bits first (suc n) h =
    let l : n < length (drop first bits) = simp length-drop (omega arith) in
    ap (λ (k : ℕ). fold (λ v b. (2 * v + b) % 256) 0 (take k (drop first bits))) (sym (add-one n))
    ∙ (fold_more (λ v b. (2 * v + b) % 256) 0 (drop first bits) n 0 l
    ∙ ap₂ (λ v b. (2 * v + b) % 256) (byte-fold bits first n (omega arith)) (get_or-drop first bits n 0))

-- ---- one field, one field more and one place more

pub field-passes : (b : Bits) (n v : ℕ) → 232 < b.at + n → b ≡ field_of b n v
unfolding field_of
field-passes b n v h = simp (lt-leb _ _ h)

pub field_fits : (b : Bits) (n v : ℕ) (out : List ℕ) → b.at + n ≤ 232 → out ≡ put_bits b.bits b.at n v → record { bits = out; at = b.at + n } ≡ field_of b n v
unfolding field_of
field_fits b n v out h e = simp (le-leb _ _ h) (ap (λ (l : List ℕ). record { bits = l; at = b.at + n }) e)

pub fields-more : (b out : Bits) (k n v : ℕ) (next : Bits) → out ≡ fields_of b k n v → next ≡ field_of out n v → next ≡ fields_of b (k + 1) n v
unfolding fields_of
fields-more b out k n v next e q = rw (add-one k) (q ∙ ap (λ (o : Bits). field_of o n v) e)

pub byte_more : (bits : List ℕ) (first k value place : ℕ) → value ≡ byte_of bits first k → place ≡ get_or bits (first + k) 0 → (2 * value + place) % 256 ≡ byte_of bits first (k + 1)
unfolding byte_of
byte_more bits first k value place e q = rw (add-one k, e, q)

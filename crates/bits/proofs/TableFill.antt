-- A loop that fills a table from the front recovers each field: what is stored below a level stays.
use Rattle.std.specs.Prelude.{◌≡◌, refl, List, ℕ, suc, ◌+◌, ◌≤◌, ◌<◌, length, get_or, set}
use Rattle.std.proofs.Common.{◌∙◌, arith, length-set, get_or-set_same, get_or-set_other}
use Rattle.bits.specs.Syntax.{Syntax, times}
use Rattle.bits.specs.Recovers.{Finds, Recovers}
use Rattle.bits.proofs.Unique.{finds-weaken, finds-times}
use Rattle.bits.specs.Table.{set3}

-- ---- tables

-- t has the entries of s below n; a record, so that a call finds n, s and t by itself
pub record Keeps (n : ℕ) (s t : List ℕ) : Type 0 where
  pub entry : (j : ℕ) → j < n → get_or t j 0 ≡ get_or s j 0

pub keeps-refl : {n : ℕ} {s : List ℕ} → Keeps n s s
keeps-refl = record { entry = λ j l. refl }

pub keeps-le : {n m : ℕ} {s t : List ℕ} → n ≤ m → Keeps m s t → Keeps n s t
keeps-le h k = record { entry = λ j l. k.entry j (omega arith) }

-- a table that keeps the entries after a store at the level keeps those before it
pub keeps-set : (s : List ℕ) (n v : ℕ) {m : ℕ} {t : List ℕ} → n ≤ m → Keeps m (set s n v) t → Keeps n s t
keeps-set s n v h k = record { entry = λ j l. k.entry j (omega arith) ∙ get_or-set_other s n j v 0 (omega arith) }

-- and has what was stored
pub keeps-at : (s : List ℕ) (n v : ℕ) {m : ℕ} {t : List ℕ} → n < length s → n < m → Keeps m (set s n v) t → get_or t n 0 ≡ v
keeps-at s n v h l k = k.entry n l ∙ get_or-set_same s n v 0 h

pub length-set3 : (s : List ℕ) (i x y z : ℕ) → length (set3 s i x y z) ≡ length s
unfolding set3
length-set3 s i x y z = simp length-set

-- t keeps the entries of s below i, and has x, y and z from i on
pub record Keeps3 (i x y z : ℕ) (s t : List ℕ) : Type 0 where
  pub below : Keeps i s t
  pub first : get_or t i 0 ≡ x
  pub second : get_or t (i + 1) 0 ≡ y
  pub third : get_or t (i + 2) 0 ≡ z

pub keeps-set3 : (s : List ℕ) (i x y z : ℕ) {m : ℕ} {t : List ℕ} → i + 3 ≤ length s → i + 3 ≤ m → Keeps m (set3 s i x y z) t → Keeps3 i x y z s t
unfolding set3
keeps-set3 s i x y z {t = t} h hm k =
    let s₁ = set s i x in
    let s₂ = set s₁ (i + 1) y in
    let l₁ : length s₁ ≡ length s = length-set s i x in
    let l₂ : length s₂ ≡ length s₁ = length-set s₁ (i + 1) y in
    let k₂ : Keeps (i + 2) s₂ t = keeps-set s₂ (i + 2) z (omega arith) k in
    let k₁ : Keeps (i + 1) s₁ t = keeps-set s₁ (i + 1) y (omega arith) k₂ in
    record {
      below = keeps-set s i x (omega arith) k₁;
      first = keeps-at s i x (omega arith) (omega arith) k₁;
      second = keeps-at s₁ (i + 1) y (omega arith) (omega arith) k₂;
      third = keeps-at s₂ (i + 2) z (omega arith) (omega arith) k;
    }

-- ---- loops

-- a has N entries, and what was found holds of each table that has a's entries below n
pub record Filling (N n : ℕ) (a : List ℕ) (L : List ℕ → Type 0) : Type 0 where
  pub sized : length a ≡ N
  pub holds : (r : List ℕ) → Keeps n a r → L r

-- nothing is stored up to a higher level
pub fill-up : {N n m : ℕ} {a : List ℕ} {L : List ℕ → Type 0} → n ≤ m → Filling N n a L → Filling N m a L
fill-up h q = record { sized = q.sized; holds = λ r k. q.holds r (keeps-le h k) }

-- one store at the level; P follows from what held before and from the entry
pub fill-set : {N m : ℕ} (a : List ℕ) (n v : ℕ) {L P : List ℕ → Type 0} → n < N → n < m → Filling N n a L
    → ((r : List ℕ) → L r → get_or r n 0 ≡ v → P r) → Filling N m (set a n v) P
fill-set a n v h hm q f =
    let z = q.sized in
    record {
      sized = length-set a n v ∙ z;
      holds = λ r k. f r (q.holds r (keeps-set a n v (omega arith) k)) (keeps-at a n v (omega arith) hm k);
    }

-- three stores from the level on
pub fill-set3 : {N m : ℕ} (a : List ℕ) (n x y z : ℕ) {L P : List ℕ → Type 0} → n + 3 ≤ N → n + 3 ≤ m → Filling N n a L
    → ((r : List ℕ) → L r → Keeps3 n x y z a r → P r) → Filling N m (set3 a n x y z) P
fill-set3 a n x y z h hm q f =
    let s = q.sized in
    record {
      sized = length-set3 a n x y z ∙ s;
      holds = λ r k. let k3 = keeps-set3 a n x y z (omega arith) hm k in f r (q.holds r k3.below) k3;
    }

-- a loop whose turn j fills the table from level j up to the level of the next turn
pub recovers-loop : (N count : ℕ) (level : ℕ → ℕ) (f : ℕ → List ℕ → Syntax (List ℕ)) (a : List ℕ) → length a ≡ N
    → ((j : ℕ) (a : List ℕ) (L : List ℕ → Type 0) → j < count → Filling N (level j) a L → Finds (f j a) L (Filling N (level (suc j))))
    → Recovers (times count 0 f a)
recovers-loop N count level f a h step =
    finds-weaken (finds-times count 0 (λ j. Filling N (level j)) (record { sized = h; holds = λ r k. tt }) (λ j a L b. step j a L (omega arith)))
    (λ a L q. q.holds a keeps-refl)

-- Laws of answers by cases: by a test, and by the six cases of front and surround.
use Rattle.std.specs.Prelude.{◌≡◌, refl, Bool, true, false, cond, ◌⊎◌, ℕ, eqb}
use Rattle.std.proofs.Common.{sym, subst, inl, inr, eqb-true, ne_eqb}
use Rattle.mc_config.specs.Config.{by_pair}

-- what holds of both answers holds of the one that is taken
pub cond-all {ℓ κ} : {X : Type ℓ} (P : X → Type κ) (b : Bool) {x y : X} → P x → P y → P (cond b x y)
cond-all P true p q = p
cond-all P false p q = q

-- the same, where each answer may use the test's outcome
pub cond-split {ℓ κ} : {X : Type ℓ} (P : X → Type κ) (b : Bool) {x y : X} → (b ≡ true → P x) → (b ≡ false → P y) → P (cond b x y)
cond-split P true p q = p refl
cond-split P false p q = q refl

-- none of 3/2, 3/1, 3/0, 2/2 and 2/1
pub record Other (pair : ℕ) : Type 0 where
  pub not32 : eqb pair 32 ≡ false
  pub not31 : eqb pair 31 ≡ false
  pub not30 : eqb pair 30 ≡ false
  pub not22 : eqb pair 22 ≡ false
  pub not21 : eqb pair 21 ≡ false

pub other : {pair : ℕ} → (pair ≡ 32 → ⊥) → (pair ≡ 31 → ⊥) → (pair ≡ 30 → ⊥) → (pair ≡ 22 → ⊥) → (pair ≡ 21 → ⊥) → Other pair
other a b c d e =
    record {
      not32 = ne_eqb _ 32 a;
      not31 = ne_eqb _ 31 b;
      not30 = ne_eqb _ 30 c;
      not22 = ne_eqb _ 22 d;
      not21 = ne_eqb _ 21 e;
    }

-- what is left of a match after the arms `32`, `31 | 22` and `30 | 21`
pub rest-other :
    {pair : ℕ} → ((Unit {0} × (pair ≡ 32 → ⊥)) × ((pair ≡ 22) ⊎ (pair ≡ 31) → ⊥)) × ((pair ≡ 21) ⊎ (pair ≡ 30) → ⊥) → Other pair
rest-other r = other r.0.0.1 (λ e. r.0.1 (inr e)) (λ e. r.1 (inr e)) (λ e. r.0.1 (inl e)) (λ e. r.1 (inl e))

split {ℓ} : (P : ℕ → Type ℓ) (k pair : ℕ) → P k → (eqb pair k ≡ false → P pair) → P pair
split P k pair same differs = go (eqb pair k) refl
  where
    go : (b : Bool) → eqb pair k ≡ b → P pair
    go true e = subst P (sym (eqb-true pair k e)) same
    go false e = differs e

-- what holds of the five, and of any other pair, holds of every pair
pub by_pair-elim {ℓ} : (P : ℕ → Type ℓ) → P 32 → P 31 → P 30 → P 22 → P 21 → ((pair : ℕ) → Other pair → P pair) → (pair : ℕ) → P pair
by_pair-elim P p32 p31 p30 p22 p21 others pair =
    split P 32 pair p32 λ a. split P 31 pair p31 λ b. split P 30 pair p30 λ c. split P 22 pair p22 λ d. split P 21 pair p21 λ e.
    others pair (record { not32 = a; not31 = b; not30 = c; not22 = d; not21 = e })

-- the value by configuration, where the pair is none of the five
pub by_pair-other {ℓ} : {X : Type ℓ} (a b c d e f : X) {pair : ℕ} → Other pair → by_pair a b c d e f pair ≡ f
by_pair-other a b c d e f o = rw (o.not32, o.not31, o.not30, o.not22, o.not21)

pub by_pair-all {ℓ κ} : {X : Type ℓ} (P : X → Type κ) {a b c d e f : X} → P a → P b → P c → P d → P e → P f → (pair : ℕ) → P (by_pair a b c d e f pair)
by_pair-all P {a} {b} {c} {d} {e} {f} pa pb pc pd pe pf = by_pair-elim (λ pair. P (by_pair a b c d e f pair)) pa pb pc pd pe (λ pair o. rw (by_pair-other a b c d e f o) pf)

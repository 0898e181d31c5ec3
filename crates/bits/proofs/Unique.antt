-- Programs that recover: the rules by which one is shown to, and what it then has.
use Rattle.std.specs.Prelude.{◌≡◌, refl, ◌↔◌, Bool, true, false, cond, List, ℕ, zero, suc, ◌+◌, ◌^◌, ◌≤◌, ◌<◌, eqb}
use Rattle.std.proofs.Common.{sym, ap, subst, ◌∙◌, add-zero, arith}
use Rattle.bits.specs.Bits.{value_at, Agree}
use Rattle.bits.proofs.BitsLaws.{value<, agree-value, agree-join}
use Rattle.bits.specs.Recovers.{Finding, Finds, None, All, Recovers}
use Rattle.bits.specs.Syntax.{Refusal, Syntax, done, refuse, field, accepted, run, bind, both, times}
use Rattle.bits.proofs.SyntaxLaws.{fitted, within, prefix}

-- ---- the rules by which a program is shown to recover

module _ {C A : Type 0} where
  pub finds-done : {a : A} {L : C → Type 0} {Q : A → (C → Type 0) → Type 0} → Q a L → Finds (done a) L Q
  unfolding Finding
  finds-done h = record { finding = h }

  pub finds-refuse : {x : Refusal} {L : C → Type 0} {Q : A → (C → Type 0) → Type 0} → Finds (refuse x) L Q
  unfolding Finding
  finds-refuse = record { finding = tt }

  pub finds-field : {n : ℕ} {k : ℕ → Syntax A} {L : C → Type 0} {Q : A → (C → Type 0) → Type 0} (find : C → ℕ)
      → ((v : ℕ) → v < 2 ^ n → Finds (k v) (λ r. L r × (find r ≡ v)) Q) → Finds (field n k) L Q
  unfolding Finding
  finds-field find h = record { finding = (find, λ v b. (h v b).finding) }

  pub finds-cond : (t : Bool) {m m' : Syntax A} {L : C → Type 0} {Q : A → (C → Type 0) → Type 0}
      → (t ≡ true → Finds m L Q) → (t ≡ false → Finds m' L Q) → Finds (cond t m m') L Q
  finds-cond true f g = f refl
  finds-cond false f g = g refl

  finding-weaken : (m : Syntax A) (L : C → Type 0) (Q Q' : A → (C → Type 0) → Type 0)
      → ((a : A) (L' : C → Type 0) → Q a L' → Q' a L') → Finding m L Q → Finding m L Q'
  unfolding Finding
  finding-weaken (done a) L Q Q' f h = f a L h
  finding-weaken (refuse x) L Q Q' f h = h
  finding-weaken (field n k) L Q Q' f h = (h.0, λ v b. finding-weaken (k v) (λ r. L r × (h.0 r ≡ v)) Q Q' f (h.1 v b))

  pub finds-weaken : {m : Syntax A} {L : C → Type 0} {Q Q' : A → (C → Type 0) → Type 0}
      → Finds m L Q → ((a : A) (L' : C → Type 0) → Q a L' → Q' a L') → Finds m L Q'
  finds-weaken {m} {L} {Q} {Q'} h f = record { finding = finding-weaken m L Q Q' f h.finding }

finding-bind : {A B C : Type 0} (m : Syntax A) (k : A → Syntax B) (L : C → Type 0) (Q : B → (C → Type 0) → Type 0)
    → Finding m L (λ a L'. Finds (k a) L' Q) → Finding (bind m k) L Q
unfolding Finding bind
finding-bind (done a) k L Q h = h.finding
finding-bind (refuse x) k L Q h = h
finding-bind (field n f) k L Q h = (h.0, λ v b. finding-bind (f v) k (λ r. L r × (h.0 r ≡ v)) Q (h.1 v b))

pub finds-bind : {A B C : Type 0} {m : Syntax A} {k : A → Syntax B} {L : C → Type 0} {Q : A → (C → Type 0) → Type 0} {Q' : B → (C → Type 0) → Type 0}
    → Finds m L Q → ((a : A) (L' : C → Type 0) → Q a L' → Finds (k a) L' Q') → Finds (bind m k) L Q'
finds-bind {m = m} {k = k} {L = L} {Q = Q} {Q' = Q'} h f = record { finding = finding-bind m k L Q' (finding-weaken m L Q (λ a L'. Finds (k a) L' Q') f h.finding) }

-- a loop: Q j holds before turn j
pub finds-times : {A C : Type 0} (n i : ℕ) {f : ℕ → A → Syntax A} {a : A} (Q : ℕ → A → (C → Type 0) → Type 0) {L : C → Type 0}
    → Q i a L → ((j : ℕ) (a' : A) (L' : C → Type 0) → j < i + n → Q j a' L' → Finds (f j a') L' (Q (suc j)))
    → Finds (times n i f a) L (Q (i + n))
unfolding times
finds-times zero i {a = a} Q {L} q step = finds-done (rw (add-zero i) q)
finds-times (suc n) i {f} Q q step =
    finds-bind (step i _ _ (omega arith) q)
    (λ a' L' q'. rest a' L' (finds-times n (suc i) Q q' (λ j a'' L'' b. step j a'' L'' (omega arith))))
  where
    rest : (a' : _) (L' : _) → Finds (times n (suc i) f a') L' (Q (suc i + n)) → Finds (times n (suc i) f a') L' (Q (i + suc n))
    rest a' L' h = let e : suc i + n ≡ i + suc n = omega arith in rw e at h

-- a field of one bit that is kept as a truth value
pub flag-value : (v : ℕ) → v < 2 ^ 1 → cond (eqb v 1) 1 0 ≡ v
flag-value zero h = refl
flag-value (suc zero) h = refl
flag-value (suc (suc v)) h = absurd (omega arith)

-- ---- two parts: each recovers its own result, and knows nothing of the other

-- what recovers its own result, as seen from a D that holds it at π; N says what else is known of the D
finding-along : {A D : Type 0} (π : D → A) (N : D → Type 0) (m : Syntax A) (L : A → Type 0) (M : D → Type 0)
    → ((d : D) → N d → L (π d) → M d) → Finding m L All → Finding m M (λ a M'. (d : D) → N d → π d ≡ a → M' d)
unfolding Finding
finding-along π N (done a) L M h o = λ d n e. h d n (rw e o)
finding-along π N (refuse x) L M h o = tt
finding-along π N (field n k) L M h o =
    (λ d. o.0 (π d), λ v b. finding-along π N (k v) (λ r. L r × (o.0 r ≡ v)) (λ d. M d × (o.0 (π d) ≡ v)) (λ d n l. (h d n l.0, l.1)) (o.1 v b))

pub finds-along : {A D : Type 0} (π : D → A) (N : D → Type 0) {m : Syntax A} (M : D → Type 0)
    → ((d : D) → N d → M d) → Recovers m → Finds m M (λ a M'. (d : D) → N d → π d ≡ a → M' d)
finds-along π N {m} M h o = record { finding = finding-along π N m None M (λ d n l. h d n) o.finding }

pub recovers-both : {A B : Type 0} {m : Syntax A} {k : A → Syntax B} → Recovers m → ((a : A) → Recovers (k a)) → Recovers (both m k)
unfolding both
recovers-both p q =
    finds-bind (finds-along (λ d. d.0) None None (λ d n. tt) p)
    (λ a M h. finds-bind (finds-along (λ d. d.1) (λ d. d.0 ≡ a) M (λ d n. h d tt n) (q a))
    (λ b M' h'. finds-done (h' (a, b) refl refl)))

-- ---- what a program that recovers has

-- what was found holds of the result of an accepted run
pub all_found : {A : Type 0} (m : Syntax A) (L : A → Type 0) (b : List ℕ) (l p : ℕ) (r : A) (u : ℕ)
    → Finding m L All → run m b l p ≡ accepted r u → L r
unfolding Finding run
all_found (done a) L b l p r u o e = let q : a ≡ r = cc in rw q at o
all_found (refuse x) L b l p r u o e = let z : ◌≡◌ {A = ℕ} 0 1 = cc in absurd (omega arith)
all_found (field n k) L b l p r u o e =
    let v = value_at b p n in
    (all_found (k v) (λ r. L r × (o.0 r ≡ v)) b l (p + n) r u (o.1 v (value< b p n)) (fitted n k b l p r u e).rest).0

-- two accepted runs with one result read the same bits
same_bits : {A : Type 0} (m : Syntax A) (L : A → Type 0) (b b' : List ℕ) (l l' p : ℕ) (r : A) (u u' : ℕ)
    → Finding m L All → run m b l p ≡ accepted r u → run m b' l' p ≡ accepted r u' → (u ≡ u') × Agree b b' p u
unfolding Finding run
same_bits (done a) L b b' l l' p r u u' o e e' =
    let q : p ≡ u = cc in
    let q' : p ≡ u' = cc in
    (omega arith, λ i pi iu. absurd (omega arith))
same_bits (refuse x) L b b' l l' p r u u' o e e' = let z : ◌≡◌ {A = ℕ} 0 1 = cc in absurd (omega arith)
same_bits (field n k) L b b' l l' p r u u' o e e' =
    let v = value_at b p n in
    let v' = value_at b' p n in
    let f = fitted n k b l p r u e in
    let f' = fitted n k b' l' p r u' e' in
    let g : o.0 r ≡ v = (all_found (k v) (λ r. L r × (o.0 r ≡ v)) b l (p + n) r u (o.1 v (value< b p n)) f.rest).1 in
    let g' : o.0 r ≡ v' = (all_found (k v') (λ r. L r × (o.0 r ≡ v')) b' l' (p + n) r u' (o.1 v' (value< b' p n)) f'.rest).1 in
    let q : v' ≡ v = sym g' ∙ g in
    let rest' = subst (λ (x : ℕ). run (k x) b' l' (p + n) ≡ accepted r u') q f'.rest in
    let ih = same_bits (k v) (λ r. L r × (o.0 r ≡ v)) b b' l l' (p + n) r u u' (o.1 v (value< b p n)) f.rest rest' in
    (ih.0, agree-join b b' p (p + n) u (agree-value b b' p n (sym q)) ih.1)

-- UNIQUE
pub unique : {A : Type 0} (m : Syntax A) (b b' : List ℕ) (l l' p : ℕ) (r r' : A) (u u' : ℕ)
    → Recovers m → p ≤ l' → run m b l p ≡ accepted r u → run m b' l' p ≡ accepted r' u'
    → (r ≡ r') ↔ ((u ≡ u') × Agree b b' p u)
unique m b b' l l' p r r' u u' o pl e e' = (there, back)
  where
    there : r ≡ r' → (u ≡ u') × Agree b b' p u
    there q = same_bits m None b b' l l' p r u u' o.finding e (e' ∙ ap (λ (x : _). accepted x u') (sym q))

    back : (u ≡ u') × Agree b b' p u → r ≡ r'
    back h =
        let w = within m b' l' p r' u' pl e' in
        let e'' = prefix m b b' l l' p r u e h.1 (omega arith) in
        cc

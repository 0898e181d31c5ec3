-- Laws of `run`: fields, parts and loops; and what holds of every program: it moves forward, PREFIX and CUT.
use Rattle.std.specs.Prelude.{◌≡◌, Bool, true, false, cond, List, ℕ, suc, ◌+◌, ◌-◌, ◌≤◌, ◌<◌, leb}
use Rattle.std.proofs.Math.Path.{refl, ap, fun_ext}
use Rattle.std.proofs.Common.{sym, ◌∙◌, add-one, arith, le-leb}
use Rattle.std.proofs.Math.Decide.{dec_le}
use Rattle.std.proofs.lemmas.Bool.{lt-leb}
use Rattle.bits.specs.Bits.{value_at, Agree}
use Rattle.bits.proofs.BitsLaws.{value-agree}
use Rattle.bits.specs.Syntax.{Refusal, plain, Syntax, done, refuse, field, Outcome, accepted, refused, run, bind, both, times, and_then}

-- ---- a field

module _ {A : Type 0} (n : ℕ) (k : ℕ → Syntax A) (b : List ℕ) (l p : ℕ) where
  pub run-field : run (field n k) b l p ≡ cond (leb (p + n) l) (run (k (value_at b p n)) b l (p + n)) (refused (plain 1))
  unfolding run
  run-field = refl

  pub run_fits : p + n ≤ l → run (field n k) b l p ≡ run (k (value_at b p n)) b l (p + n)
  run_fits h = run-field ∙ rw (le-leb (p + n) l h)

  pub run_short : l < p + n → run (field n k) b l p ≡ refused (plain 1)
  run_short h = run-field ∙ rw (lt-leb (p + n) l h)

-- a field of an accepted run fits, and the rest is accepted
pub record Fitted {A : Type 0} (n : ℕ) (k : ℕ → Syntax A) (b : List ℕ) (l p : ℕ) (r : A) (u : ℕ) : Type 0 where
  pub fits : p + n ≤ l
  pub rest : run (k (value_at b p n)) b l (p + n) ≡ accepted r u

pub fitted : {A : Type 0} (n : ℕ) (k : ℕ → Syntax A) (b : List ℕ) (l p : ℕ) (r : A) (u : ℕ) → run (field n k) b l p ≡ accepted r u → Fitted n k b l p r u
fitted n k b l p r u e = go (dec_le (p + n) l)
  where
    go : Dec (p + n ≤ l) → Fitted n k b l p r u
    go (yes h) = record { fits = h; rest = sym (run_fits n k b l p h) ∙ e }
    go (no h) =
        let s : run (field n k) b l p ≡ refused (plain 1) = run_short n k b l p (omega arith) in
        let z : ◌≡◌ {A = ℕ} 0 1 = cc in
        absurd (omega arith)

-- ---- parts

and_then-cond : {A B : Type 0} (t : Bool) (x y : Outcome A) (k : A → ℕ → Outcome B) → cond t (and_then x k) (and_then y k) ≡ and_then (cond t x y) k
and_then-cond true x y k = refl
and_then-cond false x y k = refl

pub run_bind : {A B : Type 0} (m : Syntax A) (k : A → Syntax B) (b : List ℕ) (l p : ℕ) → run (bind m k) b l p ≡ and_then (run m b l p) (λ a u. run (k a) b l u)
unfolding run bind and_then
run_bind (done a) k b l p = refl
run_bind (refuse x) k b l p = refl
run_bind (field n f) k b l p =
    ap (λ (o : Outcome _). cond (leb (p + n) l) o (refused (plain 1))) (run_bind (f (value_at b p n)) k b l (p + n))
    ∙ and_then-cond (leb (p + n) l) (run (f (value_at b p n)) b l (p + n)) (refused (plain 1)) (λ a u. run (k a) b l u)

module _ {A B : Type 0} (m : Syntax A) (k : A → Syntax B) (b : List ℕ) (l p : ℕ) where
  pub run-both : run (both m k) b l p ≡ and_then (run m b l p) (λ a u. and_then (run (k a) b l u) (λ x w. accepted (a, x) w))
  unfolding both run
  run-both =
      run_bind m (λ a. bind (k a) (λ x. done (a, x))) b l p
      ∙ ap (and_then (run m b l p)) (fun_ext (λ a. fun_ext (λ u. run_bind (k a) (λ x. done (a, x)) b l u)))

  pub run-both-refuses : (x : Refusal) → run m b l p ≡ refused x → run (both m k) b l p ≡ refused x
  unfolding and_then
  run-both-refuses x e = run-both ∙ rw e

  pub run-both-next : (a : A) (u : ℕ) → run m b l p ≡ accepted a u → run (both m k) b l p ≡ and_then (run (k a) b l u) (λ x w. accepted (a, x) w)
  unfolding and_then
  run-both-next a u e = run-both ∙ rw e

-- ---- loops

pub run-times : {A : Type 0} (n i : ℕ) (f : ℕ → A → Syntax A) (a : A) (b : List ℕ) (l p : ℕ)
    → run (times (suc n) i f a) b l p ≡ and_then (run (f i a) b l p) (λ a' u. run (times n (suc i) f a') b l u)
unfolding times
run-times n i f a b l p = run_bind (f i a) (λ a'. times n (suc i) f a') b l p

-- a while loop over i below n: what is left at i
pub run-turn : {A : Type 0} (n i : ℕ) (f : ℕ → A → Syntax A) (a : A) (b : List ℕ) (l p : ℕ) → i < n
    → run (times (n - i) i f a) b l p ≡ and_then (run (f i a) b l p) (λ a' u. run (times (n - (i + 1)) (i + 1) f a') b l u)
run-turn n i f a b l p h =
    let e : n - i ≡ suc (n - (i + 1)) = omega arith in
    rw (e, add-one i) (run-times (n - suc i) i f a b l p)

pub run-over : {A : Type 0} (n i : ℕ) (f : ℕ → A → Syntax A) (a : A) (b : List ℕ) (l p : ℕ) → n ≤ i → run (times (n - i) i f a) b l p ≡ accepted a p
unfolding run times
run-over n i f a b l p h = let e : n - i ≡ 0 = omega arith in rw e

pub run-next : {A : Type 0} (n i : ℕ) (f : ℕ → A → Syntax A) (a a' : A) (b : List ℕ) (l p p' : ℕ) → i < n
    → run (f i a) b l p ≡ accepted a' p' → run (times (n - i) i f a) b l p ≡ run (times (n - (i + 1)) (i + 1) f a') b l p'
unfolding and_then
run-next n i f a a' b l p p' h e = run-turn n i f a b l p h ∙ rw e

pub run-refuses : {A : Type 0} (n i : ℕ) (f : ℕ → A → Syntax A) (a : A) (b : List ℕ) (l p : ℕ) (x : Refusal) → i < n
    → run (f i a) b l p ≡ refused x → run (times (n - i) i f a) b l p ≡ refused x
unfolding and_then
run-refuses n i f a b l p x h e = run-turn n i f a b l p h ∙ rw e

-- ---- every program

pub grows : {A : Type 0} (m : Syntax A) (b : List ℕ) (l p : ℕ) (r : A) (u : ℕ) → run m b l p ≡ accepted r u → p ≤ u
unfolding run
grows (done a) b l p r u e = let q : p ≡ u = cc in omega arith
grows (refuse x) b l p r u e = let z : ◌≡◌ {A = ℕ} 0 1 = cc in absurd (omega arith)
grows (field n k) b l p r u e =
    let f = fitted n k b l p r u e in
    let h : p + n ≤ u = grows (k (value_at b p n)) b l (p + n) r u f.rest in
    omega arith

pub within : {A : Type 0} (m : Syntax A) (b : List ℕ) (l p : ℕ) (r : A) (u : ℕ) → p ≤ l → run m b l p ≡ accepted r u → u ≤ l
unfolding run
within (done a) b l p r u pl e = let q : p ≡ u = cc in omega arith
within (refuse x) b l p r u pl e = let z : ◌≡◌ {A = ℕ} 0 1 = cc in absurd (omega arith)
within (field n k) b l p r u pl e =
    let f = fitted n k b l p r u e in
    within (k (value_at b p n)) b l (p + n) r u f.fits f.rest

-- PREFIX
pub prefix : {A : Type 0} (m : Syntax A) (b b' : List ℕ) (l l' p : ℕ) (r : A) (u : ℕ)
    → run m b l p ≡ accepted r u → Agree b b' p u → u ≤ l' → run m b' l' p ≡ accepted r u
unfolding run
prefix (done a) b b' l l' p r u e g ul = e
prefix (refuse x) b b' l l' p r u e g ul = let z : ◌≡◌ {A = ℕ} 0 1 = cc in absurd (omega arith)
prefix (field n k) b b' l l' p r u e g ul =
    let f = fitted n k b l p r u e in
    let pu : p + n ≤ u = grows (k (value_at b p n)) b l (p + n) r u f.rest in
    let v : value_at b p n ≡ value_at b' p n = value-agree b b' p n (λ i pi iu. g i pi (omega arith)) in
    run_fits n k b' l' p (omega arith)
    ∙ rw (← v) (prefix (k (value_at b p n)) b b' l l' (p + n) r u f.rest (λ i pi iu. g i (omega arith) iu) ul)

-- CUT
pub cut : {A : Type 0} (m : Syntax A) (b b' : List ℕ) (l l' p : ℕ) (r : A) (u : ℕ)
    → run m b l p ≡ accepted r u → p ≤ l' → l' < u → Agree b b' p l' → run m b' l' p ≡ refused (plain 1)
unfolding run
cut (done a) b b' l l' p r u e pl lu g = let q : p ≡ u = cc in absurd (omega arith)
cut (refuse x) b b' l l' p r u e pl lu g = let z : ◌≡◌ {A = ℕ} 0 1 = cc in absurd (omega arith)
cut (field n k) b b' l l' p r u e pl lu g =
    let f = fitted n k b l p r u e in
    go (dec_le (p + n) l') (λ h. cut (k (value_at b p n)) b b' l l' (p + n) r u f.rest h lu (λ i pi iu. g i (omega arith) iu))
  where
    go : Dec (p + n ≤ l') → (p + n ≤ l' → run (k (value_at b p n)) b' l' (p + n) ≡ refused (plain 1)) → run (field n k) b' l' p ≡ refused (plain 1)
    go (yes h) ih =
        let v : value_at b p n ≡ value_at b' p n = value-agree b b' p n (λ i pi iu. g i pi (omega arith)) in
        run_fits n k b' l' p h ∙ rw (← v) (ih h)
    go (no h) ih = run_short n k b' l' p (omega arith)

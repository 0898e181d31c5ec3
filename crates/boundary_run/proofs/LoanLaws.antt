-- What `from_fn` makes is the table of what its closure gives, where the closure stays as it was; and each case of what makes one element.
use Rattle.std.specs.Prelude.{◌≡◌, List, ℕ, ◌/◌, ◌%◌, ◌≤◌, ◌<◌, get_or}
use Rattle.std.specs.Array.{IsFromFnResult}
use Rattle.std.specs.Fn.{Called}
use denote.Param.Members.{Mut}
use borrow.Author.Tests.{lt-ltb, le-ltb, le-leb, lt-leb}
use Rattle.fill.specs.Tab.{tab}
use Rattle.fill.proofs.FromFn.{tab-made}
use Rattle.boundary_run.specs.Loan.{step_at, ones_at, byte_from}

pub made-tab : {F B : Type 0} (g : Mut F (ℕ × Unit {0}) B) (f : F) (h : ℕ → B) → ((k : ℕ) (y : B) (q : F) → Called g f (k, tt) y q → (q ≡ f) × (y ≡ h k))
    → (ys : List B) (n : ℕ) → IsFromFnResult g f ys n → ys ≡ tab h n
made-tab g f h gives ys n made = tab-made (h 0) h made (λ k _ y q called. let e = gives k y q called in (e.1, e.0))

-- ---- each case of what makes one element

module _ (channels subbands count k : ℕ) where
  pub step-beyond : channels ≤ k / 32 → 0 ≡ step_at channels subbands count k
  unfolding step_at
  step-beyond h = simp (le-ltb _ _ h)

  pub step-above : k / 32 < channels → subbands ≤ k % 32 → 0 ≡ step_at channels subbands count k
  unfolding step_at
  step-above h l = simp (lt-ltb _ _ h, le-ltb _ _ l)

  pub step-there : k / 32 < channels → k % 32 < subbands → count ≡ step_at channels subbands count k
  unfolding step_at
  step-there h l = simp (lt-ltb _ _ h, lt-ltb _ _ l)

module _ (first end k : ℕ) where
  pub ones-before : k < first → 0 ≡ ones_at first end k
  unfolding ones_at
  ones-before h = simp (lt-leb _ _ h)

  pub ones-there : first ≤ k → k < end → 255 ≡ ones_at first end k
  unfolding ones_at
  ones-there h l = simp (le-leb _ _ h, lt-ltb _ _ l)

  pub ones-after : first ≤ k → end ≤ k → 0 ≡ ones_at first end k
  unfolding ones_at
  ones-after h l = simp (le-leb _ _ h, le-ltb _ _ l)

module _ (start : List ℕ) (k : ℕ) where
  pub from_start : k < 29 → get_or start k 0 ≡ byte_from start k
  unfolding byte_from
  from_start h = simp (lt-ltb _ _ h)

  pub after-start : 29 ≤ k → 0 ≡ byte_from start k
  unfolding byte_from
  after-start h = simp (le-ltb _ _ h)

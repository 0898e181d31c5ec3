-- A turn of a loop that writes several places at once.
use Rattle.std.specs.Prelude.{◌≡◌, refl, List, ℕ, ◌+◌, ◌-◌, ◌≤◌, ◌<◌, length, get_or}
use Rattle.std.proofs.Common.{◌∙◌, ⊎_elim, eq-or-lt_of_le, eq-zero-or-pos, arith}
use Rattle.fill.specs.Tab.{filled}
use Rattle.fill.proofs.ByTurn.{ByTurn, turn-ends}

-- the places whose turn it is are written, and no others
pub turn-block :
    {A : Type 0} {z : A} {turn : ℕ → ℕ} {f : ℕ → A} {n : ℕ} {d dst next : List A} {t : ℕ}
    → ByTurn z turn f n d dst t
    → length next ≡ length dst
    → ((k : ℕ) → k < n → turn k ≡ t → get_or next k z ≡ f k)
    → ((k : ℕ) → (k < n → turn k ≡ t → ⊥) → get_or next k z ≡ get_or dst k z)
    → ByTurn z turn f n d next (t + 1)
turn-block {A} {z} {turn} {f} {n} {d} {dst} {next} {t} p long here there =
    record {
      room = p.room;
      long = long ∙ p.long;
      done = λ k l r. let q : turn k ≤ t = omega arith in ⊎_elim (λ e. here k l e) (λ s. there k (λ _ e. omega arith) ∙ p.done k l s) (eq-or-lt_of_le q);
      kept = λ k l r. there k (λ _ e. omega arith) ∙ p.kept k l (omega arith);
      past = λ k l. there k (λ s e. omega arith) ∙ p.past k l;
    }

-- nothing is written, where the places whose turn it is hold already what they are to hold
pub turn-skip :
    {A : Type 0} {z : A} {turn : ℕ → ℕ} {f : ℕ → A} {n : ℕ} {d dst : List A} {t : ℕ}
    → ByTurn z turn f n d dst t
    → ((k : ℕ) → k < n → turn k ≡ t → get_or d k z ≡ f k)
    → ByTurn z turn f n d dst (t + 1)
turn-skip p same = turn-block p refl (λ k l e. p.kept k l (omega arith) ∙ same k l e) (λ k no. refl)

-- the places whose turn does not come hold already what they are to hold
pub turn-rest :
    {A : Type 0} {z : A} {turn : ℕ → ℕ} {f : ℕ → A} {n : ℕ} {d dst : List A} {t : ℕ}
    → ByTurn z turn f n d dst t
    → ((k : ℕ) → k < n → t ≤ turn k → get_or d k z ≡ f k)
    → dst ≡ filled f n d
turn-rest {A} {z} {turn} {f} {n} {d} {dst} {t} p same = turn-ends all (λ k l. omega arith)
  where
    all : ByTurn z (λ (k : ℕ). 0) f n d dst 1
    all =
        record {
          room = p.room;
          long = p.long;
          done = λ k l r. ⊎_elim
              (λ e. let q : t ≤ turn k = omega arith in p.kept k l q ∙ same k l q)
              (λ e. p.done k l (omega arith))
              (eq-zero-or-pos (t - turn k));
          kept = λ k l r. absurd (omega arith);
          past = p.past;
        }

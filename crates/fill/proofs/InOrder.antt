-- A loop that writes a buffer from the front, in order: what holds before each store.
use Rattle.std.specs.Prelude.{◌≡◌, refl, List, ℕ, ◌+◌, ◌≤◌, ◌<◌, length, set, get_or}
use Rattle.std.proofs.Common.{ap, ◌∙◌, subst, le_antisymm, arith, length-set}
use Rattle.fill.specs.Tab.{tab, filled}
use Rattle.fill.proofs.TabLaws.{fill_none, fill_more, all-filled, get_d_past}

-- what a loop that fills d up to n has at k: dst is d filled up to k
pub record Filling {A : Type 0} (f : ℕ → A) (n : ℕ) (d dst : List A) (k : ℕ) : Type 0 where
  pub room : n ≤ length d
  pub below : k ≤ n
  pub long : length dst ≡ length d
  pub is : dst ≡ filled f k d

module _ {A : Type 0} {f : ℕ → A} {n : ℕ} {d : List A} where
  pub starts : n ≤ length d → Filling f n d d 0
  starts h = record { room = h; below = omega arith; long = refl; is = fill_none f d }

  -- one store
  pub more : {dst : List A} {k : ℕ} {v : A} → Filling f n d dst k → k < n → v ≡ f k → Filling f n d (set dst k v) (k + 1)
  more {dst} {k} {v} p h e =
      record {
        room = p.room;
        below = omega arith;
        long = length-set dst k v ∙ p.long;
        is = ap (λ (x : A). set dst k x) e ∙ (ap (λ (l : List A). set l k (f k)) p.is ∙ fill_more f k d v (omega (arith, p.room)));
      }

  -- the same where the index is written otherwise
  pub moved : {dst : List A} {k j : ℕ} → Filling f n d dst k → k ≡ j → Filling f n d dst j
  moved {dst} p e = subst (λ (i : ℕ). Filling f n d dst i) e p

  pub ends : {dst : List A} {k : ℕ} → Filling f n d dst k → n ≤ k → dst ≡ filled f n d
  ends {dst} {k} p h = p.is ∙ ap (λ (j : ℕ). filled f j d) (le_antisymm p.below h)

pub ends-all : {A : Type 0} {f : ℕ → A} {n : ℕ} {d dst : List A} {k : ℕ} → Filling f n d dst k → n ≤ k → length d ≡ n → dst ≡ tab f n
ends-all {A} {f} {n} {d} p h e = ends p h ∙ all-filled f n d e

-- what is not filled yet is as it was, for a loop that reads the buffer that it writes
pub unfilled : {A : Type 0} {f : ℕ → A} {n : ℕ} {d dst : List A} {k : ℕ} (z : A) (j : ℕ) → Filling f n d dst k → k ≤ j → get_or dst j z ≡ get_or d j z
unfilled {A} {f} {n} {d} {dst} {k} z j p h = ap (λ (l : List A). get_or l j z) p.is ∙ get_d_past z f k j d h

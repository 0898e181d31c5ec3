-- A loop that writes each place of a buffer once, in any order: `turn k` says at which turn the place k is written.
use Rattle.std.specs.Prelude.{◌≡◌, refl, List, ℕ, ◌+◌, ◌-◌, ◌≤◌, ◌<◌, length, set, get_or}
use Rattle.std.proofs.Common.{sym, ap, ◌∙◌, subst, ⊎_elim, eq-or-lt_of_le, eq-zero-or-pos, arith, length-set, get_or-set_same, get_or-set_other, ext_get_or}
use Rattle.fill.specs.Tab.{filled}
use Rattle.fill.proofs.TabLaws.{length-filled, get_or-filled, get_d_past}

-- before turn t, of a loop that writes the first n places of d: those whose turn has been are f's, the others are d's
pub record ByTurn {A : Type 0} (z : A) (turn : ℕ → ℕ) (f : ℕ → A) (n : ℕ) (d dst : List A) (t : ℕ) : Type 0 where
  pub room : n ≤ length d
  pub long : length dst ≡ length d
  pub done : (k : ℕ) → k < n → turn k < t → get_or dst k z ≡ f k
  pub kept : (k : ℕ) → k < n → t ≤ turn k → get_or dst k z ≡ get_or d k z
  pub past : (k : ℕ) → n ≤ k → get_or dst k z ≡ get_or d k z

module _ {A : Type 0} {z : A} {turn : ℕ → ℕ} {f : ℕ → A} {n : ℕ} {d : List A} where
  pub turn-starts : n ≤ length d → ByTurn z turn f n d d 0
  turn-starts h = record { room = h; long = refl; done = λ k l r. absurd (omega arith); kept = λ k l r. refl; past = λ k l. refl }

  -- one store, at the place j whose turn it is
  pub turn_more : {dst : List A} {t : ℕ} (j : ℕ) {v : A} → ByTurn z turn f n d dst t → j < n → turn j ≡ t → ((k : ℕ) → k < n → turn k ≡ t → k ≡ j) → v ≡ f j → ByTurn z turn f n d (set dst j v) (t + 1)
  turn_more {dst} {t} j {v} p h at one e =
      record {
        room = p.room;
        long = length-set dst j v ∙ p.long;
        done = λ k l r. let q : turn k ≤ t = omega arith in ⊎_elim
            (λ eq. let same = one k l eq in ap (λ (m : ℕ). get_or (set dst j v) m z) same ∙ (get_or-set_same dst j v z (omega (arith, p.room, p.long)) ∙ (e ∙ ap f (sym same))))
            (λ lt. get_or-set_other dst j k v z (λ same. let bad : turn k ≡ t = ap turn same ∙ at in absurd (omega arith)) ∙ p.done k l lt)
            (eq-or-lt_of_le q);
        kept = λ k l r. get_or-set_other dst j k v z (λ same. let bad : turn k ≡ t = ap turn same ∙ at in absurd (omega arith)) ∙ p.kept k l (omega arith);
        past = λ k l. get_or-set_other dst j k v z (λ same. absurd (omega arith)) ∙ p.past k l;
      }

  pub turn_moved : {dst : List A} {t u : ℕ} → ByTurn z turn f n d dst t → t ≡ u → ByTurn z turn f n d dst u
  turn_moved {dst} p e = subst (λ (i : ℕ). ByTurn z turn f n d dst i) e p

  pub turn-ends : {dst : List A} {t : ℕ} → ByTurn z turn f n d dst t → ((k : ℕ) → k < n → turn k < t) → dst ≡ filled f n d
  turn-ends {dst} {t} p all =
      ext_get_or z dst (filled f n d) (p.long ∙ sym (length-filled f n d p.room)) (λ k h. ⊎_elim
      (λ e. let l : n ≤ k = omega arith in p.past k l ∙ sym (get_d_past z f n k d l))
      (λ e. let l : k < n = omega arith in p.done k l (all k l) ∙ sym (get_or-filled z f n k d l))
      (eq-zero-or-pos (n - k)))

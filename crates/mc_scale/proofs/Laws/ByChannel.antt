-- The loop over the places, taken channel by channel, on a buffer of +0.
use Rattle.std.specs.Prelude.{◌≡◌, List, ℕ, ◌+◌, ◌≤◌, ◌<◌, Float, get_or, length}
use Rattle.std.proofs.Common.{◌∙◌, eq-eqb, ne_eqb}
use native.Mathlib.Omega.{arith}
use Rattle.std.specs.Float.{nan}
use Rattle.fill.specs.Tab.{tab}
use Rattle.fill.proofs.TabLaws.{get_or-tab, all-filled}
use Rattle.fill.proofs.ByTurn.{ByTurn, turn-ends}
use Rattle.fill.proofs.StridedLaws.{strided-same}
use Rattle.floats.specs.Binary64.{zero64}
use Rattle.mc_scale.specs.Code.Column.{column_at, place_of, slot_of, place_at, turn_of}
use Rattle.mc_scale.specs.Code.ScaleByPlace.{scaled_from, place_scaled, scaled_by_place}
use Rattle.mc_scale.specs.Code.Strided.{column}
use Rattle.mc_scale.proofs.Laws.Column.{turn-column, skip-column}

module _ (steps source base : List ℕ) (factors raw left right : List Float) where
  abbrev pub Scaling : List Float → List Float → ℕ → Type 0
  Scaling d work i = ByTurn nan turn_of (λ (k : ℕ). place_scaled steps source base factors raw left right (place_of k) (slot_of k)) 3456 d work i

  module _ (d work work' : List Float) (i : ℕ) (p : Scaling d work i) where
    pub scaling-more :
        i < 96
        → (get_or steps (place_at i) 0 ≡ 0 → ⊥)
        → (written : List Float)
        → written ≡ column (scaled_from (get_or source (place_at i) 0) (get_or base (place_at i) 0) factors raw left right (place_at i)) (column_at (place_at i)) work
        → work' ≡ written
        → Scaling d work' (i + 1)
    scaling-more h n written e e' =
        rw (e', e, strided-same {f = scaled_from (get_or source (place_at i) 0) (get_or base (place_at i) 0) factors raw left right (place_at i)} {g = place_scaled steps source base factors raw left right (place_at i)} 32 (column_at (place_at i)) work 36 (λ j l. rw (ne_eqb (get_or steps (place_at i) 0) 0 n)))
        (turn-column (place_scaled steps source base factors raw left right) p h)

    pub scaling-skip : get_or steps (place_at i) 0 ≡ 0 → (n : ℕ) → n ≡ 3456 → d ≡ tab (λ (k : ℕ). zero64) n → work' ≡ work → Scaling d work' (i + 1)
    scaling-skip z n en e e' =
        rw e'
        (skip-column (place_scaled steps source base factors raw left right) p
        (λ k l. rw (e, en, eq-eqb (get_or steps (place_at i) 0) 0 z) (get_or-tab nan (λ (k : ℕ). zero64) 3456 k l)))

  pub scaling-ends : (d work : List Float) (i : ℕ) → Scaling d work i → 96 ≤ i → length d ≡ 3456 → work ≡ scaled_by_place steps source base factors raw left right
  unfolding scaled_by_place
  scaling-ends d work i p h e =
      turn-ends p (λ k l. omega arith) ∙ all-filled (λ (k : ℕ). place_scaled steps source base factors raw left right (place_of k) (slot_of k)) 3456 d e

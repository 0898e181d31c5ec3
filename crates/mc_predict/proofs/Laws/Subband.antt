-- One subband predicted channel by channel: what a loop over the predicted channels has done at each.
use Rattle.std.specs.Prelude.{◌≡◌, Bool, List, ℕ, ◌+◌, ◌*◌, ◌/◌, ◌%◌, ◌≤◌, ◌<◌, eqb, Float}
use Rattle.std.proofs.Math.Path.{refl}
use Rattle.std.proofs.Common.{sym, ap, ◌∙◌, arith, le_of_eq, eq-eqb, eqb-true, lt-ltb, le-ltb}
use Rattle.std.proofs.Math.Bool.{true, false, cond}
use Rattle.std.specs.Float.Ieee.{nan}
use Rattle.std.proofs.Math.ListN.{length, get_or}
use Rattle.floats.specs.Binary64.{◌⊕◌}
use Rattle.fill.proofs.TabLaws.{all-filled}
use Rattle.fill.proofs.ByTurn.{ByTurn}
use Rattle.mc_predict.specs.Predict.{place_in}
use Rattle.mc_scale.specs.Code.Column.{slot_of}
use Rattle.mc_scale.proofs.Laws.Column.{at-subband, at-channel}
use Rattle.mc_scale.specs.Code.Strided.{column}
use Rattle.fill.proofs.StridedLaws.{length-strided, get_or-strided, strided-other}
use Rattle.mc_predict.proofs.Laws.PlaceIn.{place_found}
use Rattle.mc_predict.specs.Code.PredictByLine.{sum_by, added_by, subband_at, subband_of}
use Rattle.mc_scale.proofs.Laws.TurnBlock.{turn-block, turn-rest}

-- the turn of the element k: the place of its channel among those predicted; past them outside the subband
abbrev pub turn_in : ℕ → List ℕ → ℕ → ℕ
turn_in sb l k = cond (eqb (k % 32) sb) (place_in l (k / 1152)) (length l)

in-turn : (sb : ℕ) (l : List ℕ) (k t : ℕ) → t < length l → turn_in sb l k ≡ t → (k % 32 ≡ sb) × (place_in l (k / 1152) ≡ t)
in-turn sb l k t h = go (eqb (k % 32) sb) refl
  where
    go : (b : Bool) → eqb (k % 32) sb ≡ b → cond b (place_in l (k / 1152)) (length l) ≡ t → (k % 32 ≡ sb) × (place_in l (k / 1152) ≡ t)
    go true e w = (eqb-true (k % 32) sb e, w)
    go false e w = absurd (omega arith)

at-column : (m sb k : ℕ) → k < 3456 → k / 1152 ≡ m → k % 32 ≡ sb → 1152 * m + sb + 32 * slot_of k ≡ k
at-column m sb k h e f = let g : k / 32 ≡ 36 * (k / 1152) + k / 32 % 36 = omega arith in omega arith

module _ (sb : ℕ) (l delay : List ℕ) (coef : List (List Float)) (left right d : List Float) where
  -- the channel m at place t among those predicted
  pub subband-more :
      {dst : List Float} {t : ℕ} (m : ℕ)
      → ByTurn nan (turn_in sb l) (subband_at sb l delay coef left right d) 3456 d dst t
      → sb < 32
      → t < length l
      → get_or l t 0 ≡ m
      → place_in l m ≡ t
      → m < 3
      → ByTurn nan (turn_in sb l) (subband_at sb l delay coef left right d) 3456 d
      (column (λ (j : ℕ). get_or dst (1152 * m + sb + 32 * j) nan ⊕ sum_by delay coef left right (2 * t) j) (1152 * m + sb) dst)
      (t + 1)
  subband-more {dst} {t} m p small h at once low =
      turn-block p (length-strided 32 v (1152 * m + sb) dst 36) here
      (λ k n. strided-other 32 v (1152 * m + sb) dst nan 36 k (λ j s w. n (let b = bound j s in omega arith) (there k j s w)))
    where
      v : ℕ → Float
      v j = get_or dst (1152 * m + sb + 32 * j) nan ⊕ sum_by delay coef left right (2 * t) j

      bound : (j : ℕ) → j < 36 → 1152 * m + sb + 32 * j < 3456
      bound j s = omega arith

      there : (k j : ℕ) → j < 36 → k ≡ 1152 * m + sb + 32 * j → turn_in sb l k ≡ t
      there k j s w =
          let sub : k % 32 ≡ sb = ap (λ (i : ℕ). i % 32) w ∙ at-subband m sb j small in
          let chan : k / 1152 ≡ m = ap (λ (i : ℕ). i / 1152) w ∙ at-channel m sb j small s in
          rw (eq-eqb (k % 32) sb sub, chan) once

      here : (k : ℕ) → k < 3456 → turn_in sb l k ≡ t → get_or (column v (1152 * m + sb) dst) k nan ≡ subband_at sb l delay coef left right d k
      here k s w =
          let i = in-turn sb l k t h w in
          let chan : k / 1152 ≡ m = sym (rw i.1 at (place_found l (k / 1152) (rw i.1 h))) ∙ at in
          let own : 1152 * m + sb + 32 * slot_of k ≡ k = at-column m sb k s chan i.0 in
          let q : slot_of k < 36 = omega arith in
          let was : get_or dst k nan ≡ get_or d k nan = p.kept k s (le_of_eq (sym w)) in
          ap (λ (x : ℕ). get_or (column v (1152 * m + sb) dst) x nan) (sym own)
          ∙ (get_or-strided 32 v (1152 * m + sb) dst nan 36 (slot_of k) (omega arith) q (omega (arith, p.room, p.long))
          ∙ rw (own, was, eq-eqb (k % 32) sb i.0, i.1, lt-ltb t (length l) h))

  -- after the last one
  pub subband-ends :
      {dst : List Float} {t : ℕ}
      → ByTurn nan (turn_in sb l) (subband_at sb l delay coef left right d) 3456 d dst t
      → length l ≤ t
      → length d ≡ 3456
      → dst ≡ subband_of sb l delay coef left right d
  unfolding subband_of
  subband-ends {dst} {t} p h long = turn-rest p (λ k s r. same k (eqb (k % 32) sb) (omega arith)) ∙ all-filled _ 3456 d long
    where
      same :
          (k : ℕ) (b : Bool)
          → length l ≤ cond b (place_in l (k / 1152)) (length l)
          → get_or d k nan ≡ cond b (added_by l delay coef left right (k / 1152) (slot_of k) (get_or d k nan)) (get_or d k nan)
      same k true r = rw (le-ltb _ _ r)
      same k false r = refl

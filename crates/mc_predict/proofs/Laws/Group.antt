-- Prediction group by group: what a loop over the groups has done at each.
use Rattle.std.specs.Prelude.{◌≡◌, refl, Bool, true, false, ◌&&◌, cond, List, [], ℕ, ◌+◌, ◌-◌, ◌/◌, ◌%◌, ◌≤◌, ◌<◌, ltb, Float, length}
use Rattle.std.proofs.Common.{sym, ◌∙◌, ⊎_elim, le_of_eq, eq-zero-or-pos, arith, eq-eqb, ne_eqb, lt-ltb, le-ltb}
use Rattle.std.specs.Float.Ieee.{nan}
use Rattle.std.proofs.Math.ListN.{get_or, get_or-eq_default}
use Rattle.fill.proofs.TabLaws.{length-tab, get_or-tab, all-filled}
use Rattle.fill.proofs.ByTurn.{ByTurn}
use Rattle.mc_crosstalk.specs.Crosstalk.{predicted_of}
use Rattle.mc_fields.specs.Head.{mode_at, flag_at}
use Rattle.mc_predict.specs.Predict.{place_in}
use Rattle.mc_scale.specs.Code.Column.{slot_of}
use Rattle.mc_predict.specs.Code.PredictByLine.{line_of, added_by, subband_at, subband_of, groups_at, groups_of}
use Rattle.mc_scale.proofs.Laws.TurnBlock.{turn-block, turn-rest}

-- with no predicted channel nothing is added
none-added : (delay : List ℕ) (coef : List (List Float)) (left right : List Float) (m slot : ℕ) (x : Float) → added_by [] delay coef left right m slot x ≡ x
unfolding place_in
none-added delay coef left right m slot x = refl

module _ (sb : ℕ) (l delay : List ℕ) (coef : List (List Float)) (left right work : List Float) where
  pub length-subband : length (subband_of sb l delay coef left right work) ≡ 3456
  unfolding subband_of
  length-subband = length-tab (subband_at sb l delay coef left right work) 3456

  get_or-subband : (k : ℕ) → k < 3456 → get_or (subband_of sb l delay coef left right work) k nan ≡ subband_at sb l delay coef left right work k
  unfolding subband_of
  get_or-subband k h = get_or-tab nan (subband_at sb l delay coef left right work) 3456 k h

  -- outside the subband nothing changes
  subband-other : length work ≡ 3456 → (k : ℕ) → (k < 3456 → k % 32 ≡ sb → ⊥) → get_or (subband_of sb l delay coef left right work) k nan ≡ get_or work k nan
  subband-other long k n =
      ⊎_elim
      (λ e. let q : 3456 ≤ k = omega arith in get_or-eq_default (subband_of sb l delay coef left right work) nan {n = k} (rw length-subband q) ∙ sym (get_or-eq_default work nan {n = k} (rw long q)))
      (λ e. let q : k < 3456 = omega arith in get_or-subband k q ∙ rw (ne_eqb (k % 32) sb (n q)))
      (eq-zero-or-pos (3456 - k))

module _
    (pair : ℕ) (flags modes : List ℕ) (delay : List (List ℕ)) (coef : List (List (List Float))) (left right history d : List Float)
  where
    abbrev pub Groups : List Float → ℕ → Type 0
    Groups dst t = ByTurn nan (λ (k : ℕ). k % 32) (groups_at pair flags modes delay coef left right history d) 3456 d dst t

    -- a group whose flag is set
    pub group-predicted :
        {dst : List Float} {t : ℕ}
        → Groups dst t
        → t < 8
        → length d ≡ 3456
        → flag_at flags t ≡ 1
        → Groups (subband_of t (predicted_of pair (mode_at modes t)) (get_or delay t []) (get_or coef t []) (line_of history left 0 t) (line_of history right 1 t) dst) (t + 1)
    group-predicted {dst} {t} p h long flag =
        turn-block p (length-subband t l dl cf lf rt dst ∙ sym (p.long ∙ long)) here (subband-other t l dl cf lf rt dst (p.long ∙ long))
      where
        l : List ℕ
        l = predicted_of pair (mode_at modes t)

        dl : List ℕ
        dl = get_or delay t []

        cf : List (List Float)
        cf = get_or coef t []

        lf : List Float
        lf = line_of history left 0 t

        rt : List Float
        rt = line_of history right 1 t

        here : (k : ℕ) → k < 3456 → k % 32 ≡ t → get_or (subband_of t l dl cf lf rt dst) k nan ≡ groups_at pair flags modes delay coef left right history d k
        here k s w =
            get_or-subband t l dl cf lf rt dst k s ∙ rw (w, eq-eqb t t refl, p.kept k s (le_of_eq (sym w)), lt-ltb t 8 h, flag)

    -- one whose flag is not set
    pub group-passed : {dst : List Float} {t : ℕ} → Groups dst t → (flag_at flags t ≡ 1 → ⊥) → Groups dst (t + 1)
    group-passed {dst} {t} p flag = turn-block p refl here (λ k n. refl)
      where
        none : (b : Bool) (x : List ℕ) → cond (b && false) x [] ≡ []
        none true x = refl
        none false x = refl

        here : (k : ℕ) → k < 3456 → k % 32 ≡ t → get_or dst k nan ≡ groups_at pair flags modes delay coef left right history d k
        here k s w =
            p.kept k s (le_of_eq (sym w))
            ∙ rw (w, ne_eqb (flag_at flags t) 1 flag, none (ltb t 8) (predicted_of pair (mode_at modes t)))
            (sym (none-added (get_or delay t []) (get_or coef t []) (line_of history left 0 t) (line_of history right 1 t) (k / 1152) (slot_of k) (get_or d k nan)))

    -- after the last group the other subbands are as they were
    pub groups-end : {dst : List Float} {t : ℕ} → Groups dst t → 8 ≤ t → length d ≡ 3456 → dst ≡ groups_of pair flags modes delay coef left right history d
    unfolding groups_of
    groups-end {dst} {t} p h long = turn-rest p same ∙ all-filled _ 3456 d long
      where
        same : (k : ℕ) → k < 3456 → t ≤ k % 32 → get_or d k nan ≡ groups_at pair flags modes delay coef left right history d k
        same k s r =
            let sb = k % 32 in
            rw (le-ltb sb 8 (omega arith))
            (sym (none-added (get_or delay sb []) (get_or coef sb []) (line_of history left 0 sb) (line_of history right 1 sb) (k / 1152) (slot_of k) (get_or d k nan)))

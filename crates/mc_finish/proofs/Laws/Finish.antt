-- What is asked of the tables holds for those of any settings, and what takes no part in finishing does not matter.
use Rattle.std.specs.Prelude.{◌≡◌, refl, Bool, true, false, ◌&&◌, cond, List, [], ℕ, ◌+◌, ◌/◌, ◌%◌, ◌≤◌, ◌<◌, eqb, ltb, Float, length, get_or}
use Rattle.std.proofs.Common.{◌∙◌, arith}
use Rattle.mc_config.proofs.ConfigLaws.{main-most}
use Rattle.mc_config.specs.Config.{main_of}
use Rattle.mc_config.specs.Groups.{sbgr_of}
use Rattle.mc_crosstalk.specs.Crosstalk.{T, source_of}
use Rattle.mc_crosstalk.proofs.CrosstalkLaws.{source-below}
use Rattle.mc_fields.specs.Head.{mode_at, second_at}
use Rattle.mc_payload.specs.declared.McSettings.{McSettings}
use Rattle.mc_payload.specs.Places.{pair, source_at, sources_of, bases_of}
use Rattle.mc_payload.specs.Record.{Record}
use Rattle.mc_base.specs.Base.{Base, chosen, base_from}
use Rattle.mc_scale.specs.Scale.{scaled_at, scaled_of}
use Rattle.mc_predict.specs.Predict.{with_term, sum_of, work_at}
use Rattle.mc_output.specs.Output.{work_of, output_at, output_of}
use Rattle.mc_predict.proofs.Laws.Chosen.{crossed-long}
use Rattle.mc_scale.proofs.Laws.ScaleByPlace.{source-at, base-at, scaled-by-place}
use Rattle.mc_scale.specs.Code.ScaleByPlace.{factors_of, scaled_by_place}
use Rattle.mc_predict.specs.Code.PredictByLine.{predicted_work}
use Rattle.mc_finish.proofs.Laws.PredictByLine.{work-predicted}
use Rattle.mc_finish.specs.Finish.{record_from, Tables, BaseFits}

-- a source is an earlier channel, T or B
source-small : (s : McSettings) (m sb : ℕ) → source_at s m sb ≤ 4
unfolding source_at
source-small s m sb = go (ltb m main) (eqb m (main + 1) && eqb (second_at cross (sbgr_of sb)) 1)
  where
    main : ℕ
    main = main_of (pair s)

    cross : List ℕ
    cross = s.status.dyn_cross

    go : (a b : Bool) → cond a (source_of (pair s) (mode_at cross (sbgr_of sb)) m) (cond b main T) ≤ 4
    go true b = omega (arith, source-below (pair s) (mode_at cross (sbgr_of sb)) m)
    go false true = omega (arith, main-most (pair s))
    go false false = omega arith

pub sources-small : (s : McSettings) (i : ℕ) → i < 96 → get_or (sources_of s) i 0 ≤ 4
sources-small s i h = rw (source-at s i h) (source-small s (i % 3) (i / 3))

pub bases-long : (s : McSettings) (b : Base) → BaseFits s b → (i : ℕ) → i < 96 → length (chosen (get_or (bases_of s) i 0) b.raw_left b.raw_right) ≡ 1152
bases-long s b fits i h = rw (base-at s i h) (crossed-long s (i % 3) (i / 3) b.raw_left b.raw_right fits.raw_left_long fits.raw_right_long)

-- ---- what takes no part

-- what dematrixing and the history take of a base
abbrev pub scaled_base : List Float → List Float → Base
scaled_base left right = record { raw_left = []; raw_right = []; scaled_left = left; scaled_right = right }

pub output-scaled : (s : McSettings) (b : Base) (work : List Float) {output : List Float} → output ≡ output_of s (scaled_base b.scaled_left b.scaled_right) work → output ≡ output_of s b work
unfolding output_of output_at
output-scaled s b work e = e

pub work-record : (s : McSettings) (r : Record) (b : Base) (history : List Float) → work_of s (record_from r.raw r.scalefactor r.delay r.coef) b history ≡ work_of s r b history
unfolding work_of work_at sum_of with_term scaled_at
work-record s r b history = refl

pub base-whole : (b : Base) → base_from b.raw_left b.raw_right b.scaled_left b.scaled_right ≡ b
base-whole b = refl

-- ---- scaling, then prediction

pub work-finished :
    (s : McSettings) (r : Record) (b : Base) (history : List Float) {steps source base : List ℕ} {scaled work : List Float}
    → Tables s steps source base
    → scaled ≡ scaled_by_place steps source base (factors_of r.scalefactor) r.raw b.raw_left b.raw_right
    → work ≡ predicted_work s r.delay r.coef b.scaled_left b.scaled_right history scaled
    → work ≡ work_of s r b history
work-finished s r b history {scaled = scaled} t e w =
    let are : scaled ≡ scaled_of s r b = rw (t.steps_are, t.source_are, t.base_are) at e ∙ scaled-by-place s r b in
    rw are at w ∙ work-predicted s r b history

-- The lines of the base channels give the predictions of the definition.
use Rattle.std.specs.Prelude.{◌≡◌, List, [], ℕ, ◌+◌, ◌-◌, ◌*◌, ◌/◌, ◌%◌, ◌<◌, Float, get_or}
use Rattle.std.proofs.Math.Nat.{add-zero, sub-zero}
use native.Mathlib.Omega.{arith}
use Rattle.std.specs.Float.Ieee.{nan}
use Rattle.fill.proofs.TabLaws.{get_or-tab, tab-same}
use Rattle.mc_payload.specs.declared.McSettings.{McSettings}
use Rattle.mc_payload.specs.Record.{Record}
use Rattle.mc_predict.proofs.Laws.Chosen.{first-base}
use Rattle.mc_base.specs.Base.{Base, chosen}
use Rattle.mc_scale.specs.Scale.{scaled_at, scaled_of}
use Rattle.mc_predict.specs.Predict.{base_for, coef_at, delay_at, with_term, sum_of, place_in, predicted_in, work_at}
use Rattle.mc_output.specs.Output.{work_of}
use Rattle.mc_predict.specs.Code.PredictByLine.{line_at, line_of, term_of, terms_of, sum_by, groups_of, predicted_work}

line-value : (history base : List Float) (ch sb t : ℕ) → t < 45 → get_or (line_of history base ch sb) t nan ≡ line_at history base ch sb t
unfolding line_of
line-value history base ch sb t h = get_or-tab nan (line_at history base ch sb) 45 t h

module _ (s : McSettings) (r : Record) (b : Base) (history : List Float) where
  -- the line of base channel ch in subband sb
  line : ℕ → ℕ → List Float
  line ch sb = line_of history (chosen (base_for s ch) b.scaled_left b.scaled_right) ch sb

  -- coefficient j of the predictor of base channel ch
  term-line :
      (px sb slot ch j : ℕ)
      → j < 3
      → slot < 36
      → (sum : Float)
      → with_term s r b history px sb slot (3 * ch + j) sum ≡ term_of sum (coef_at r sb (px + ch) j) (get_or (line ch sb) (9 + slot - delay_at r sb (px + ch) - j) nan)
  unfolding with_term line
  term-line px sb slot ch j h l sum =
      let e : (3 * ch + j) / 3 ≡ ch = omega arith in
      let f : (3 * ch + j) % 3 ≡ j = omega arith in
      rw (e, f, line-value history (chosen (base_for s ch) b.scaled_left b.scaled_right) ch sb (9 + slot - delay_at r sb (px + ch) - j) (omega arith))

  sum-lines :
      (px sb slot : ℕ)
      → slot < 36
      → sum_of s r b history px sb slot 6 ≡ sum_by (get_or r.delay sb []) (get_or r.coef sb []) (line_of history b.scaled_left 0 sb) (line 1 sb) px slot
  unfolding sum_of terms_of line
  sum-lines px sb slot l =
      rw (
        term-line px sb slot 0 0 (omega arith) l,
        term-line px sb slot 0 1 (omega arith) l,
        term-line px sb slot 0 2 (omega arith) l,
        term-line px sb slot 1 0 (omega arith) l,
        term-line px sb slot 1 1 (omega arith) l,
        term-line px sb slot 1 2 (omega arith) l,
        add-zero px,
        first-base s b.scaled_left b.scaled_right,
        sub-zero (9 + slot - delay_at r sb px),
        sub-zero (9 + slot - delay_at r sb (px + 1)),
      )

  scaled_value : (k : ℕ) → k < 3456 → get_or (scaled_of s r b) k nan ≡ scaled_at s r b (k / 1152) (k / 32 % 36) (k % 32)
  unfolding scaled_of
  scaled_value k h = get_or-tab nan (λ (i : ℕ). scaled_at s r b (i / 1152) (i / 32 % 36) (i % 32)) 3456 k h

  -- predicting the scaled values gives work
  pub work-predicted : predicted_work s r.delay r.coef b.scaled_left b.scaled_right history (scaled_of s r b) ≡ work_of s r b history
  unfolding groups_of work_of work_at line
  work-predicted =
      tab-same 3456 (λ k h.
      rw (scaled_value k h, sum-lines (2 * place_in (predicted_in s (k % 32)) (k / 1152)) (k % 32) (k / 32 % 36) (omega arith)))

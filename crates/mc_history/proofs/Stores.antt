-- A line of nine of the history, stored one value a turn.
use Rattle.std.specs.Prelude.{◌≡◌, List, ℕ, ◌+◌, ◌*◌, ◌/◌, ◌%◌, ◌<◌, Float, get_or}
use Rattle.std.proofs.Common.{sym, ap, ◌∙◌, arith}
use Rattle.std.specs.Float.{nan}
use Rattle.fill.specs.Strided.{strided}
use Rattle.fill.proofs.ByTurn.{ByTurn}
use Rattle.fill.proofs.StridedLaws.{length-strided, get_or-strided, strided-other}
use Rattle.mc_base.specs.Base.{chosen}
use Rattle.mc_history.specs.HistoryBy.{line_by, history_by}
use Rattle.mc_scale.proofs.Laws.TurnBlock.{turn-block}

pub turn-line :
    (left right : List Float) {d dst : List Float} {t : ℕ}
    → ByTurn nan (λ (k : ℕ). k / 9) (history_by left right) 576 d dst t
    → t < 64
    → ByTurn nan (λ (k : ℕ). k / 9) (history_by left right) 576 d (strided 1 (line_by (chosen (t / 32) left right) (t % 32)) (9 * t) 9 dst) (t + 1)
turn-line left right {d} {dst} {t} p h =
    turn-block p (length-strided 1 v (9 * t) dst 9) here
    (λ k n. strided-other 1 v (9 * t) dst nan 9 k (λ i s w. n (omega arith) (omega arith)))
  where
    v : ℕ → Float
    v = line_by (chosen (t / 32) left right) (t % 32)

    here : (k : ℕ) → k < 576 → k / 9 ≡ t → get_or (strided 1 v (9 * t) 9 dst) k nan ≡ history_by left right k
    here k l s =
        let w : 9 * t + 1 * (k % 9) ≡ k = omega arith in
        let q : k % 9 < 9 = omega arith in
        let c : t / 32 ≡ k / 288 = omega arith in
        let b : t % 32 ≡ k % 288 / 9 = omega arith in
        ap (λ (i : ℕ). get_or (strided 1 v (9 * t) 9 dst) i nan) (sym w)
        ∙ (get_or-strided 1 v (9 * t) dst nan 9 (k % 9) (omega arith) q (omega (arith, p.room, p.long)) ∙ rw (c, b))

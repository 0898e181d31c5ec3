-- The history that the code keeps is that of the definition.
use Rattle.std.specs.Prelude.{◌≡◌, List, ℕ, ◌+◌, ◌-◌, ◌*◌, ◌/◌, ◌%◌, ◌≤◌, ◌<◌, eqb, Float, length, get_or}
use Rattle.std.proofs.Common.{◌∙◌, arith, eq-eqb, ne_eqb}
use borrow.Rule.Slice.PartMut.{put_mid}
use Rattle.std.specs.Float.{nan}
use Rattle.fill.specs.Tab.{tab}
use Rattle.fill.proofs.TabLaws.{length-tab, get_or-tab, all-filled, tab-same}
use Rattle.fill.proofs.ByTurn.{ByTurn, turn-ends}
use Rattle.mc_config.proofs.CaseLaws.{cond-all}
use Rattle.mc_payload.specs.declared.McSettings.{McSettings}
use Rattle.mc_base.specs.Base.{Base, chosen}
use Rattle.mc_predict.specs.Predict.{base_for}
use Rattle.mc_history.specs.History.{history_at, history_of}
use Rattle.mc_history.specs.HistoryBy.{line_by, history_by}
use Rattle.mc_predict.proofs.Laws.Chosen.{chosen-base}
use Rattle.fill.proofs.Part.{length-part, part-in, part-out}
use Rattle.mc_scale.proofs.Laws.TurnBlock.{turn-block}

-- both base channels are of one length, and so is the one that is chosen
pub line-long : (ch : ℕ) (left right base : List Float) → length left ≡ 1152 → length right ≡ 1152 → base ≡ chosen ch left right → length base ≡ 1152
line-long ch left right base l r e = rw e (cond-all (λ (x : List Float). length x ≡ 1152) (eqb ch 0) l r)

-- the channel of a line
pub first-line : (left right : List Float) (t : ℕ) → t < 32 → left ≡ chosen (t / 32) left right
first-line left right t h = rw (eq-eqb (t / 32) 0 (omega arith))

pub second-line : (left right : List Float) (t : ℕ) → 32 ≤ t → right ≡ chosen (t / 32) left right
second-line left right t h = rw (ne_eqb (t / 32) 0 (λ e. omega arith))

-- a line of nine
pub turn-line :
    (left right : List Float) {d dst : List Float} {t : ℕ} {channel line : List Float} {n : ℕ}
    → ByTurn nan (λ (k : ℕ). k / 9) (history_by left right) 576 d dst t
    → t < 64
    → channel ≡ chosen (t / 32) left right
    → line ≡ tab (line_by channel (t % 32)) 9
    → n ≡ 9
    → ByTurn nan (λ (k : ℕ). k / 9) (history_by left right) 576 d (put_mid (9 * t) n dst line) (t + 1)
turn-line left right {d} {dst} {t} {channel} {line} {n} p h ec el en =
    rw en
    (turn-block p (length-part nan (9 * t) 9 dst line long room) here
    (λ k outside. part-out nan (9 * t) 9 dst line long room k (λ l s. outside (omega arith) (omega arith))))
  where
    long : length line ≡ 9
    long = rw el (length-tab (line_by channel (t % 32)) 9)

    room : 9 * t + 9 ≤ length dst
    room = omega (arith, p.room, p.long)

    here : (k : ℕ) → k < 576 → k / 9 ≡ t → get_or (put_mid (9 * t) 9 dst line) k nan ≡ history_by left right k
    here k l s =
        let j : k - 9 * t ≡ k % 9 = omega arith in
        let c : t / 32 ≡ k / 288 = omega arith in
        let b : t % 32 ≡ k % 288 / 9 = omega arith in
        part-in nan (9 * t) 9 dst line long room k (omega arith) (omega arith)
        ∙ rw (j, el, get_or-tab nan (line_by channel (t % 32)) 9 (k % 9) (omega arith), ec, c, b)

pub lines_end :
    (left right d dst : List Float) (t : ℕ)
    → ByTurn nan (λ (k : ℕ). k / 9) (history_by left right) 576 d dst t
    → 64 ≤ t
    → length d ≡ 576
    → dst ≡ tab (history_by left right) 576
lines_end left right d dst t p h e = turn-ends p (λ k l. omega arith) ∙ all-filled (history_by left right) 576 d e

history-by : (s : McSettings) (b : Base) → tab (history_by b.scaled_left (chosen (base_for s 1) b.scaled_left b.scaled_right)) 576 ≡ history_of s b
unfolding history_of history_at
history-by s b = tab-same 576 (λ i h. rw (chosen-base s (i / 288) b.scaled_left b.scaled_right (omega arith)))

-- the history
pub history-kept :
    (s : McSettings) (b : Base) {first second history : List Float}
    → first ≡ b.scaled_left
    → second ≡ chosen (base_for s 1) b.scaled_left b.scaled_right
    → history ≡ tab (history_by first second) 576
    → history ≡ history_of s b
history-kept s b ef es e = rw (ef, es) at e ∙ history-by s b

-- `mc_status::status::read_prediction` meets its contract.
use Rattle.std.proofs.Common.{ℕ, List, ◌≡◌, ◌-◌, ◌+◌, ◌*◌, length}
use borrow.Rule.Slice.PartMut.{put_mid, mid_of}
use Rattle.bits.specs.Syntax.{times}
use Rattle.bit_reader.specs.Reads.{Goes}
use Rattle.mc_crosstalk.specs.Crosstalk.{predictors_of}
use Rattle.mc_fields.specs.Head.{mode_at, predsi_at, prediction_at, prediction}
use Rattle.mc_status.proofs.status.read_prediction.Given as goal

-- of any table that holds the part as it was
abbrev pub invariant-loop-count : goal.invariant-loop-count
invariant-loop-count l =
    let at = 7 * l.g + 1 in
    (d : List ℕ) → length d ≡ 56 → mid_of at l.n d ≡ l.initial.count-items
    → Goes l.initial.reader (times l.n 0 (predsi_at l.g) d) l.reader (times (l.n - l.count-index) l.count-index (predsi_at l.g) (put_mid at l.n d l.count-items))

abbrev pub invariant-loop-g : goal.invariant-loop-g
invariant-loop-g l =
    let predictors : ℕ → ℕ = λ g. predictors_of l.pair (mode_at l.dyn_cross g) in
    Goes l.fn.reader (prediction l.on predictors) l.reader (times (8 - l.g) l.g (prediction_at l.on predictors) l.table)

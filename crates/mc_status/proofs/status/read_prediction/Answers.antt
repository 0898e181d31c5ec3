-- `mc_status::status::read_prediction` meets its contract.
use Rattle.std.proofs.Common.{Bool, ℕ, List, ◌≡◌, ◌+◌, ◌-◌, ◌*◌, ◌≤◌, ◌<◌, length, rules, refl, sym, arith, set}
use native.Mathlib.Nat.{sub-zero}
use Rattle.std.specs.Prelude.{cond, eqb}
use Rattle.bits.specs.Syntax.{Syntax, Refusal, done, refuse, field, times}
use borrow.Rule.Slice.PartMut.{mid_of, put_same, mid_len}
use Rattle.bit_reader.specs.Reads.{Goes}
use Rattle.bit_reader.specs.declared.BitReader.{BitReader}
use Rattle.bit_reader.proofs.ReadLaws.{returned, then, goes-on, stops, field-on, field-stops, stays, turn-in, turn-on, turn-stops, turns-over}
use Rattle.mc_crosstalk.specs.Crosstalk.{predictors_of}
use Rattle.mc_fields.specs.Head.{bits_if, mode_at, predsi_at, prediction_at, prediction}
use Rattle.mc_status.proofs.PartLaws.{put-set}
use Rattle.mc_status.proofs.status.read_prediction.Goals as goal

-- group g
group : Bool → ℕ → List ℕ → ℕ → List ℕ → Syntax (List ℕ)
group on pair cross = prediction_at on (λ g. predictors_of pair (mode_at cross g))

-- ---- the turn of group g: its flag was read, and n counts are to follow

module _ (table : List ℕ) (g flag n : ℕ) where
  abbrev flagged : List ℕ
  flagged = set table (7 * g) flag

  record Counts : Type 0 where
    long : length flagged ≡ 56
    cut : 7 * g + 1 + n - (7 * g + 1) ≡ n
    part : length (mid_of (7 * g + 1) (7 * g + 1 + n - (7 * g + 1)) flagged) ≡ n

  counts : length flagged ≡ 56 → 7 * g + 1 + n ≤ 56 → Counts
  counts l h =
      let e : 7 * g + 1 + n - (7 * g + 1) ≡ n = omega arith in
      let m = mid_len (7 * g + 1) (7 * g + 1 + n) flagged (omega arith) in
      record { long = l; cut = e; part = omega arith }

  module _ {s r r' r'' : BitReader} {m : Syntax (List ℕ)} (on : Bool) (pair : ℕ) (cross : List ℕ) (before : Goes s m r (times (8 - g) g (group on pair cross) table)) (low : g < 8)
      (read : Goes r (field (bits_if on 1) (λ u. done u)) r' (done flag)) (many : n ≡ cond (eqb flag 1) (predictors_of pair (mode_at cross g)) 0) where
    counts-stop : {x : Refusal} → Goes r' (times n 0 (predsi_at g) flagged) r'' (refuse x) → Goes s m r'' (refuse x)
    unfolding prediction_at group
    counts-stop h = then before (then (rw (← many) at (turn-in (group on pair cross) {a = table} 8 g low (field-on read stays))) (stops _ h))

    counts-over : {a : List ℕ} → Goes r' (times n 0 (predsi_at g) flagged) r'' (done a) → Goes s m r'' (times (8 - (g + 1)) (g + 1) (group on pair cross) a)
    unfolding prediction_at group
    counts-over h = then before (then (rw (← many) at (turn-in (group on pair cross) {a = table} 8 g low (field-on read stays))) (goes-on _ h stays))

pub loop-g-init : goal.loop-g-init
unfolding prediction
loop-g-init c = stays

pub returns-in_err-flag : goal.returns-in_err-flag
unfolding prediction_at group
returns-in_err-flag c =
    let f = group c.args.on c.args.pair c.args.dyn_cross.now in
    let turn = turn-stops f 8 _ (omega arith) (field-stops (rw c.bits_if.ensures at c.in_err-flag.ensures.reads)) in
    returned _ _ c.from_residual.ensures.1 (then c.loop-g.invariant turn)

pub loop-count-init : goal.loop-count-init
loop-count-init c =
    let n = c.predictors_if-n.result in
    λ d l e. rw (sub-zero, sym e, put_same (7 * c.loop-g.g + 1) n d) stays

pub returns-in_err-count : goal.returns-in_err-count
unfolding predsi_at group
returns-in_err-count c =
    let p = counts c.loop-g.table c.loop-g.g c.in_ok-flag.flag c.predictors_if-n.result (search rules) (omega (arith, c.predictors_if-n.ensures.most)) in
    let h : c.loop-count.count-index < c.predictors_if-n.result = omega (arith, p.part) in
    returned _ _ c.from_residual-in_err-count.ensures.1
    (counts-stop _ _ _ _ c.args.on c.args.pair c.args.dyn_cross.now c.loop-g.invariant (omega (arith, c.loop-g-test.true)) (rw c.bits_if.ensures at c.in_ok-flag.ensures.reads) c.predictors_if-n.ensures.value
    (then (c.loop-count.invariant _ p.long (rw p.cut refl)) (turn-stops (predsi_at c.loop-g.g) _ _ h (field-stops c.in_err-count.ensures.reads))))

pub loop-count-preserved : goal.loop-count-preserved
unfolding predsi_at
loop-count-preserved c =
    λ d l e.
    let n = c.predictors_if-n.result in
    let p = counts c.loop-g.table c.loop-g.g c.in_ok-flag.flag n (search rules) (omega (arith, c.predictors_if-n.ensures.most)) in
    let i = c.loop-count.count-index in
    let h : i < n = omega (arith, p.part) in
    rw (put-set (7 * c.loop-g.g + 1) n d c.loop-count.count-items i c.in_ok-count.field-0 (omega (arith, c.predictors_if-n.ensures.most)) (omega (arith, c.loop-count.auto.count-items))) at
    (then (c.loop-count.invariant d l e) (turn-on (predsi_at c.loop-g.g) n i h (field-on c.in_ok-count.ensures.reads stays) stays))

pub loop-g-preserved : goal.loop-g-preserved
unfolding group
loop-g-preserved c =
    let p = counts c.loop-g.table c.loop-g.g c.in_ok-flag.flag c.predictors_if-n.result (search rules) (omega (arith, c.predictors_if-n.ensures.most)) in
    let h : c.predictors_if-n.result ≤ c.loop-count.count-index = omega (arith, p.part) in
    rw p.cut
    (counts-over _ _ _ _ c.args.on c.args.pair c.args.dyn_cross.now c.loop-g.invariant (omega (arith, c.loop-g-test.true)) (rw c.bits_if.ensures at c.in_ok-flag.ensures.reads) c.predictors_if-n.ensures.value
    (then (c.loop-count.invariant _ p.long (rw p.cut refl)) (turns-over (predsi_at c.loop-g.g) _ _ h)))

pub returns : goal.returns
unfolding group
returns c = then c.loop-g.invariant (turns-over (group c.args.on c.args.pair c.args.dyn_cross.now) 8 _ (omega arith))

-- Scaling at once is copying, then multiplying, whatever the buffer held.
use Rattle.std.specs.Prelude.{◌≡◌, Bool, true, false, cond, List, eqb, Float, get_or, set, length}
use Rattle.std.proofs.Math.Path.{refl, sym}
use Rattle.std.proofs.Common.{ap, ◌∙◌, add-one}
use Prim.Native.Nat.{ℕ, zero, suc, ◌+◌, ◌*◌, ◌/◌, ◌%◌, ◌≤◌, ◌<◌}
use native.Mathlib.Omega.{arith}
use Rattle.std.specs.Float.Ieee.{nan}
use Rattle.fill.specs.Tab.{tab}
use Rattle.fill.proofs.TabLaws.{length-tab, get_or-tab, all-filled, tab-same}
use Rattle.fill.proofs.ByTurn.{ByTurn, turn-starts, turn-ends}
use Rattle.floats.specs.Binary64.{◌⊗◌, zero64}
use Rattle.mc_scale.specs.Scale.{scaled_at, scaled_of}
use Rattle.mc_scale.specs.TwoSteps.{turns, element_at, copy_slot, scale_slot, copy_turn, scale_turn, two_steps, ScaledInTwo}
use Rattle.fill.specs.Strided.{strided}
use Rattle.mc_scale.specs.Code.Strided.{column}
use Rattle.mc_scale.specs.Code.Column.{column_at, place_of, slot_of, place_at, turn_of}
use Rattle.mc_scale.specs.Code.ScaleByPlace.{scaled_by_place}
use Rattle.mc_scale.specs.Code.TwoSteps.{OneStep}
use Rattle.mc_scale.proofs.Laws.Column.{at_slot, turn-column, column-place, turn-place, place-turn}
use Rattle.fill.proofs.StridedLaws.{strided-other}
use Rattle.mc_scale.proofs.Laws.TurnBlock.{turn-skip}

-- ---- loops

-- 36 turns that store one element each leave a column
turns-strided :
    (turn : ℕ → List Float → List Float) (f : ℕ → Float) (at : ℕ) (work : List Float)
    → ((n : ℕ) → n < 36 → turn n (strided 32 f at n work) ≡ set (strided 32 f at n work) (at + 32 * n) (f n))
    → (n : ℕ)
    → n ≤ 36
    → turns turn n work ≡ strided 32 f at n work
unfolding turns strided
turns-strided turn f at work store zero h = refl
turns-strided turn f at work store (suc n) h = ap (turn n) (turns-strided turn f at work store n (omega arith)) ∙ store n (omega arith)

-- a buffer by places and slots
abbrev by_place : (ℕ → ℕ → Float) → ℕ → Float
by_place g k = g (place_of k) (slot_of k)

-- before turn n: the columns whose turn has been are g's, the others are d's
abbrev Columns : (ℕ → ℕ → Float) → List Float → List Float → ℕ → Type 0
Columns g d work n = ByTurn nan turn_of (by_place g) 3456 d work n

-- 96 turns that leave one column each leave the whole buffer
module _
    (turn : ℕ → List Float → List Float) (g : ℕ → ℕ → Float) (d : List Float) (long : length d ≡ 3456)
    (more : (work : List Float) (n : ℕ) → n < 96 → Columns g d work n → Columns g d (turn n work) (n + 1))
  where
    columns : (n : ℕ) → n ≤ 96 → Columns g d (turns turn n d) n
    unfolding turns
    columns zero h = turn-starts (omega arith)
    columns (suc n) h = rw (add-one n) at (more _ n (omega arith) (columns n (omega arith)))

    all-columns : turns turn 96 d ≡ tab (by_place g) 3456
    all-columns = turn-ends (columns 96 (omega arith)) (λ k l. omega arith) ∙ all-filled (by_place g) 3456 d long

module _ (steps : ℕ → ℕ → ℕ) (unscaled factor : ℕ → ℕ → ℕ → Float) where
  -- a slot of a place after each step
  abbrev copied : ℕ → ℕ → Float
  copied i slot = cond (eqb (steps (i % 3) (i / 3)) 0) zero64 (unscaled (i % 3) slot (i / 3))

  abbrev scaled : ℕ → ℕ → Float
  scaled i slot = cond (eqb (steps (i % 3) (i / 3)) 0) zero64 (unscaled (i % 3) slot (i / 3) ⊗ factor (i % 3) slot (i / 3))

  -- the buffer after the first
  abbrev copies : List Float
  copies = tab (by_place copied) 3456

  copies-long : length copies ≡ 3456
  copies-long = length-tab (by_place copied) 3456

  -- ---- one turn, of the place place_at t: channel t / 32 in subband t % 32

  module _ (work : List Float) (t : ℕ) (h : t < 96) where
    channel : place_at t % 3 ≡ t / 32
    channel = omega arith

    subband : place_at t / 3 ≡ t % 32
    subband = omega arith

    stored : (slot : ℕ) → element_at (t / 32) slot (t % 32) ≡ column_at (place_at t) + 32 * slot
    stored slot = rw (channel, subband) (omega arith)

    copy-turn : copy_turn steps unscaled factor t work ≡ column (copied (place_at t)) (column_at (place_at t)) work
    unfolding copy_turn copy_slot
    copy-turn = turns-strided _ _ _ work (λ n l. rw (stored n, channel, subband)) 36 (omega arith)

    -- where the column holds what step one has left
    scale-turn :
        eqb (steps (t / 32) (t % 32)) 0 ≡ false
        → ((slot : ℕ) → slot < 36 → get_or work (column_at (place_at t) + 32 * slot) nan ≡ copied (place_at t) slot)
        → turns (scale_slot steps unscaled factor (t / 32) (t % 32)) 36 work ≡ column (scaled (place_at t)) (column_at (place_at t)) work
    unfolding scale_slot
    scale-turn e stands =
        turns-strided _ (scaled (place_at t)) at work
        (λ n l. rw (stored n, strided-other 32 (scaled (place_at t)) at work nan n (at + 32 * n) (λ j s q. absurd (omega arith)), stands n l, channel, subband, e))
        36
        (omega arith)
      where
        at : ℕ
        at = column_at (place_at t)

  -- ---- step one, and step two on what it has left

  all-copied : (work : List Float) → length work ≡ 3456 → turns (copy_turn steps unscaled factor) 96 work ≡ copies
  all-copied work e = all-columns _ copied work e (λ w n h p. rw (copy-turn w n h) (turn-column copied p h))

  scaling : (work : List Float) (n : ℕ) → n < 96 → Columns scaled copies work n → Columns scaled copies (scale_turn steps unscaled factor n work) (n + 1)
  unfolding scale_turn
  scaling work n h p = go (eqb (steps (n / 32) (n % 32)) 0) refl
    where
      i : ℕ
      i = place_at n

      -- the column is as step one has left it
      stands : (slot : ℕ) → slot < 36 → get_or work (column_at i + 32 * slot) nan ≡ copied i slot
      stands slot l =
          let k = column_at i + 32 * slot in
          let low : i < 96 = omega arith in
          let inside : k < 3456 = omega arith in
          let here : place_of k ≡ i = column-place i slot low l in
          let at : slot_of k ≡ slot = at_slot (i % 3) (i / 3) slot (omega arith) l in
          let turn : turn_of k ≡ n = place-turn k n inside h here in
          p.kept k inside (omega arith) ∙ (get_or-tab nan (by_place copied) 3456 k inside ∙ rw (here, at))

      go : (b : Bool) → eqb (steps (n / 32) (n % 32)) 0 ≡ b → Columns scaled copies (cond b work (turns (scale_slot steps unscaled factor (n / 32) (n % 32)) 36 work)) (n + 1)
      go true e =
          turn-skip p (λ k l s.
          let here : place_of k ≡ i = sym (turn-place k) ∙ ap place_at s in
          get_or-tab nan (by_place copied) 3456 k l ∙ rw (here, channel work n h, subband work n h, e))
      go false e = rw (scale-turn work n h e stands) (turn-column scaled p h)

  in_two :
      (work : List Float)
      → length work ≡ 3456
      → tab (λ (k : ℕ). cond (eqb (steps (k / 1152) (k % 32)) 0) zero64 (unscaled (k / 1152) (slot_of k) (k % 32) ⊗ factor (k / 1152) (slot_of k) (k % 32))) 3456 ≡ two_steps steps unscaled factor work
  unfolding two_steps
  in_two work e =
      tab-same 3456 (λ k h.
      let m : place_of k % 3 ≡ k / 1152 = omega arith in
      let sb : place_of k / 3 ≡ k % 32 = omega arith in
      rw (m, sb))
      ∙ sym (ap (turns (scale_turn steps unscaled factor) 96) (all-copied work e) ∙ all-columns _ scaled copies copies-long scaling)

-- ---- the two statements

pub scaled-in-two : ScaledInTwo
unfolding scaled_of scaled_at
scaled-in-two s r b work e = in_two _ _ _ work e

pub one-step : OneStep
unfolding scaled_by_place
one-step steps source base factors raw left right work e = in_two _ _ _ work e

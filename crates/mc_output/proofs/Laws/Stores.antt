-- The second and third pass as loops that store one element a turn: what holds before each turn, and what stands after the last. And the lengths of the passes.
use Rattle.std.specs.Prelude.{◌≡◌, Bool, ◌&&◌, List, ℕ, ◌+◌, ◌-◌, ◌*◌, ◌%◌, ◌≤◌, ◌<◌, leb, Float, length, get_or, set}
use Rattle.std.proofs.Math.Path.{refl}
use Rattle.std.proofs.Common.{◌∙◌, arith}
use Rattle.std.proofs.Math.Bool.{true, false, cond}
use Rattle.std.proofs.Math.Dec.{ltb}
use Rattle.std.specs.Float.Ieee.{nan}
use borrow.Author.Tests.{lt-ltb, le-ltb, le-leb, lt-leb}
use Rattle.floats.specs.Binary64.{zero64}
use Rattle.fill.specs.Tab.{tab}
use Rattle.fill.proofs.TabLaws.{length-tab, all-filled}
use Rattle.fill.proofs.ByTurn.{ByTurn, turn_more, turn-ends}
use Rattle.mc_output.specs.declared.output.Mix.{Mix}
use Rattle.mc_output.specs.Code.OutputByMix.{mixed_of_at, mixed_of, with_second_at, with_second, beyond_at, beyond}
use Rattle.mc_scale.proofs.Laws.TurnBlock.{turn-skip, turn-rest}

-- ---- +0 beyond the layout

module _ (channels : ℕ) (d : List Float) (long : length d ≡ 5760) where
  abbrev pub Clearing : List Float → ℕ → Type 0
  Clearing dst k = ByTurn nan (λ (i : ℕ). i) (beyond_at channels d) 5760 d dst k

  pub clearing-starts : Clearing d (1152 * channels)
  clearing-starts =
      record {
        room = omega arith;
        long = refl;
        done = λ k l r. rw (lt-ltb k (1152 * channels) r);
        kept = λ k l r. refl;
        past = λ k l. refl;
      }

  pub clearing-more : (dst : List Float) (k : ℕ) → Clearing dst k → 1152 * channels ≤ k → k < 5760 → Clearing (set dst k zero64) (k + 1)
  clearing-more dst k p h l = turn_more k p l refl (λ i m e. e) (rw (le-ltb k (1152 * channels) h))

  pub clearing-ends : (dst : List Float) (k : ℕ) → Clearing dst k → 5760 ≤ k → dst ≡ beyond channels d
  unfolding beyond
  clearing-ends dst k p h = turn-ends p (λ i l. omega arith) ∙ all-filled (beyond_at channels d) 5760 d long

-- ---- a second stereo programme

module _ (channels main limit : ℕ) (work d : List Float) (long : length d ≡ 5760) where
  abbrev pub Laying : List Float → ℕ → Type 0
  Laying dst i = ByTurn nan (λ (k : ℕ). k) (with_second_at channels main limit work d) 5760 d dst (1152 * (channels - 2) + i)

  pub and-false : (a b : Bool) → (a && (b && false)) ≡ false
  and-false true true = refl
  and-false true false = refl
  and-false false b = refl

  pub laying-starts : Laying d 0
  laying-starts =
      record {
        room = omega arith;
        long = refl;
        done = λ k l r. rw (lt-leb (1152 * (channels - 2)) k (omega arith));
        kept = λ k l r. refl;
        past = λ k l. refl;
      }

  pub laying-more :
      (dst : List Float) (i : ℕ)
      → Laying dst i
      → i < 2304
      → channels ≤ 5
      → i % 32 < limit
      → Laying (set dst (1152 * (channels - 2) + i) (get_or work (1152 * main + i) nan)) (i + 1)
  laying-more dst i p h c low =
      let at = 1152 * (channels - 2) in
      let k = at + i in
      let e : at + (i + 1) ≡ at + i + 1 = omega arith in
      let m : (at + i) % 32 ≡ i % 32 = omega arith in
      let b : at + i - at ≡ i = omega arith in
      rw e
      (turn_more k p (omega arith) refl (λ j l q. q)
      (rw (le-leb at (at + i) (omega arith), lt-ltb (at + i) (at + 2304) (omega arith), m, lt-ltb (i % 32) limit low, b)))

  pub laying-skip : (dst : List Float) (i : ℕ) → Laying dst i → limit ≤ i % 32 → Laying dst (i + 1)
  laying-skip dst i p high =
      let at = 1152 * (channels - 2) in
      let e : at + (i + 1) ≡ at + i + 1 = omega arith in
      rw e
      (turn-skip p
      (λ k l q. let m : k % 32 ≡ i % 32 = omega arith in
      rw (m, le-ltb (i % 32) limit high, and-false (leb at k) (ltb k (at + 2304)))))

  pub laying-ends : (dst : List Float) (i : ℕ) → Laying dst i → 2304 ≤ i → dst ≡ tab (with_second_at channels main limit work d) 5760
  laying-ends dst i p h =
      let at = 1152 * (channels - 2) in
      turn-rest p (λ k l q. rw (le-ltb k (at + 2304) (omega arith)) (pick (leb at k) (get_or work (1152 * main + (k - at)) nan) (get_or d k nan)))
      ∙ all-filled (with_second_at channels main limit work d) 5760 d long
    where
      pick : (a : Bool) (x y : Float) → y ≡ cond (a && false) x y
      pick true x y = refl
      pick false x y = refl

-- ---- lengths

pub second-long : (x : Mix) (work d : List Float) → length (with_second x work d) ≡ 5760
unfolding with_second
second-long x work d = length-tab (with_second_at x.channels x.main x.limit work d) 5760

pub beyond-long : (channels : ℕ) (d : List Float) → length (beyond channels d) ≡ 5760
unfolding beyond
beyond-long channels d = length-tab (beyond_at channels d) 5760

pub mixed-all : (x : Mix) (tcs : List ℕ) (left right work : List Float) → length (mixed_of x tcs left right work) ≡ 5760
unfolding mixed_of
mixed-all x tcs left right work = length-tab (mixed_of_at x tcs left right work) 5760

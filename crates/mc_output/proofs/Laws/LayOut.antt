-- The output in three passes: dematrixed values, a second stereo programme over two channels, and +0 beyond the layout.
use Rattle.std.specs.Prelude.{◌≡◌, Bool, ◌&&◌, List, ℕ, ◌+◌, ◌-◌, ◌*◌, ◌/◌, ◌%◌, ◌≤◌, ◌<◌, leb, Float, length, get_or, replicate}
use Rattle.std.proofs.Math.Path.{refl}
use Rattle.std.proofs.Common.{sym, ◌∙◌, ⊎_elim, eq-zero-or-pos, rules, arith}
use Rattle.std.proofs.lemmas.List.{ext_get_or, places}
use Rattle.std.proofs.Math.Bool.{true, false, cond}
use Rattle.std.proofs.Math.Dec.{ltb}
use Rattle.std.specs.Float.Ieee.{nan}
use borrow.Author.Tests.{lt-ltb, le-ltb, le-leb, lt-leb, leb-true, leb-false, ltb-true, ltb-false}
use Rattle.floats.specs.Binary64.{zero64}
use borrow.Rule.Slice.PartMut.{put_mid, mid_of}
use Rattle.fill.specs.Tab.{tab}
use Rattle.fill.proofs.TabLaws.{length-tab, get_or-tab, all-filled, tab-same}
use Rattle.fill.proofs.ByTurn.{ByTurn, turn-ends}
use Rattle.mc_output.specs.declared.output.Mix.{Mix}
use Rattle.mc_output.specs.Code.OutputByMix.{main_by, mixed_by, SecondFits, second_by, output_by, mixed_of_at, mixed_of, with_second_at, with_second, beyond_at, beyond}
use Rattle.mc_output.proofs.Laws.OutputByMix.{length-dematrixed, second-value}
use Rattle.fill.proofs.Part.{part-held, length-held, length-part, part-in, part-before, part-after}

-- ---- +0 beyond the layout

pub cleared :
    (channels : ℕ) (d : List Float) {zeros : List Float} {n : ℕ}
    → length d ≡ 5760
    → zeros ≡ replicate n zero64
    → n ≡ 5760 - 1152 * channels
    → channels ≤ 5
    → put_mid (1152 * channels) (5760 - 1152 * channels) d zeros ≡ beyond channels d
unfolding beyond
cleared channels d {zeros} {n} long e en few =
    ext_get_or nan _ _ (all ∙ sym (length-tab (beyond_at channels d) 5760))
    (λ k h. let l : k < 5760 = rw (← all) h in rw (e, en) (at k l (ltb k first) refl) ∙ sym (get_or-tab nan (beyond_at channels d) 5760 k l))
  where
    first : ℕ
    first = 1152 * channels

    all : length (put_mid (1152 * channels) (5760 - 1152 * channels) d zeros) ≡ 5760
    all = rw (e, en) (search (rules, places))

    at :
        (k : ℕ)
        → k < 5760
        → (b : Bool)
        → ltb k (1152 * channels) ≡ b
        → get_or (put_mid (1152 * channels) (5760 - 1152 * channels) d (replicate (5760 - 1152 * channels) zero64)) k nan ≡ cond b (get_or d k nan) zero64
    at k l true t = let h = ltb-true k (1152 * channels) t in grind (arith, places)
    at k l false t = let h = ltb-false k (1152 * channels) t in grind (arith, places)

-- ---- a second stereo programme

-- two channels, with the programme below the subband limit
abbrev pub below_limit : ℕ → ℕ → List Float → List Float → ℕ → Float
below_limit main limit work part k = cond (ltb (k % 32) limit) (get_or work (1152 * main + k) nan) (get_or part k nan)

module _ (x : Mix) (work d : List Float) (long : length d ≡ 5760) (room : (2 ≤ x.channels) × (x.channels ≤ 5)) where
  abbrev from : ℕ
  from = 1152 * (x.channels - 2)

  abbrev two : List Float
  two = tab (below_limit x.main x.limit work (mid_of from 2304 d)) 2304

  two-long : length two ≡ 2304
  two-long = length-tab (below_limit x.main x.limit work (mid_of from 2304 d)) 2304

  there : from + 2304 ≤ length d
  there = omega arith

  element-of : (k : ℕ) → k < 5760 → get_or (put_mid from 2304 d two) k nan ≡ with_second_at x.channels x.main x.limit work d k
  element-of k h =
      ⊎_elim
      (λ e. let l : from ≤ k = omega arith in
      ⊎_elim
      (λ past. let r : from + 2304 ≤ k = omega arith in part-after nan from 2304 d two two-long there k r ∙ rw (le-leb from k l, le-ltb k (from + 2304) r))
      (λ inside. let r : k < from + 2304 = omega arith in
      let m : (k - from) % 32 ≡ k % 32 = omega arith in
      part-in nan from 2304 d two two-long there k l r
      ∙ (get_or-tab nan (below_limit x.main x.limit work (mid_of from 2304 d)) 2304 (k - from) (omega arith)
      ∙ rw (le-leb from k l, lt-ltb k (from + 2304) r, m, part-held nan from 2304 d k l r)))
      (eq-zero-or-pos (from + 2304 - k)))
      (λ e. let l : k < from = omega arith in part-before nan from 2304 d two two-long there k l ∙ rw (lt-leb from k l))
      (eq-zero-or-pos (from - k))

  over : put_mid from 2304 d two ≡ with_second x work d
  unfolding with_second
  over =
      let all = length-part nan from 2304 d two two-long there ∙ long in
      ext_get_or nan _ _ (all ∙ sym (length-tab (with_second_at x.channels x.main x.limit work d) 5760))
      (λ k h. let l : k < 5760 = rw (← all) h in element-of k l ∙ sym (get_or-tab nan (with_second_at x.channels x.main x.limit work d) 5760 k l))

  -- after a loop over the two channels
  pub laid-over :
      {n : ℕ} {dst : List Float} {i : ℕ}
      → n ≡ 2304
      → ByTurn nan (λ (k : ℕ). k) (below_limit x.main x.limit work (mid_of from n d)) 2304 (mid_of from n d) dst i
      → length (mid_of from n d) ≤ i
      → put_mid from n d dst ≡ with_second x work d
  laid-over {n} {dst} {i} e p h = rw (e, all) over
    where
      all : dst ≡ two
      all =
          let long = length-held from 2304 d there in
          let last = rw (e, long) at h in
          turn-ends (rw e at p) (λ k l. omega arith) ∙ all-filled (below_limit x.main x.limit work (mid_of from 2304 d)) 2304 (mid_of from 2304 d) long

-- ---- the three passes give the output

module _ (x : Mix) (tcs : List ℕ) (left right work : List Float) (fit : SecondFits x) where
  abbrev mixed : ℕ → List Float
  mixed j = mixed_by x (get_or tcs (j % 32) 0) left right work j

  abbrev first : List Float
  first = mixed_of x tcs left right work

  mixed-long : (j : ℕ) → length (mixed j) ≡ 5
  mixed-long j =
      length-dematrixed x.pair x.procedure (get_or tcs (j % 32) 0) (get_or left j nan) (get_or right j nan) (main_by x work 0 j) (main_by x work 1 j) (main_by x work 2 j)

  module _ (k : ℕ) (h : k < 5760) (l : k / 1152 < x.channels) where
    mixed-at : get_or first k nan ≡ get_or (mixed (k % 1152)) (k / 1152) nan
    unfolding mixed_of
    mixed-at = get_or-tab nan (mixed_of_at x tcs left right work) 5760 k h

    abbrev second : Bool → Float
    second b =
        cond (b && (ltb (k % 1152 % 32) x.limit && leb x.channels (k / 1152 + 2)))
        (get_or work (1152 * (x.main + (k / 1152 + 2 - x.channels)) + k % 1152) nan)
        (get_or (mixed (k % 1152)) (k / 1152) nan)

    in-test : (b : Bool) (u v : Float) → cond b u v ≡ cond (b && true) u v
    in-test true u v = refl
    in-test false u v = refl

    out-test : (b : Bool) (u v : Float) → v ≡ cond (b && false) u v
    out-test true u v = refl
    out-test false u v = refl

    -- a second stereo programme, in its two channels and outside them
    laid : (2 ≤ x.channels) × (x.channels ≤ 5) × (x.main ≤ 1) → (t : Bool) → leb x.channels (k / 1152 + 2) ≡ t
        → with_second_at x.channels x.main x.limit work first k ≡ second true
    laid f true e =
        let c = leb-true x.channels (k / 1152 + 2) e in
        let at = 1152 * (x.channels - 2) in
        let m : k % 32 ≡ k % 1152 % 32 = omega arith in
        let a : 1152 * x.main + (k - at) ≡ 1152 * (x.main + (k / 1152 + 2 - x.channels)) + k % 1152 = omega arith in
        rw (le-leb at k (omega arith), lt-ltb k (at + 2304) (omega arith), m, a, e, mixed-at) (in-test (ltb (k % 1152 % 32) x.limit) _ _)
    laid f false e =
        let c = leb-false x.channels (k / 1152 + 2) e in
        rw (lt-leb (1152 * (x.channels - 2)) k (omega arith), e, mixed-at) (out-test (ltb (k % 1152 % 32) x.limit) _ _)

    by-second : (b : Bool) → x.second_stereo ≡ b → get_or (cond b (with_second x work first) first) k nan ≡ second b
    unfolding with_second
    by-second true e =
        get_or-tab nan (with_second_at x.channels x.main x.limit work first) 5760 k h ∙ laid (fit.fits e) (leb x.channels (k / 1152 + 2)) refl
    by-second false e = mixed-at

    element :
        get_or (cond x.second_stereo (with_second x work first) first) k nan
        ≡ get_or (second_by x (mixed (k % 1152)) work (k % 1152)) (k / 1152) nan
    element = by-second x.second_stereo refl ∙ sym (second-value x (mixed (k % 1152)) work (k % 1152) (k / 1152) fit (mixed-long (k % 1152)) l)

  pub laid_out : beyond x.channels (cond x.second_stereo (with_second x work first) first) ≡ output_by x tcs left right work
  unfolding beyond output_by
  laid_out = tab-same 5760 (λ k h. go k h (ltb (k / 1152) x.channels) refl)
    where
      go :
          (k : ℕ)
          → k < 5760
          → (t : Bool)
          → ltb (k / 1152) x.channels ≡ t
          → beyond_at x.channels (cond x.second_stereo (with_second x work first) first) k
          ≡ cond t (get_or (second_by x (mixed (k % 1152)) work (k % 1152)) (k / 1152) nan) zero64
      go k h true e =
          let l = ltb-true (k / 1152) x.channels e in
          rw (lt-ltb k (1152 * x.channels) (omega arith)) (element k h l)
      go k h false e =
          let l = ltb-false (k / 1152) x.channels e in
          rw (le-ltb k (1152 * x.channels) (omega arith))

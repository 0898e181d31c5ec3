-- The code's output is that of the definition.
use Rattle.std.specs.Prelude.{◌≡◌, refl, Bool, true, false, ◌&&◌, cond, ℕ, ◌+◌, ◌-◌, ◌*◌, ◌/◌, ◌%◌, ◌≤◌, ◌<◌, eqb, ltb, leb, length, get_or, set}
use Rattle.std.proofs.Common.{sym, ap, ◌∙◌, ⊎_elim, add-zero, eq-or-lt_of_le, eq-zero-or-pos, length-set, length-append, get_or-set_same, get_or-set_other, ltb-true, le-leb}
use mathlib.Core.List.{List}
use native.Mathlib.Omega.{arith}
use Rattle.std.specs.Float.Ieee.{Float}
use Rattle.std.specs.Float.{nan}
use Rattle.std.proofs.lemmas.Bool.{lt-leb}
use Rattle.floats.specs.Binary64.{zero64}
use Rattle.fill.proofs.TabLaws.{get_or-tab, tab-same}
use Rattle.fill.proofs.ByTurn.{ByTurn}
use Rattle.mc_config.proofs.CaseLaws.{by_pair-elim}
use Rattle.mc_config.specs.Config.{main_of, config_of, front_channels, surround_channels, layout_of}
use Rattle.mc_config.proofs.ConfigLaws.{layout-length, nmch-config, nmch-most}
use Rattle.mc_config.specs.Groups.{sbgr_of}
use Rattle.mc_config.proofs.TableLaws.{get_d_default}
use Rattle.mc_payload.specs.declared.McSettings.{McSettings}
use Rattle.mc_payload.specs.Places.{config, pair}
use Rattle.mc_output.specs.declared.output.Mix.{Mix}
use Rattle.mc_base.specs.Base.{Base, chosen}
use Rattle.mc_predict.specs.Predict.{base_for, base_value}
use Rattle.mc_dematrix.specs.Dematrix.{dematrixed, passed, weighted, unweighted}
use Rattle.mc_output.specs.Output.{main_at, mixed_at, channels, second, output_at, output_of}
use Rattle.mc_output.specs.Code.OutputByMix.{mix_of, tcs_of, mixed_by, SecondFits, second_by, channel_by, output_by, mixed_of_at}
use Rattle.mc_predict.proofs.Laws.Chosen.{first-base}
use Rattle.mc_scale.specs.Code.Strided.{across}
use Rattle.fill.proofs.StridedLaws.{length-strided, get_or-strided, strided-other}
use Rattle.mc_scale.proofs.Laws.TurnBlock.{turn-block}

-- one slot and subband of a loop that writes five channels side by side
pub turn-across :
    {z : Float} {f v : ℕ → Float} {d dst : List Float} {t : ℕ}
    → ByTurn z (λ (k : ℕ). k % 1152) f 5760 d dst t
    → t < 1152
    → ((ch : ℕ) → ch < 5 → v ch ≡ f (t + 1152 * ch))
    → ByTurn z (λ (k : ℕ). k % 1152) f 5760 d (across v t dst) (t + 1)
turn-across {z} {f} {v} {d} {dst} {t} p h e =
    turn-block p (length-strided 1152 v t dst 5) here
    (λ k n. strided-other 1152 v t dst z 5 k (λ ch s w. n (omega arith) (omega arith)))
  where
    here : (k : ℕ) → k < 5760 → k % 1152 ≡ t → get_or (across v t dst) k z ≡ f k
    here k l s =
        let w : t + 1152 * (k / 1152) ≡ k = omega arith in
        let q : k / 1152 < 5 = omega arith in
        ap (λ (i : ℕ). get_or (across v t dst) i z) (sym w)
        ∙ (get_or-strided 1152 v t dst z 5 (k / 1152) (omega arith) q (omega (arith, p.room, p.long)) ∙ (e (k / 1152) q ∙ ap f w))

-- the element that stands at slot and subband t of channel ch
pub mixed-value :
    (x : Mix) (tcs : List ℕ) (left right work : List Float) (t ch : ℕ)
    → t < 1152
    → get_or (mixed_by x (get_or tcs (t % 32) 0) left right work t) ch nan ≡ mixed_of_at x tcs left right work (t + 1152 * ch)
mixed-value x tcs left right work t ch h =
    let j : (t + 1152 * ch) % 1152 ≡ t = omega arith in
    let c : (t + 1152 * ch) / 1152 ≡ ch = omega arith in
    rw (j, c)

-- a second stereo programme has two channels after the front ones
second-channels : (s : McSettings) → (config s).second_stereo ≡ true → 2 ≤ channels s
unfolding config_of layout_of
second-channels s e =
    rw (e, length-append (front_channels (config s).front) (surround_channels 0 true)) (omega arith)

-- and at most one main channel beside it
pub second_fits : (s : McSettings) → SecondFits (mix_of s)
second_fits s =
    record {
      fits = λ e.
          let n = nmch-config s.header s.base_channels in
          (second-channels s e, (layout-length (config s)).1, omega (arith, rw e at n, nmch-most s.header s.base_channels));
    }

-- the last two of c channels are v's
last-two :
    (mixed : List Float) (c ch : ℕ) (v : ℕ → Float)
    → 2 ≤ c
    → c ≤ length mixed
    → ch < c
    → get_or (set (set mixed (c - 2) (v 0)) (c - 1) (v 1)) ch nan ≡ cond (leb c (ch + 2)) (v (ch + 2 - c)) (get_or mixed ch nan)
last-two mixed c ch v two room h =
    ⊎_elim
    (λ e. let q : c ≤ ch + 2 = omega arith in rw (le-leb c (ch + 2) q) (⊎_elim (λ s. last (omega arith)) (λ s. first (omega arith)) (eq-or-lt_of_le h)))
    (λ e. let q : ch + 2 < c = omega arith in
    rw (lt-leb c (ch + 2) q)
    (get_or-set_other (set mixed (c - 2) (v 0)) (c - 1) ch (v 1) nan (λ s. omega arith) ∙ get_or-set_other mixed (c - 2) ch (v 0) nan (λ s. omega arith)))
    (eq-zero-or-pos (c - (ch + 2)))
  where
    last : ch + 1 ≡ c → get_or (set (set mixed (c - 2) (v 0)) (c - 1) (v 1)) ch nan ≡ v (ch + 2 - c)
    last s =
        let a : ch ≡ c - 1 = omega arith in
        let b : ch + 2 - c ≡ 1 = omega arith in
        rw (b, a) (get_or-set_same (set mixed (c - 2) (v 0)) (c - 1) (v 1) nan (rw (length-set mixed (c - 2) (v 0)) (omega arith)))

    first : ch + 2 ≡ c → get_or (set (set mixed (c - 2) (v 0)) (c - 1) (v 1)) ch nan ≡ v (ch + 2 - c)
    first s =
        let a : ch ≡ c - 2 = omega arith in
        let b : ch + 2 - c ≡ 0 = omega arith in
        rw (b, a)
        (get_or-set_other (set mixed (c - 2) (v 0)) (c - 1) (c - 2) (v 1) nan (λ q. omega arith) ∙ get_or-set_same mixed (c - 2) (v 0) nan (omega arith))

length-passed : (lo ro t2 t3 t4 : Float) (pair : ℕ) → length (passed pair lo ro t2 t3 t4) ≡ 5
unfolding passed
length-passed lo ro t2 t3 t4 =
    by_pair-elim (λ (i : ℕ). length (passed i lo ro t2 t3 t4) ≡ 5) refl refl refl refl refl
    (λ i o. rw (o.not32, o.not31, o.not30, o.not22, o.not21))

length-unweighted : (p : ℕ) (xs : List Float) (pair : ℕ) → length (unweighted pair p xs) ≡ 5
unfolding unweighted
length-unweighted p xs =
    by_pair-elim (λ (i : ℕ). length (unweighted i p xs) ≡ 5) refl refl refl refl refl
    (λ i o. rw (o.not32, o.not31, o.not30, o.not22, o.not21))

pub length-dematrixed : (pair p tc : ℕ) (lo ro t2 t3 t4 : Float) → length (dematrixed pair p tc lo ro t2 t3 t4) ≡ 5
unfolding dematrixed
length-dematrixed pair p tc lo ro t2 t3 t4 = go (eqb p 3)
  where
    go : (b : Bool) → length (cond b (passed pair lo ro t2 t3 t4) (unweighted pair p (weighted pair p tc lo ro t2 t3 t4))) ≡ 5
    go true = length-passed lo ro t2 t3 t4 pair
    go false = length-unweighted p (weighted pair p tc lo ro t2 t3 t4) pair

-- channel ch, with a second stereo programme or without
pub second-value :
    (x : Mix) (mixed work : List Float) (j ch : ℕ)
    → SecondFits x
    → length mixed ≡ 5
    → ch < x.channels
    → get_or (second_by x mixed work j) ch nan
    ≡ cond (x.second_stereo && (ltb (j % 32) x.limit && leb x.channels (ch + 2))) (get_or work (1152 * (x.main + (ch + 2 - x.channels)) + j) nan) (get_or mixed ch nan)
unfolding second_by
second-value x mixed work j ch fit long h = go x.second_stereo (ltb (j % 32) x.limit) fit.fits
  where
    v : ℕ → Float
    v i = get_or work (1152 * (x.main + i) + j) nan

    go :
        (b c : Bool)
        → (b ≡ true → (2 ≤ x.channels) × (x.channels ≤ 5) × (x.main ≤ 1))
        → get_or (cond (b && c) (set (set mixed (x.channels - 2) (get_or work (1152 * x.main + j) nan)) (x.channels - 1) (get_or work (1152 * (x.main + 1) + j) nan)) mixed) ch nan
        ≡ cond (b && (c && leb x.channels (ch + 2))) (get_or work (1152 * (x.main + (ch + 2 - x.channels)) + j) nan) (get_or mixed ch nan)
    go true true f = rw (add-zero x.main) at (last-two mixed x.channels ch v (f refl).0 (rw long (f refl).1) h)
    go true false f = refl
    go false c f = refl

tc-at : (tc : List ℕ) (sb : ℕ) → sb < 32 → get_or (tcs_of tc) sb 0 ≡ get_or tc (sbgr_of sb) 0
unfolding tcs_of
tc-at tc sb h = get_or-tab 0 (λ (i : ℕ). get_or tc (sbgr_of i) 0) 32 sb h

module _ (s : McSettings) (b : Base) (work : List Float) where
  right : List Float
  right = chosen (base_for s 1) b.scaled_left b.scaled_right

  mixed-same :
      (slot sb : ℕ)
      → sb < 32
      → mixed_by (mix_of s) (get_or (tcs_of s.status.tc_allocation) sb 0) b.scaled_left right work (32 * slot + sb) ≡ mixed_at s b work slot sb
  unfolding right
  mixed-same slot sb h =
      let e : (32 * slot + sb) % 32 ≡ sb = omega arith in
      let m0 : 1152 * 0 + (32 * slot + sb) ≡ (36 * 0 + slot) * 32 + sb = omega arith in
      let m1 : 1152 * 1 + (32 * slot + sb) ≡ (36 * 1 + slot) * 32 + sb = omega arith in
      let m2 : 1152 * 2 + (32 * slot + sb) ≡ (36 * 2 + slot) * 32 + sb = omega arith in
      rw (tc-at s.status.tc_allocation sb h, e, m0, m1, m2, first-base s b.scaled_left b.scaled_right)

  output-same :
      (ch slot sb : ℕ)
      → sb < 32
      → channel_by (mix_of s)
      (second_by (mix_of s) (mixed_by (mix_of s) (get_or (tcs_of s.status.tc_allocation) sb 0) b.scaled_left right work (32 * slot + sb)) work (32 * slot + sb)) ch
      ≡ output_at s b work ch slot sb
  unfolding output_at
  output-same ch slot sb h = rw (mixed-same slot sb h) (go (ltb ch (channels s)) refl)
    where
      mixed : List Float
      mixed = mixed_at s b work slot sb

      long : length mixed ≡ 5
      long =
          length-dematrixed (pair s) s.header.dematrix_procedure (get_or s.status.tc_allocation (sbgr_of sb) 0)
          (base_value s b 0 slot sb) (base_value s b 1 slot sb) (main_at s work 0 slot sb) (main_at s work 1 slot sb) (main_at s work 2 slot sb)

      main : ℕ
      main = main_of (pair s) + (ch + 2 - channels s)

      go :
          (t : Bool)
          → ltb ch (channels s) ≡ t
          → cond t (get_or (second_by (mix_of s) (mixed_at s b work slot sb) work (32 * slot + sb)) ch nan) zero64
          ≡ cond t (cond (second s ch sb) (get_or work ((36 * (main_of (pair s) + (ch + 2 - channels s)) + slot) * 32 + sb) nan) (get_or (mixed_at s b work slot sb) ch zero64)) zero64
      go true e =
          let l = ltb-true ch (channels s) e in
          let j : (32 * slot + sb) % 32 ≡ sb = omega arith in
          let i : 1152 * main + (32 * slot + sb) ≡ (36 * main + slot) * 32 + sb = omega arith in
          second-value (mix_of s) mixed work (32 * slot + sb) ch (second_fits s) long l
          ∙ rw (j, i, get_d_default mixed nan zero64 ch (rw long (omega (arith, (layout-length (config s)).1))))
      go false e = refl

  output-by-mix : output_by (mix_of s) (tcs_of s.status.tc_allocation) b.scaled_left right work ≡ output_of s b work
  unfolding output_by output_of
  output-by-mix =
      tab-same 5760 (λ k h.
      let j : k % 1152 ≡ 32 * (k / 32 % 36) + k % 32 = omega arith in
      let e : (32 * (k / 32 % 36) + k % 32) % 32 ≡ k % 32 = omega arith in
      rw (j, e) (rw e at (output-same (k / 1152) (k / 32 % 36) (k % 32) (omega arith))))

  -- the whole output
  pub output-written :
      {x : Mix} {tcs : List ℕ} {second output : List Float}
      → x ≡ mix_of s
      → tcs ≡ tcs_of s.status.tc_allocation
      → second ≡ chosen (base_for s 1) b.scaled_left b.scaled_right
      → output ≡ output_by x tcs b.scaled_left second work
      → output ≡ output_of s b work
  unfolding right
  output-written ex et es e = rw (ex, et, es) at e ∙ output-by-mix

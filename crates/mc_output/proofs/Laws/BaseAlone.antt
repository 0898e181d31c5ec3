-- The output where the output is the base alone is that of the definition.
use Rattle.std.specs.Prelude.{◌≡◌, refl, Bool, true, false, cond, List, [], ◌∷◌, ℕ, ◌+◌, ◌-◌, ◌≤◌, min, length, ltb, set, zero, suc, ◌*◌, ◌/◌, ◌%◌, ◌<◌, eqb, Float, get_or}
use Rattle.std.proofs.Common.{sym, ◌∙◌, ⊎_elim, eq-zero-or-pos, length-set, get_or-set_same, get_or-set_other, lt-ltb, le-ltb, ltb-true, ltb-false, arith}
use Rattle.std.specs.Float.{nan}
use Rattle.floats.specs.Binary64.{zero64}
use Rattle.fill.specs.Tab.{filled}
use Rattle.fill.proofs.TabLaws.{tab-same, get_or-filled}
use Rattle.fill.proofs.ByTurn.{ByTurn}
use Rattle.mc_scale.proofs.Laws.TurnBlock.{turn-block}
use Rattle.mc_config.proofs.CaseLaws.{by_pair-elim}
use Rattle.mc_config.specs.Config.{main_of}
use Rattle.mc_payload.specs.declared.McSettings.{McSettings}
use Rattle.mc_output.specs.declared.output.Mix.{Mix}
use Rattle.mc_base.specs.Base.{Base, chosen}
use Rattle.mc_predict.specs.Predict.{base_for}
use Rattle.mc_dematrix.specs.Dematrix.{dematrixed, passed, weighted, unweighted}
use Rattle.mc_output.specs.Output.{output_of}
use Rattle.mc_output.specs.Code.OutputByMix.{mix_of, tcs_of, second_by, channel_by, main_by, output_by, base_by, beyond, base_alone_at, base_alone}
use Rattle.mc_output.proofs.Laws.OutputByMix.{output-written}

unmixed : (p tc : ℕ) (lo ro t2 t3 t4 : Float) (pair : ℕ) → main_of pair ≡ 0 → dematrixed pair p tc lo ro t2 t3 t4 ≡ lo ∷ ro ∷ zero64 ∷ zero64 ∷ zero64 ∷ []
unfolding dematrixed passed unweighted weighted
unmixed p tc lo ro t2 t3 t4 =
    by_pair-elim (λ (i : ℕ). main_of i ≡ 0 → dematrixed i p tc lo ro t2 t3 t4 ≡ lo ∷ ro ∷ zero64 ∷ zero64 ∷ zero64 ∷ [])
    (λ e. absurd (omega arith)) (λ e. absurd (omega arith)) (λ e. absurd (omega arith)) (λ e. absurd (omega arith)) (λ e. absurd (omega arith))
    (λ i o e. rw (o.not32, o.not31, o.not30, o.not22, o.not21) (same (eqb p 3)))
  where
    same : (b : Bool) → cond b (lo ∷ ro ∷ zero64 ∷ zero64 ∷ zero64 ∷ []) (lo ∷ ro ∷ zero64 ∷ zero64 ∷ zero64 ∷ []) ≡ lo ∷ ro ∷ zero64 ∷ zero64 ∷ zero64 ∷ []
    same true = refl
    same false = refl

-- the element that stands at slot and subband t of channel ch
pub base-value :
    (x : Mix) (left right : List Float) (t ch : ℕ)
    → t < 1152
    → channel_by x (base_by left right t) ch ≡ base_alone_at x left right (t + 1152 * ch)
base-value x left right t ch h =
    let j : (t + 1152 * ch) % 1152 ≡ t = omega arith in
    let c : (t + 1152 * ch) / 1152 ≡ ch = omega arith in
    rw (j, c)

-- a turn of a loop that writes one place of both base channels, one after the other
abbrev pub of_both : List Float → List Float → ℕ → Float
of_both left right k = get_or (base_by left right (k % 1152)) (k / 1152) nan

pub turn-both :
    (left right : List Float) {d dst : List Float} {t : ℕ}
    → ByTurn nan (λ (k : ℕ). k % 1152) (of_both left right) 2304 d dst t
    → t < 1152
    → ByTurn nan (λ (k : ℕ). k % 1152) (of_both left right) 2304 d (set (set dst t (get_or left t nan)) (1152 + t) (get_or right t nan)) (t + 1)
turn-both left right {d} {dst} {t} p h = turn-block p (length-set first (1152 + t) (get_or right t nan) ∙ length-set dst t (get_or left t nan)) here there
  where
    first : List Float
    first = set dst t (get_or left t nan)

    next : List Float
    next = set first (1152 + t) (get_or right t nan)

    long : length first ≡ length dst
    long = length-set dst t (get_or left t nan)

    at_first : (k : ℕ) → k ≡ t → get_or next k nan ≡ of_both left right k
    at_first k e =
        let c : t / 1152 ≡ 0 = omega arith in
        let j : t % 1152 ≡ t = omega arith in
        rw (e, c, j)
        (get_or-set_other first (1152 + t) t (get_or right t nan) nan (λ q. absurd (omega arith))
        ∙ get_or-set_same dst t (get_or left t nan) nan (omega (arith, p.room, p.long)))

    at_second : (k : ℕ) → k ≡ 1152 + t → get_or next k nan ≡ of_both left right k
    at_second k e =
        let c : (1152 + t) / 1152 ≡ 1 = omega arith in
        let j : (1152 + t) % 1152 ≡ t = omega arith in
        rw (e, c, j) (get_or-set_same first (1152 + t) (get_or right t nan) nan (omega (arith, p.room, p.long, long)))

    here : (k : ℕ) → k < 2304 → k % 1152 ≡ t → get_or next k nan ≡ of_both left right k
    here k l s = ⊎_elim (λ e. at_second k (omega arith)) (λ e. at_first k (omega arith)) (eq-zero-or-pos (1152 - k))

    there : (k : ℕ) → (k < 2304 → k % 1152 ≡ t → ⊥) → get_or next k nan ≡ get_or dst k nan
    there k other =
        get_or-set_other first (1152 + t) k (get_or right t nan) nan (λ e. other (omega arith) (omega arith))
        ∙ get_or-set_other dst t k (get_or left t nan) nan (λ e. other (omega arith) (omega arith))

-- the channels past the first two are +0
silent : (a b : Float) (m : ℕ) → 2 ≤ m → m < 5 → zero64 ≡ get_or (a ∷ b ∷ zero64 ∷ zero64 ∷ zero64 ∷ []) m nan
silent a b zero l h = absurd (omega arith)
silent a b (suc zero) l h = absurd (omega arith)
silent a b (suc (suc zero)) l h = refl
silent a b (suc (suc (suc zero))) l h = refl
silent a b (suc (suc (suc (suc zero)))) l h = refl
silent a b (suc (suc (suc (suc (suc m))))) l h = absurd (omega arith)

-- a value of the first two channels, and +0 beyond them, where there are c channels
module _ (c k m : ℕ) (v w : Float) (at : k / 1152 ≡ m) (low : k < 2304 → v ≡ w) (high : 2304 ≤ k → zero64 ≡ w) where
  kept : k < 2304 → (b : Bool) → ltb m c ≡ b → cond (ltb k (1152 * min c 2)) v zero64 ≡ cond b w zero64
  kept h true t =
      let l = ltb-true m c t in
      let q : k < 1152 * min c 2 = omega arith in
      rw (lt-ltb k (1152 * min c 2) q) (low h)
  kept h false t =
      let l = ltb-false m c t in
      let q : 1152 * min c 2 ≤ k = omega arith in
      rw (le-ltb k (1152 * min c 2) q)

  past : 2304 ≤ k → (b : Bool) → cond (ltb k (1152 * min c 2)) v zero64 ≡ cond b w zero64
  past h true = let q : 1152 * min c 2 ≤ k = omega arith in rw (le-ltb k (1152 * min c 2) q) (high h)
  past h false = let q : 1152 * min c 2 ≤ k = omega arith in rw (le-ltb k (1152 * min c 2) q)

  at_most_two : cond (ltb k (1152 * min c 2)) v zero64 ≡ cond (ltb m c) w zero64
  at_most_two = ⊎_elim (λ e. past (omega arith) (ltb m c)) (λ e. kept (omega arith) (ltb m c) refl) (eq-zero-or-pos (2304 - k))

-- both channels as they are, and +0 beyond them
pub base-laid : (x : Mix) (left right d : List Float) → beyond (min x.channels 2) (filled (of_both left right) 2304 d) ≡ base_alone x left right
unfolding beyond base_alone
base-laid x left right d =
    tab-same 5760 (λ k h.
    at_most_two x.channels k (k / 1152) _ _ refl (λ l. get_or-filled nan (of_both left right) 2304 k d l) (λ l. silent _ _ (k / 1152) (omega arith) (omega arith)))

alone-by-mix :
    (x : Mix) (tcs : List ℕ) (left right work : List Float)
    → x.main ≡ main_of x.pair
    → x.main ≡ 0
    → x.second_stereo ≡ false
    → base_alone x left right ≡ output_by x tcs left right work
unfolding base_alone output_by second_by
alone-by-mix x tcs left right work m z n =
    tab-same 5760 (λ k h.
    let j = k % 1152 in
    rw (n, unmixed x.procedure (get_or tcs (j % 32) 0) (get_or left j nan) (get_or right j nan) (main_by x work 0 j) (main_by x work 1 j) (main_by x work 2 j) x.pair (sym m ∙ z)))

pub alone-written :
    (s : McSettings) (b : Base) (work : List Float) {x : Mix} {first second output : List Float}
    → x ≡ mix_of s
    → x.main ≡ 0
    → x.second_stereo ≡ false
    → first ≡ b.scaled_left
    → second ≡ chosen (base_for s 1) b.scaled_left b.scaled_right
    → output ≡ base_alone x first second
    → output ≡ output_of s b work
alone-written s b work {x} {first} {second} ex main alone ef es e =
    output-written s b work ex refl es (e ∙ (rw ef (alone-by-mix x (tcs_of s.status.tc_allocation) b.scaled_left second work (rw ex) main alone)))

-- A desk's tally after a sequence is its tally before and the frames that it had accepted, up to the top.
use Rattle.std.specs.Prelude.{◌≡◌, refl, Bool, true, false, cond, List, [], ◌∷◌, ℕ, ◌+◌, ◌≤◌, ◌<◌, eqb, ltb, length}
use Rattle.std.proofs.Common.{sym, ◌∙◌, arith, leb-true, lt-ltb, le-ltb, eq-eqb, ne_eqb, length-set, get_or-set_same, get_or-set_other}
use Rattle.std.proofs.Math.Decide.{dec_lt, ℕ_discrete}
use Rattle.mc_base.specs.Base.{Base}
use Rattle.mc_state.specs.declared.McDecodeState.{McDecodeState}
use Rattle.mc_state.specs.Desk.{top, one_more, tally_at, tallied}
use Rattle.mc_state.specs.Frame.{Verdict, refusal, changed, frame, verdict_of, answer_of, state_of, frame_of}
use Rattle.mc_state.specs.Reel.{Call, calling, state_after, capped, one, accepted_at, OwnTally}

-- ---- sums up to the top

capped-low : (n : ℕ) → n ≤ top → capped n ≡ n
capped-low n h = go (dec_lt n top)
  where
    go : Dec (n < top) → capped n ≡ n
    go (yes k) = rw (lt-ltb n top k)
    go (no k) = let e : n ≡ top = omega arith in rw e

capped-most : (n : ℕ) → capped n ≤ top
capped-most n = go (dec_lt n top)
  where
    go : Dec (n < top) → capped n ≤ top
    go (yes k) = rw (lt-ltb n top k) (omega arith)
    go (no k) = rw (le-ltb n top (omega arith)) (omega arith)

capped-add : (n m : ℕ) → capped (capped n + m) ≡ capped (n + m)
capped-add n m = go (dec_lt n top)
  where
    go : Dec (n < top) → capped (capped n + m) ≡ capped (n + m)
    go (yes k) = rw (lt-ltb n top k)
    go (no k) =
        let a : ltb (top + m) top ≡ false = le-ltb (top + m) top (omega arith) in
        let b : ltb (n + m) top ≡ false = le-ltb (n + m) top (omega arith) in
        rw (le-ltb n top (omega arith), a, b)

one-more-capped : (n : ℕ) → n ≤ top → one_more n ≡ capped (n + 1)
one-more-capped n h = go (dec_lt n top)
  where
    go : Dec (n < top) → one_more n ≡ capped (n + 1)
    go (yes k) = rw (lt-ltb n top k) (sym (capped-low (n + 1) (omega arith)))
    go (no k) = let b : ltb (n + 1) top ≡ false = le-ltb (n + 1) top (omega arith) in rw (le-ltb n top (omega arith), b)

-- ---- one call

-- the tallies after it, of which the desk's has n more
record Counts (desk n : ℕ) (tallies tallies' : List ℕ) : Type 0 where
  long : length tallies' ≡ length tallies
  own : tally_at tallies' desk ≡ capped (tally_at tallies desk + n)

zero-if : (t : Bool) → ◌≡◌ {A = ℕ} (cond t 0 0) 0
zero-if true = refl
zero-if false = refl

module _ (desk : ℕ) (tallies : List ℕ) (inside : desk < length tallies) (small : tally_at tallies desk ≤ top) where
  kept : (n : ℕ) → n ≡ 0 → Counts desk n tallies tallies
  kept n z = let e : tally_at tallies desk + n ≡ tally_at tallies desk = omega arith in record { long = refl; own = rw (e, capped-low (tally_at tallies desk) small) }

  counted : (d : ℕ) → Counts desk (cond (eqb d desk) 1 0) tallies (tallied d tallies)
  counted d = go (ℕ_discrete d desk)
    where
      go : Dec (d ≡ desk) → Counts desk (cond (eqb d desk) 1 0) tallies (tallied d tallies)
      go (yes e) =
          rw (eq-eqb d desk e, e)
          (record {
            long = length-set tallies desk (one_more (tally_at tallies desk));
            own = get_or-set_same tallies desk (one_more (tally_at tallies desk)) 0 inside ∙ one-more-capped (tally_at tallies desk) small;
          })
      go (no e) =
          rw (ne_eqb d desk e)
          (record {
            long = length-set tallies d (one_more (tally_at tallies d));
            own = get_or-set_other tallies d desk (one_more (tally_at tallies d)) 0 (λ q. e (sym q)) ∙ (kept 0 refl).own;
          })

verdict-counts : (v : Verdict) (d desk : ℕ) (base : Base) (st : McDecodeState) → desk < length st.accepted → tally_at st.accepted desk ≤ top
    → Counts desk (cond (eqb d desk) (one (answer_of v)) 0) st.accepted (state_of v d base st).accepted
unfolding state_of answer_of
verdict-counts (refusal x) d desk base st h k = kept desk st.accepted h k _ (zero-if (eqb d desk))
verdict-counts (changed s) d desk base st h k = kept desk st.accepted h k _ (zero-if (eqb d desk))
verdict-counts (frame s c head_used used) d desk base st h k = counted desk st.accepted h k d

call-counts : (c : Call) (desk : ℕ) (st : McDecodeState) → desk < length st.accepted → tally_at st.accepted desk ≤ top
    → Counts desk (cond (eqb c.lent.desk desk) (one (calling c st).answer) 0) st.accepted (calling c st).state.accepted
unfolding frame_of
call-counts c desk st h k = verdict-counts (verdict_of c.lent c.buffers st) c.lent.desk desk c.lent.base st h k

-- ---- a sequence

counts-on : (desk : ℕ) (cs : List Call) (st : McDecodeState) → desk < length st.accepted → tally_at st.accepted desk ≤ top
    → tally_at (state_after cs st).accepted desk ≡ capped (tally_at st.accepted desk + accepted_at desk cs st)
unfolding state_after accepted_at
counts-on desk [] st h k = (kept desk st.accepted h k 0 refl).own
counts-on desk (c ∷ more) st h k =
    let t = call-counts c desk st h k in
    let n = cond (eqb c.lent.desk desk) (one (calling c st).answer) 0 in
    let m = accepted_at desk more (calling c st).state in
    let e : tally_at st.accepted desk + n + m ≡ tally_at st.accepted desk + (n + m) = omega arith in
    counts-on desk more (calling c st).state (rw t.long h) (rw t.own (capped-most (tally_at st.accepted desk + n)))
    ∙ rw t.own (capped-add (tally_at st.accepted desk + n) m ∙ rw e)

pub own-tally : OwnTally
own-tally desk cs st fits t = counts-on desk cs st (omega (arith, leb-true desk _ fits, t.eight)) (t.small desk)

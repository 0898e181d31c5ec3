-- What is said of sequences holds.
use Rattle.std.specs.Prelude.{◌≡◌, Bool, ◌||◌, List, [], ◌∷◌, map, ℕ, ◌≤◌, eqb, leb, Float, length}
use Rattle.std.proofs.Math.Path.{refl}
use Rattle.std.proofs.Common.{sym, ap, ap₂, ◌∙◌, ⊎_elim, arith, le-leb, eqb-true, eq-eqb, ne_eqb}
use Rattle.std.proofs.Math.Bool.{true, false, cond, or-true}
use Rattle.std.proofs.Math.Decide.{ℕ_discrete}
use Rattle.bits.specs.Syntax.{Refusal, plain, Outcome, accepted, refused}
use Rattle.mc_config.specs.Config.{layout_of}
use Rattle.mc_config.proofs.ConfigLaws.{layout-length}
use Rattle.mc_config.specs.declared.McHeader.{McHeader}
use Rattle.mc_fields.specs.declared.McStatus.{McStatus}
use Rattle.mc_fields.proofs.HeadYields.{header-fits}
use Rattle.mc_fields.specs.Lent.{head_of}
use Rattle.mc_fields.proofs.LentLaws.{lent-accepted}
use Rattle.mc_payload.specs.declared.McSettings.{McSettings}
use Rattle.mc_payload.specs.Payload.{Codes}
use Rattle.mc_payload.specs.Places.{config}
use Rattle.mc_payload.specs.Unpack.{settings_of}
use Rattle.mc_payload.proofs.Demand3.Accepted.{second-true}
use Rattle.mc_unpack.specs.Settled.{settled_of}
use Rattle.mc_output.specs.Output.{channels}
use Rattle.mc_base.specs.Base.{Base}
use Rattle.mc_state.specs.declared.McDecodeState.{McDecodeState}
use Rattle.mc_state.specs.Held.{layout_for, held_fits, same_layout, follows, layout_after}
use Rattle.mc_state.proofs.HeldLaws.{layout-for, layout_is, held-some}
use Rattle.mc_state.specs.Desk.{desk_fits}
use Rattle.mc_state.specs.Carry.{carried_over, converted, converted_over}
use Rattle.mc_state.specs.Frame.{Lent, Buffers, Answer, Verdict, refusal, changed, frame, After, settings_for, lent_by, verdict_unpacked, verdict_head, verdict_of, state_of, frame_of, fresh}
use Rattle.mc_state.specs.Demand1.{Left, Written}
use Rattle.mc_state.proofs.Demand1.Holds.{refused-leaves, accepted-writes}
use Rattle.mc_state.specs.Reel.{Call, calling, result_of, results, state_after, state_by, SameReel, NeverTheTally, at_desk, SameButDesk, OtherDesks, NeverTheDesk, Holds, FreshHolds, call, read, carried, reel, ChangedInMidReel, CarriedFresh, ConvertedGoesOn, UnderFirst, Kept, FirstKeeps}

-- ---- one call, from two desks, on two states that differ in the tallies

module _ (history : List Float) (count layout : ℕ) (tallies tallies' : List ℕ) where
  abbrev one : McDecodeState
  one = state_by history count layout tallies

  abbrev other : McDecodeState
  other = state_by history count layout tallies'

  unpacked-same : (s : McSettings) (used : ℕ) (o : Outcome Codes) → verdict_unpacked one s used o ≡ verdict_unpacked other s used o
  unfolding verdict_unpacked
  unpacked-same s used (refused x) = refl
  unpacked-same s used (accepted c n) = refl

  module _ (l : Lent) (desk desk' : ℕ) where
    head-same : (o : Outcome (McHeader × (ℕ × McStatus))) → verdict_head (at_desk desk l) one o ≡ verdict_head (at_desk desk' l) other o
    unfolding verdict_head
    head-same (refused x) = refl
    head-same (accepted (h, (word, status)) used) =
        unpacked-same (settings_for l h status) used (settled_of (settings_for l h status) l.payload l.payload_bits)

    verdict-same : (w : Buffers) → desk_fits desk ≡ desk_fits desk' → verdict_of (at_desk desk l) w one ≡ verdict_of (at_desk desk' l) w other
    unfolding verdict_of lent_by
    verdict-same w e = rw (e, head-same (head_of l.reading l.head l.head_bits l.base_channels))

  state-same : (v : Verdict) (desk desk' : ℕ) (base : Base) → SameReel (state_of v desk base one) (state_of v desk' base other)
  unfolding state_of
  state-same (refusal x) desk desk' base = record { history = refl; count = refl; layout = refl }
  state-same (changed s) desk desk' base = record { history = refl; count = refl; layout = refl }
  state-same (frame s c head_used used) desk desk' base = record { history = refl; count = refl; layout = refl }

record SameCall (a a' : After) : Type 0 where
  result : result_of a ≡ result_of a'
  reel : SameReel a.state a'.state

call_same : (l : Lent) (w : Buffers) (desk desk' : ℕ) (st st' : McDecodeState) → desk_fits desk ≡ desk_fits desk' → SameReel st st'
    → SameCall (frame_of (at_desk desk l) w st) (frame_of (at_desk desk' l) w st')
unfolding frame_of
call_same l w desk desk' st st' e r = go st'.pred_hist st'.layout_len st'.layout r.history r.count r.layout
  where
    go : (history : List Float) (count layout : ℕ) → st.pred_hist ≡ history → st.layout_len ≡ count → st.layout ≡ layout
        → SameCall (frame_of (at_desk desk l) w st) (frame_of (at_desk desk' l) w (state_by history count layout st'.accepted))
    go history count layout eh ec el =
        rw (← eh, ← ec, ← el, verdict-same st.pred_hist st.layout_len st.layout st.accepted st'.accepted l desk desk' w e)
        (record {
          result = refl;
          reel = state-same st.pred_hist st.layout_len st.layout st.accepted st'.accepted (verdict_of (at_desk desk' l) w (state_by st.pred_hist st.layout_len st.layout st'.accepted)) desk desk' l.base;
        })

pub never-the-tally : NeverTheTally
unfolding results state_after
never-the-tally [] st st' r = record { same = refl; after = r }
never-the-tally (c ∷ more) st st' r =
    let a = call_same c.lent c.buffers c.lent.desk c.lent.desk st st' refl r in
    let rest = never-the-tally more (calling c st).state (calling c st').state a.reel in
    record { same = ap₂ ◌∷◌ a.result rest.same; after = rest.after }

desk-same : (c c' : Call) (st st' : McDecodeState) → SameButDesk c c' → SameReel st st' → SameCall (calling c st) (calling c' st')
desk-same c c' st st' f r =
    rw (f.lent, f.buffers) (call_same c'.lent c'.buffers c.lent.desk c'.lent.desk st st' (f.desk ∙ sym f.desk') r)

pub never-the-desk : NeverTheDesk
unfolding results state_after OtherDesks
never-the-desk [] [] st st' f r = record { same = refl; after = r }
never-the-desk [] (c' ∷ more') st st' f r = absurd f
never-the-desk (c ∷ more) [] st st' f r = absurd f
never-the-desk (c ∷ more) (c' ∷ more') st st' f r =
    let a = desk-same c c' st st' f.0 r in
    let rest = never-the-desk more more' (calling c st).state (calling c' st').state f.1 a.reel in
    record { same = ap₂ ◌∷◌ a.result rest.same; after = rest.after }

-- ---- what a call does to the count and the layout

-- by a refusal they stay
record Stays (st st' : McDecodeState) : Type 0 where
  count : st'.layout_len ≡ st.layout_len
  layout : st'.layout ≡ st.layout

refused-stays : (c : Call) (st : McDecodeState) (x : Refusal) → Left x c.lent c.buffers st (calling c st) → Stays st (calling c st).state
refused-stays c st x f = go (ℕ_discrete x.number 5)
  where
    five : x.number ≡ 5 → x ≡ plain 5
    five q = ⊎_elim (λ z. absurd (omega arith)) (λ z. z ∙ ap plain q) f.numbered.bare

    go : Dec (x.number ≡ 5) → Stays st (calling c st).state
    go (yes q) = record { count = (f.stored (five q)).count; layout = (f.stored (five q)).layout }
    go (no q) = rw (f.state (λ z. q (ap (λ (r : Refusal). r.number) z))) (record { count = refl; layout = refl })

-- what an accepted frame was read under
record ReadUnder (l : Lent) (s : McSettings) : Type 0 where
  surround : s.header.surround ≤ 3
  reading : s.reading ≡ l.reading

read_under : (c : Call) (st : McDecodeState) (head_used excess used : ℕ) (w : Written c.lent st head_used excess used (calling c st)) → ReadUnder c.lent w.settings
unfolding settings_of
read_under c st head_used excess used w =
    let l = c.lent in
    let f = w.found in
    let accepted-head = lent-accepted l.reading l.head l.head_bits l.base_channels (f.header, (f.word, f.status)) head_used f.head in
    rw f.settings
    (record {
      surround = (header-fits l.reading l.base_channels l.head l.head_bits 0 f.header f.word f.status head_used accepted-head).surround;
      reading = refl;
    })

-- ---- what is held is a count, and a layout of that count

module _ (s : McSettings) where
  count_low : leb (channels s) 5 ≡ true
  count_low = le-leb (channels s) 5 (layout-length (config s)).1

  -- a frame's own
  own-fits : s.header.surround ≤ 3 → held_fits (channels s) (layout_for s) ≡ true
  own-fits h =
      rw (count_low, layout_is s h, layout-for s h, eq-eqb (channels s) (length (layout_of (config s))) refl) (or-true (eqb (layout_for s) 0))

  -- one that reading 1 leaves
  kept-fits : (count layout : ℕ) → held_fits count layout ≡ true → (eqb count 0 || eqb count (channels s)) ≡ true → held_fits (channels s) layout ≡ true
  kept-fits count layout e f = go (ℕ_discrete layout 0)
    where
      go : Dec (layout ≡ 0) → held_fits (channels s) layout ≡ true
      go (yes z) = rw (z, count_low)
      go (no z) =
          let same : count ≡ channels s = eqb-true count (channels s) (second-true (eqb count 0) _ f (ne_eqb count 0 (held-some count layout e z))) in
          rw (← same) e

  after-fits : (count layout : ℕ) → s.header.surround ≤ 3 → held_fits count layout ≡ true → follows count layout s ≡ true
      → held_fits (channels s) (layout_after s.reading layout (layout_for s)) ≡ true
  unfolding follows
  after-fits count layout h e f = go (eqb s.reading 2) f
    where
      go : (t : Bool) → (eqb count 0 || cond t (same_layout count layout (channels s) (layout_for s)) (eqb count (channels s))) ≡ true
          → held_fits (channels s) (cond t (layout_for s) layout) ≡ true
      go true f = own-fits h
      go false f = kept-fits count layout e f

pub held-fits : (c : Call) (st : McDecodeState) → Holds st → Holds (calling c st).state
held-fits c st e = go (calling c st).answer refl
  where
    go : (o : Answer) → (calling c st).answer ≡ o → Holds (calling c st).state
    go (refused x) q = let k = refused-stays c st x (refused-leaves c.lent c.buffers st x q) in rw (k.count, k.layout) e
    go (accepted (head_used, excess) used) q =
        let w = accepted-writes c.lent c.buffers st head_used excess used q in
        let u = read_under c st head_used excess used w in
        rw (w.count, w.layout) (after-fits w.settings st.layout_len st.layout u.surround e w.allowed)

-- ---- one change

reel-calls : (cs : List Call) (st : McDecodeState) → reel (map call cs) st ≡ map read (results cs st)
unfolding reel results
reel-calls [] st = refl
reel-calls (c ∷ more) st = ap (λ t. read (result_of (calling c st)) ∷ t) (reel-calls more (calling c st).state)

pub changed-in-mid-reel : ChangedInMidReel
unfolding reel results state_after carried_over
changed-in-mid-reel [] after st tallies e =
    let h = st.pred_hist in
    let k = st.layout_len in
    let a = never-the-tally after (state_by h k 0 st.accepted) (state_by h k 0 tallies) (record { history = refl; count = refl; layout = refl }) in
    rw e (ap (λ t. carried 0 ∷ t) (reel-calls after (state_by h k 0 st.accepted) ∙ ap (map read) a.same))
changed-in-mid-reel (c ∷ before) after st tallies e =
    ap (λ t. read (result_of (calling c st)) ∷ t) (changed-in-mid-reel before after (calling c st).state tallies (held-fits c st e))

pub fresh_holds : FreshHolds
unfolding fresh
fresh_holds = refl

pub carried-fresh : CarriedFresh
unfolding carried_over fresh
carried-fresh cs st tallies e z =
    rw (e, z) (never-the-tally cs (state_by st.pred_hist 0 0 st.accepted) (state_by st.pred_hist 0 0 tallies) (record { history = refl; count = refl; layout = refl }))

pub converted-goes-on : ConvertedGoesOn
unfolding converted_over
converted-goes-on cs history count layout tally st tallies long e =
    rw (eq-eqb (length history) 576 long, e)
    (never-the-tally cs (converted history count layout tally) (state_by history count layout tallies) (record { history = refl; count = refl; layout = refl }))

-- ---- calls under reading 1

accepted-keeps : (s : McSettings) (count layout : ℕ) → s.reading ≡ 1 → follows count layout s ≡ true → (count ≡ 0 → ⊥) → channels s ≡ count
unfolding follows
accepted-keeps s count layout e f z = let g = rw e at f in sym (eqb-true count (channels s) (second-true (eqb count 0) _ g (ne_eqb count 0 z)))

call-keeps : (c : Call) (st : McDecodeState) → c.lent.reading ≡ 1 → Kept st (calling c st).state
call-keeps c st e = go (calling c st).answer refl
  where
    go : (o : Answer) → (calling c st).answer ≡ o → Kept st (calling c st).state
    go (refused x) q = let k = refused-stays c st x (refused-leaves c.lent c.buffers st x q) in record { layout = k.layout; count = λ z. k.count }
    go (accepted (head_used, excess) used) q =
        let w = accepted-writes c.lent c.buffers st head_used excess used q in
        let r : w.settings.reading ≡ 1 = (read_under c st head_used excess used w).reading ∙ e in
        record {
          layout = w.layout ∙ rw r;
          count = λ z. w.count ∙ accepted-keeps w.settings st.layout_len st.layout r w.allowed z;
        }

pub first-keeps : FirstKeeps
unfolding UnderFirst state_after
first-keeps [] st u = record { layout = refl; count = λ z. refl }
first-keeps (c ∷ more) st u =
    let k = call-keeps c st u.0 in
    let rest = first-keeps more (calling c st).state u.1 in
    record {
      layout = rest.layout ∙ k.layout;
      count = λ z. rest.count (λ q. z (sym (k.count z) ∙ q)) ∙ k.count z;
    }

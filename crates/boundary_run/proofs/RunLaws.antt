-- What a frame call leaves is what is found.
use Rattle.std.specs.Prelude.{◌≡◌, Bool, ◌&&◌, List, [], ◌∷◌, ℕ, ◌+◌, eqb, Float, length, get_or, take, replicate}
use Rattle.std.proofs.Common.{refl, sym, ap, ◌∙◌, arith, eq-eqb, ne_eqb}
use lib.Pointwise.{pointwise}
use Rattle.fill.specs.Each.{each}
use Rattle.boundary_look.proofs.LookLaws.{each-first}
use Rattle.mc_base.specs.Base.{second_length}
use Rattle.mc_state.specs.Answer.{after_of}
use Rattle.mc_state.specs.Frame.{Buffers, After, frame_of}
use Rattle.mc_state.specs.declared.Framed.{Framed}
use Rattle.mc_state.specs.declared.McDecodeState.{McDecodeState}
use Rattle.boundary_run.specs.Loan.{ramp_of}
use Rattle.boundary_look.specs.Look.{all_are, is_stored}
use Rattle.boundary_run.specs.Run.{one64, lent_by, ones, after_run, stored_by, same_counts, FoundIs}
use Rattle.boundary_run.specs.declared.loan.Loan.{Loan}

pub is-run : (loan : Loan) (state : McDecodeState) (left right : List Float) (n m : ℕ) (a : After) → left ≡ ramp_of loan.left → right ≡ ramp_of loan.right → n ≡ second_length loan.base_channels 1152 → m ≡ second_length loan.base_channels 32
    → a ≡ frame_of (lent_by loan left (take n right) (take (32 + m) (replicate 64 0))) ones state → a ≡ after_run loan state
unfolding after_run
is-run loan state left right n m a el er en em e = rw (el, er, en, em) at e

pub found-is : (after : After) (framed : Framed) (w : Buffers) (raw work output lfe : List Float) (k1 k2 k3 k4 : Bool) → after_of framed w ≡ after
    → raw ≡ w.raw → work ≡ w.work → output ≡ w.output → lfe ≡ w.lfe
    → k1 ≡ all_are raw one64 → k2 ≡ all_are work one64 → k3 ≡ all_are output one64 → k4 ≡ all_are lfe one64
    → FoundIs after (record { answer = framed.answer; state = framed.state; kept = ((k1 && k2) && k3) && k4; output = output })
found-is after framed w raw work output lfe k1 k2 k3 k4 e er ew eo el e1 e2 e3 e4 =
    record {
      answer = ap (λ (a : After). a.answer) e;
      state = ap (λ (a : After). a.state) e;
      output = eo ∙ ap (λ (a : After). a.buffers.output) e;
      kept = rw (e1, e2, e3, e4, er, ew, eo, el) (ap (λ (a : After). ((all_are a.buffers.raw one64 && all_are a.buffers.work one64) && all_are a.buffers.output one64) && all_are a.buffers.lfe one64) e);
    }

pub stored-mono : (loan : Loan) (history left : List Float) (r : Bool) → loan.base_channels ≡ 1 → left ≡ ramp_of loan.left → r ≡ is_stored history left left → r ≡ stored_by loan history
unfolding stored_by
stored-mono loan history left r h e q = simp (eq-eqb _ _ h) (q ∙ rw e)

pub stored-stereo : (loan : Loan) (history left right : List Float) (r : Bool) → (loan.base_channels ≡ 1 → ⊥) → left ≡ ramp_of loan.left → right ≡ ramp_of loan.right → r ≡ is_stored history left right → r ≡ stored_by loan history
unfolding stored_by
stored-stereo loan history left right r h e p q = simp (ne_eqb _ _ h) (q ∙ rw (e, p))

-- lists of the same length are equal exactly where each of their elements is
pub pointwise-each : (xs ys : List ℕ) → length xs ≡ length ys → pointwise eqb xs ys ≡ each (λ k. eqb (get_or xs k 0) (get_or ys k 0)) (length xs)
unfolding each
pointwise-each [] [] e = refl
pointwise-each [] (y ∷ ys) e = absurd (omega arith)
pointwise-each (x ∷ xs) [] e = absurd (omega arith)
pointwise-each (x ∷ xs) (y ∷ ys) e = ap (λ b. eqb x y && b) (pointwise-each xs ys (omega arith)) ∙ sym (each-first (λ k. eqb (get_or (x ∷ xs) k 0) (get_or (y ∷ ys) k 0)) (length xs))

pub tallies-same : (before after : McDecodeState) → length before.accepted ≡ 8 → length after.accepted ≡ 8 → before.layout_len ≡ after.layout_len → before.layout ≡ after.layout
    → pointwise eqb before.accepted after.accepted ≡ same_counts before after
tallies-same before after b a e q =
    simp (eq-eqb _ _ e, eq-eqb _ _ q) (pointwise-each before.accepted after.accepted (b ∙ sym a) ∙ ap (each (λ k. eqb (get_or before.accepted k 0) (get_or after.accepted k 0))) b)

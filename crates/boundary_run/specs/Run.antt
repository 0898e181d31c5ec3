-- A frame call on what a loan lends, and what is found after it.
use Rattle.std.specs.Prelude.{◌≡◌, Bool, ◌&&◌, cond, List, ℕ, ◌+◌, eqb, Float, take, replicate}
use Rattle.std.specs.Float.{binary64}
use Rattle.std.specs.Float.Ieee.{of_bits}
use Rattle.fill.specs.Each.{each}
use Rattle.mc_base.specs.Base.{base_from, second_length}
use Rattle.mc_state.specs.Answer.{lent_of, buffers_from, outcome_of}
use Rattle.mc_state.specs.Desk.{tally_at}
use Rattle.mc_state.specs.Frame.{Lent, Buffers, After, frame_of}
use Rattle.mc_state.specs.declared.McDecodeState.{McDecodeState}
use Rattle.boundary_run.specs.Loan.{ramp_of}
use Rattle.boundary_look.specs.Look.{all_are, is_stored}
use Rattle.boundary_run.specs.declared.loan.Loan.{Loan}
use Rattle.boundary_run.specs.declared.run.Found.{Found}

abbrev pub one64 : Float
one64 = of_bits binary64 0x3FF0000000000000

-- the loan with these base channels, raw and scaled, and base step counts
abbrev pub lent_by : Loan → List Float → List Float → List ℕ → Lent
lent_by loan left right base_steps =
    lent_of loan.head loan.head_bits loan.payload loan.payload_bits loan.reading loan.desk loan.rate loan.base_channels (base_from left right left right) base_steps loan.lfe_allocation loan.steps

-- buffers that hold 1 throughout
abbrev pub ones : Buffers
ones = buffers_from (replicate 3456 one64) (replicate 3456 one64) (replicate 5760 one64) (replicate 12 one64)

-- the call on the loan's base values, without base step counts
unfoldable pub after_run : Loan → McDecodeState → After
after_run loan state =
    let b = loan.base_channels in
    frame_of (lent_by loan (ramp_of loan.left) (take (second_length b 1152) (ramp_of loan.right)) (take (32 + second_length b 32) (replicate 64 0))) ones state

-- the history is of the loan's base; one base channel stands in both halves
unfoldable pub stored_by : Loan → List Float → Bool
stored_by loan history =
    is_stored history (ramp_of loan.left) (cond (eqb loan.base_channels 1) (ramp_of loan.left) (ramp_of loan.right))

-- the tallies of all desks are the same
abbrev pub same_tallies : List ℕ → List ℕ → Bool
same_tallies xs ys = each (λ desk. eqb (tally_at xs desk) (tally_at ys desk)) 8

-- count, layout and tallies are the same
abbrev pub same_counts : McDecodeState → McDecodeState → Bool
same_counts before after =
    eqb before.layout_len after.layout_len && (eqb before.layout after.layout && same_tallies before.accepted after.accepted)

-- answer, state and output are the call's; `kept` says whether its buffers are the ones before it
pub record FoundIs (a : After) (r : Found) : Type 0 where
  pub answer : outcome_of r.answer ≡ a.answer
  pub state : r.state ≡ a.state
  pub output : r.output ≡ a.buffers.output
  pub kept : r.kept ≡ ((all_are a.buffers.raw one64 && all_are a.buffers.work one64) && all_are a.buffers.output one64) && all_are a.buffers.lfe one64

-- What becomes of a frame of a file: the state is carried where the frame asks for it, then comes the frame call on buffers of zeros. Definitions only.
use Rattle.std.specs.Prelude.{cond, List, ℕ, Bool, true, false, eqb, ltb, replicate, set}
use Rattle.bits.specs.Syntax.{accepted, refused}
use Rattle.floats.specs.Binary64.{zero64}
use Rattle.mc_state.specs.Answer.{buffers_from}
use Rattle.mc_state.specs.Carry.{carried_over}
use Rattle.mc_state.specs.Frame.{Answer, After, frame_of}
use Rattle.mc_state.specs.declared.McDecodeState.{McDecodeState}
use Rattle.mcread.specs.declared.input.Step.{Step}
use Rattle.frame_file.specs.declared.numbers.Numbers.{Numbers}
use Rattle.frame_body.specs.Lent.{lent_in}

-- a refused carrying leaves the state
abbrev pub before_frame : Numbers → McDecodeState → McDecodeState
before_frame n state = cond (eqb n.carried 1) (carried_over state).state state

abbrev pub after_frame : Numbers → List ℕ → McDecodeState → After
after_frame n body state = frame_of (lent_in n body) (buffers_from (replicate 3456 zero64) (replicate 3456 zero64) (replicate 5760 zero64) (replicate 12 zero64)) (before_frame n state)

abbrev pub is_accepted : Answer → Bool
is_accepted (accepted (head_bits, excess_codes) payload_bits) = true
is_accepted (refused r) = false

-- what became of a frame, and its desk; the next one follows on the state `a.state`
abbrev pub step_of : Numbers → After → Step
step_of n a = record { accepted = is_accepted a.answer; desk = n.desk }

-- the desks that frames name, with one more; above 7 there is none
abbrev pub marked_of : List Bool → ℕ → List Bool
marked_of desks desk = cond (ltb desk 8) (set desks desk true) desks

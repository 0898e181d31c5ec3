-- What a desk does to a frame call: one above 7 is refused after a wrong loan and before all else, and nothing is changed.
use Rattle.std.specs.Prelude.{◌≡◌, true, false}
use Rattle.bits.specs.Syntax.{plain}
use Rattle.mc_state.specs.declared.McDecodeState.{McDecodeState}
use Rattle.mc_state.specs.Desk.{desk_fits}
use Rattle.mc_state.specs.Frame.{Lent, Buffers, lent_fits, verdict_of, answer_of, buffers_of, state_of, frame_of}
use Rattle.mc_state.proofs.ReadingLaws.{stopped_by}

module _ (l : Lent) (w : Buffers) (st : McDecodeState) where
  -- whatever the desk
  pub wrong-loan : lent_fits l w st ≡ false → frame_of l w st ≡ stopped_by (plain 6) w st
  unfolding frame_of verdict_of answer_of buffers_of state_of
  wrong-loan e = rw e

  -- whatever the values and the strings
  pub wrong-desk : lent_fits l w st ≡ true → desk_fits l.desk ≡ false → frame_of l w st ≡ stopped_by (plain 14) w st
  unfolding frame_of verdict_of answer_of buffers_of state_of
  wrong-desk fits e = rw (fits, e)

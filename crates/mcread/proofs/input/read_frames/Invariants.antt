-- `mcread::input::read_frames` is safe and ends: no more frames are accepted than were read.
use Rattle.std.proofs.Common.{◌≤◌}
use Rattle.mcread.proofs.input.read_frames.Given as goal

abbrev pub invariant-loop-k : goal.invariant-loop-k
invariant-loop-k g l = l.accepted ≤ l.k

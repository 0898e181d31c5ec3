-- `boundary_run::string::put` meets its contract: what is left to put into the places so far is the whole.
use Rattle.std.proofs.Common.{◌≡◌, length}
use Rattle.boundary_run.specs.String.{put_bits}
use Rattle.boundary_run.proofs.string.put.Given as goal

abbrev pub invariant-loop-k : goal.invariant-loop-k
invariant-loop-k l = (length l.out ≡ length l.initial.out) × (put_bits l.initial.out l.at l.n l.value ≡ put_bits l.out l.at l.k l.rest)

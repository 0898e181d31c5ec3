-- `hash::hash_floats` meets its contract.
use mathlib.Core.Path.{◌≡◌, ◌∙◌}
use Prim.Native.Nat.{ℕ}
use lib.Ieee.{Float}
use Rattle.std.proofs.Common.{rules}
use Rattle.std.proofs.iter.runs.Made.{chains}
use Rattle.std.specs.Prelude.{fold}
use Rattle.std.specs.Float.{binary64}
use Rattle.std.specs.Float.Ieee.{to_bits}
use Rattle.encoding.specs.Encoding.{hash_number}
use Rattle.encoding.proofs.EncodingLaws.{floats-folded}
use Rattle.hash.proofs.hash_floats.Goals as goal

pub returns : goal.returns
returns c =
    let folded : c.fold.result ≡ fold (λ (h : ℕ) (x : Float). hash_number h (to_bits binary64 x)) c.args.h c.args.xs.now = search (rules, chains) in
    folded ∙ floats-folded c.args.h c.args.xs.now

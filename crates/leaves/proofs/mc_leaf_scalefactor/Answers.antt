-- `leaves::mc_leaf_scalefactor` meets its contract: past the table's end there is nothing to get.
use mathlib.Core.Path.{◌≡◌, refl, ◌∙◌}
use mathlib.Core.Bool.{Bool, true, false, not, cond}
use Prim.Native.Nat.{ℕ, ◌≤◌, ◌<◌}
use lib.Dec.{T, ltb, ltb→lt, nltb→le}
use lib.Ieee.{of_bits}
use lib.ListN.{get_or, get_or-eq_default}
use Rattle.std.proofs.Common.{rules}
use Rattle.tables.specs.Scalefactor.{numerators, scalefactors, scalefactor_of}
use Rattle.tables.proofs.Lookup.{scalefactors-at}
use Rattle.leaves.specs.Leaves.{plus_zero, scalefactor_leaf}
use Rattle.leaves.proofs.mc_leaf_scalefactor.Goals as goal

got : (index : ℕ) → get_or scalefactors index plus_zero ≡ scalefactor_leaf index
unfolding scalefactors numerators
got index = go (ltb index 63) (ltb→lt index 63) (nltb→le index 63)
  where
    go : (b : Bool) → (T b → index < 63) → (T (not b) → 63 ≤ index) → get_or scalefactors index plus_zero ≡ cond b (scalefactor_of index) plus_zero
    go true h g = scalefactors-at scalefactors plus_zero index refl (h tt)
    go false h g = get_or-eq_default scalefactors plus_zero (g tt)

pub returns : goal.returns
unfolding of_bits
returns c =
    let found : c.unwrap_or.result ≡ get_or scalefactors c.args.index plus_zero = search rules in
    found ∙ got c.args.index

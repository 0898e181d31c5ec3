-- `mc_allocations::allocations::allocations_fit` meets its contract.
use Rattle.std.proofs.Common.{rules, eq-eqb, ne_eqb}
use Rattle.mc_payload.specs.Unpack.{allocations_fit}
use Rattle.mc_allocations.proofs.AllocationsLaws.{all-fit}
use Rattle.mc_allocations.proofs.allocations.allocations_fit.Goals as goal

pub returns-then-s-eq0 : goal.returns-then-s-eq0
unfolding allocations_fit
returns-then-s-eq0 c = rw (all-fit c.args.s.now _ c.requires (search rules) _ _ c.all_fit.ensures c.if-all_fit.true, eq-eqb _ 0 c.if-s-eq0.true)

pub returns-else-s-eq0 : goal.returns-else-s-eq0
unfolding allocations_fit
returns-else-s-eq0 c = rw (all-fit c.args.s.now _ c.requires (search rules) _ _ c.all_fit.ensures c.if-all_fit.true, ne_eqb _ 0 c.if-s-eq0.false)

pub returns-else-all_fit : goal.returns-else-all_fit
unfolding allocations_fit
returns-else-all_fit c = rw (all-fit c.args.s.now _ c.requires (search rules) _ _ c.all_fit.ensures c.if-all_fit.false) c.if-all_fit.false

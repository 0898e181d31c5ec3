-- `parts::unpack::mc_part_unpack` meets its contract.
use Rattle.part_tables.proofs.PayloadLaws.{after-lent}
use Rattle.parts.proofs.unpack.mc_part_unpack.Goals as goal

pub returns-then-not-lent_fits : goal.returns-then-not-lent_fits
returns-then-not-lent_fits c = rw c.packed.ensures (after-lent _ _ _ c.lent_fits.ensures c.if-not-lent_fits.true)

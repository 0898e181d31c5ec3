-- `mc_samples::samples::write_lfe` meets its contract.
use Rattle.std.proofs.Common.{rules, get_or, ◌*◌}
use Rattle.std.specs.Float.{nan}
use Rattle.fill.proofs.FromFn.{tab-made}
use Rattle.mc_values.specs.Values.{lfe_by, lfe_from}
use Rattle.mc_samples.proofs.samples.write_lfe.Goals as goal

pub returns : goal.returns
unfolding lfe_from
returns c = let a = c.args in tab-made nan (λ gr. lfe_by a.lfe.value a.lf_scalefactor (get_or a.granules.now (289 * gr) 0)) c.from_fn.ensures.items (λ i low x after called. (search rules, search rules))

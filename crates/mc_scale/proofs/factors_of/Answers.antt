-- `mc_scale::factors_of` meets its contract.
use Rattle.std.proofs.Common.{rules, get_or}
use Rattle.std.specs.Float.{nan}
use Rattle.tables.specs.Scalefactor.{scalefactor_of}
use Rattle.tables.proofs.Lookup.{scalefactors-at}
use Rattle.mc_scale.specs.Code.ScaleByPlace.{factors_of}
use Rattle.fill.proofs.FromFn.{tab-made}
use Rattle.mc_scale.proofs.factors_of.Goals as goal

pub returns : goal.returns
unfolding factors_of
returns c =
    let table = c.scalefactor_table-table.ensures in
    tab-made nan (λ i. scalefactor_of (get_or c.args.scalefactor.now i 0)) c.from_fn.ensures.items
    (λ i low x after called. let here = scalefactors-at _ nan _ table (c.requires i low) in (search rules, search rules))

-- `mc_predictors::predictable_channels` meets its contract.
use Rattle.std.proofs.Common.{◌∙◌, ap, refl, get_or, [], List, ℕ}
use Rattle.mc_config.proofs.RowsLaws.{row-or-none}
use Rattle.mc_crosstalk.proofs.PredictorsLaws.{predictable-agrees}
use Rattle.mc_crosstalk.specs.Predictors.{predictable_table}
use Rattle.mc_predictors.proofs.predictable_channels.Goals as goal

pub returns : goal.returns
unfolding predictable_table
returns c =
    let mode = c.args.mode in
    row-or-none c.predictable_rows.result.now mode c.get.result (rw c.from.ensures at c.get.ensures.lookup) c.copied.result c.copied.ensures c.unwrap_or.result _ c.unwrap_or.ensures refl
    ∙ ap (λ (rows : List (List ℕ)). get_or rows mode []) c.predictable_rows.ensures
    ∙ predictable-agrees c.args.pair mode

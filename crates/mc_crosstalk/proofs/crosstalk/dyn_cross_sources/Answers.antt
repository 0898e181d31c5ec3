-- `mc_crosstalk::crosstalk::dyn_cross_sources` meets its contract.
use Rattle.std.proofs.Common.{◌∙◌, ap, option_map, slice_get, Bor, List, ℕ}
use Rattle.mc_config.proofs.RowsLaws.{got-row, row-found}
use Rattle.mc_crosstalk.specs.Crosstalk.{listed, sources_of, source_rows}
use Rattle.mc_crosstalk.proofs.crosstalk.dyn_cross_sources.Goals as goal

pub returns : goal.returns
unfolding listed sources_of
returns c =
    let mode = c.args.mode in
    ap (option_map (λ (row : Bor (List ℕ)). row.now)) c.copied.ensures
    ∙ got-row c.source_rows.result.now mode c.get.result (rw c.from.ensures at c.get.ensures.lookup)
    ∙ ap (λ rows. slice_get rows mode) c.source_rows.ensures
    ∙ row-found (source_rows c.args.pair) mode

-- For every configuration and code the standard's tables agree with the rule: predicted are the transmitted main channels that no other copies.
use Rattle.std.specs.Prelude.{◌≡◌, ℕ, ◌*◌, length}
use Rattle.mc_crosstalk.specs.Crosstalk.{sources1, sources2, sources3, predicted_in, predicted_of, predictors_of}
use Rattle.mc_crosstalk.proofs.CrosstalkLaws.{sources-map}
use Rattle.mc_crosstalk.specs.Predictors.{npred1, npred2, npred3, npred_table, predictable1, predictable2, predictable3, predictable_table}

pub npred-agrees : (pair mode : ℕ) → npred_table pair mode ≡ predictors_of pair mode
unfolding npred_table npred1 npred2 npred3 predictors_of predicted_of sources1 sources2 sources3
npred-agrees = sources-map (λ row. 2 * length (predicted_in row))

pub predictable-agrees : (pair mode : ℕ) → predictable_table pair mode ≡ predicted_of pair mode
unfolding predictable_table predictable1 predictable2 predictable3 predicted_of sources1 sources2 sources3
predictable-agrees = sources-map predicted_in

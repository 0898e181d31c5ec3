-- `mc_status::status::predictors_if` meets its contract.
use Rattle.mc_crosstalk.proofs.CrosstalkLaws.{predictors-most}
use Rattle.mc_status.proofs.status.predictors_if.Goals as goal

pub returns-then-flag-clause-most : goal.returns-then-flag-clause-most
returns-then-flag-clause-most c = rw c.npred_for.ensures (predictors-most _ _)

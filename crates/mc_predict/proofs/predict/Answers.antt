-- `mc_predict::predict` meets its contract.
use Rattle.mc_predict.proofs.predict.Goals as goal

pub returns : goal.returns
returns c = rw (c.both.ensures.left, c.both.ensures.right) at c.predict_of_both.ensures

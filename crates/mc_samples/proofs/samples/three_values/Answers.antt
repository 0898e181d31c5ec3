-- `mc_samples::samples::three_values` meets its contract.
use Rattle.mc_samples.proofs.SamplesWritten.{three_made}
use Rattle.mc_samples.proofs.samples.three_values.Goals as goal

pub returns : goal.returns
returns c = (search three_made, c.three_codes-three.ensures.1)

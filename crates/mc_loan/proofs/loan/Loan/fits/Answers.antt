-- `mc_loan::loan::Loan::fits` meets its contract.
use Rattle.std.specs.Prelude.{◌≡◌, length, get_or}
use Rattle.std.proofs.Common.{arith, ◌∙◌}
use Rattle.std.proofs.lemmas.Grind.{common_steps}
use Rattle.fill.specs.Each.{each}
use Rattle.fill.proofs.AllLaws.{all_each}
use Rattle.mc_payload.specs.Unpack.{steps_fit, loan_fits}
use Rattle.mc_loan.proofs.loan.Loan.fits.Goals as goal

pub returns-then-self-from : goal.returns-then-self-from
unfolding loan_fits
returns-then-self-from c =
    let base = c.args.self.now.base_nb_steps.now in
    let e : c.all_fit.result ≡ each (λ k. steps_fit (get_or base k 0)) (length base) = c.all_fit.ensures ∙ all_each steps_fit 0 base in
    grind (arith, common_steps)

-- What a payload is read under, as lent, with its head.
use Rattle.mc_config.specs.declared.McHeader.{McHeader}
use Rattle.mc_fields.specs.declared.McStatus.{McStatus}
use Rattle.mc_payload.specs.Unpack
use Rattle.mc_payload.specs.Unpack.{loan_by}
use Rattle.mc_loan.specs.declared.loan.Loan.{Loan}

abbrev pub loan_with : Loan → McHeader → McStatus → Unpack.Loan
loan_with l header status = loan_by l.reading l.rate l.base_channels header status l.lfe_allocation l.nb_steps.now l.base_nb_steps.now

-- `mc_body::write::finish_payload` meets its contract.
use Rattle.mc_codes.specs.Outcome.{codes_of}
use Rattle.mc_body.proofs.WriteLaws.{tables, record-fits, work-written}
use Rattle.mc_body.proofs.write.finish_payload.Goals as goal

pub finish-requires : goal.finish-requires
finish-requires c =
    let p = c.requires.recorded in
    record {
      tables = tables c.args.s.now c.args.p.now p.1;
      record_fits = record-fits c.args.s.now c.args.p.now p.1 p.2 p.3 _ p.0 _ c.delays-d.ensures _;
      base_fits = c.requires.base_fits;
    }

pub returns : goal.returns
returns c =
    (work-written c.args.s.now (codes_of c.args.p.now.codes) _ _ _ _ _ _ c.requires.recorded.0 c.delays-d.ensures c.coefs-c.ensures c.finish.ensures.work, c.finish.ensures.output)

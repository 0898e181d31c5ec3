-- `mc_finish::finish` meets its contract: scaling, prediction and output, one after the other.
use Rattle.std.specs.Prelude.{refl}
use Rattle.mc_base.specs.Base.{lent}
use Rattle.mc_finish.specs.Finish.{record_from}
use Rattle.mc_finish.proofs.Laws.Finish.{sources-small, bases-long, work-finished}
use Rattle.mc_finish.proofs.finish.Goals as goal

pub scale-requires : goal.scale-requires
scale-requires c =
    let a = c.args in
    let p = c.requires in record {
      source_small = λ i h. rw p.tables.source_are (sources-small a.s.now i h);
      base_long = λ i h. rw p.tables.base_are (bases-long a.s.now (lent a.base) p.base_fits i h);
      factor_listed = p.record_fits.listed;
    }

pub returns : goal.returns
returns c =
    let a = c.args in
    let r = record_from a.raw.now a.scalefactor.now a.delays.now a.coefs.now in record {
      work = work-finished a.s.now r (lent a.base) a.history.now c.requires.tables c.scale.ensures.scaled c.predict.ensures;
      output = c.write_output.ensures (lent a.base) refl refl;
    }

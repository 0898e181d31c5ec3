-- `mc_unpack::entry::McPayload::write_samples` meets its contract.
use Rattle.mc_unpack.proofs.SamplesLaws.{raw-ready, raw-written, lfe-written, excesses-counted}
use Rattle.mc_unpack.proofs.entry.McPayload.write_samples.Goals as goal

pub write_lfe-requires : goal.write_lfe-requires
write_lfe-requires c = let w = c.requires.2 in record { scalefactor_bound = w.lf_factor; lfe_fits = w.lfe }

pub write_raw-requires : goal.write_raw-requires
write_raw-requires c = raw-ready c.args.s.now c.args.self.now c.requires.0 c.requires.2

pub returns : goal.returns
returns c =
    let e = c.write_raw.ensures in
    let read = c.requires.0 in
    (raw-written c.args.s.now c.args.self.now read _ e.0, lfe-written c.args.s.now c.args.self.now read _ c.write_lfe.ensures, excesses-counted c.args.s.now c.args.self.now read _ e.1)

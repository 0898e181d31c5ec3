-- `mc_unpack::entry::unpack` meets its contract.
-- Each answer goes on from the one before it: its facts are those of its own goal, which a lemma would be given by name.
use Rattle.std.proofs.Common.{refl, inl, inr}
use Rattle.mc_unpack.proofs.EntryLaws.{after-wrong, lfe-most, after-refused, refused-numbered, writable, after-accepted}
use Rattle.mc_unpack.proofs.entry.unpack.Goals as goal

pub returns-then-not-lent_fits : goal.returns-then-not-lent_fits
returns-then-not-lent_fits c = record { after = after-wrong _ c.args.string.bytes.now c.args.string.bits _ _ _ c.lent_fits.ensures c.if-not-lent_fits.true; numbered = inr (inr (inr (inl refl))) }

pub read_mc_payload-requires : goal.read_mc_payload-requires
read_mc_payload-requires c = lfe-most _ c.args.string.bytes.now c.args.string.bits c.args.raw.now c.args.lfe.now _ c.lent_fits.ensures c.if-not-lent_fits.false _ c.settings-s.ensures

pub returns-in_err-read_mc_payload : goal.returns-in_err-read_mc_payload
returns-in_err-read_mc_payload c =
    let string = c.args.string in
    let settled = c.in_err-read_mc_payload.ensures.settled in
    record {
      after = after-refused _ string.bytes.now string.bits _ _ _ c.lent_fits.ensures c.if-not-lent_fits.false _ c.settings-s.ensures _ settled _ c.from_residual.ensures.1;
      numbered = refused-numbered _ string.bytes.now string.bits c.args.raw.now c.args.lfe.now _ c.lent_fits.ensures c.if-not-lent_fits.false _ c.settings-s.ensures _ settled _ c.from_residual.ensures.1;
    }

pub write_samples-excess_codes-requires : goal.write_samples-excess_codes-requires
write_samples-excess_codes-requires c =
    let lfe = lfe-most _ c.args.string.bytes.now c.args.string.bits c.args.raw.now c.args.lfe.now _ c.lent_fits.ensures c.if-not-lent_fits.false _ c.settings-s.ensures in
    let read = c.in_ok-read_mc_payload.ensures in
    (read.places, lfe, writable _ c.args.string.bytes.now c.args.string.bits c.args.raw.now c.args.lfe.now _ c.lent_fits.ensures c.if-not-lent_fits.false _ c.settings-s.ensures c.read_mc_payload.new.payload read.settled)

pub returns-clause-after : goal.returns-clause-after
returns-clause-after c =
    let read = c.in_ok-read_mc_payload.ensures in
    let samples = c.write_samples-excess_codes.ensures in
    after-accepted _ c.args.string.bytes.now c.args.string.bits _ _ _ c.lent_fits.ensures c.if-not-lent_fits.false _ c.settings-s.ensures _ read.settled read.places _ _ samples.0 samples.1 _ c.excesses.ensures _ samples.2

-- `mc_unpack::entry::read_mc_payload` meets its contract.
use Rattle.std.proofs.Common.{sym, ◌∙◌}
use Rattle.mc_unpack.proofs.SettledLaws.{own-table, settled-refused, settled-read}
use Rattle.mc_unpack.proofs.entry.read_mc_payload.Goals as goal

pub allocations_fit-requires : goal.allocations_fit-requires
allocations_fit-requires c = search own-table

pub returns-then-not-allocations_fit : goal.returns-then-not-allocations_fit
returns-then-not-allocations_fit c =
    record { settled = settled-refused _ _ _ (sym c.allocations_fit.ensures ∙ c.if-not-allocations_fit.true); places = c.places_of-places.ensures }

pub returns : goal.returns
returns c =
    record {
      settled = settled-read _ _ c.places_of-places.ensures _ _ _ (sym c.allocations_fit.ensures ∙ c.if-not-allocations_fit.false) c.read_payload.ensures;
      places = c.places_of-places.ensures;
    }

-- `part_tables::pack::Buffers::write_tables` meets its contract.
use Rattle.std.specs.Prelude.{◌≡◌, length}
use Rattle.std.proofs.Common.{rules, ◌∙◌}
use Rattle.part_tables.proofs.PayloadLaws.{entries-all}
use Rattle.part_tables.proofs.pack.Buffers.write_tables.Goals as goal

pub returns-clause-tables : goal.returns-clause-tables
returns-clause-tables c =
    let u = c.args.u.now in
    let scfsi : length u.scfsi ≡ 96 = search rules in
    let scalefactors : length u.scalefactors ≡ 288 = search rules in
    let excesses : length u.excesses ≡ 1152 = search rules in
    rw (
      c.copy_from_slice.ensures.after ∙ entries-all 96 u.scfsi scfsi,
      c.copy_from_slice-2.ensures.after ∙ c.flat_delays.ensures,
      c.copy_from_slice-3.ensures.after ∙ c.flat_coefs.ensures,
      c.copy_from_slice-4.ensures.after ∙ entries-all 288 u.scalefactors scalefactors,
      c.copy_from_slice-5.ensures.after ∙ entries-all 1152 u.excesses excesses,
    )

-- `mc_codes::granules::read_samples` meets its contract.
use Rattle.std.specs.Prelude.{List, ℕ, get_or}
use Rattle.bits.specs.Table.{set3}
use Rattle.bits.specs.Syntax.{done, bind}
use Rattle.bit_reader.proofs.ReadLaws.{goes-on, stops, field-on, field-stops, stays}
use Rattle.window.specs.Three.{three}
use Rattle.mc_codes.specs.Parts.{samples_by}
use Rattle.mc_codes.proofs.PartLaws.{returned-stored}
use Rattle.mc_codes.proofs.granules.read_samples.Goals as goal

pub returns-in_err-codes : goal.returns-in_err-codes
unfolding samples_by
returns-in_err-codes c = returned-stored _ _ _ c.from_residual.ensures.1 (rw c.if-codeword.true (field-stops (rw c.from-n.ensures at c.in_err-codes.ensures.reads)))

pub returns-in_err-first : goal.returns-in_err-first
unfolding samples_by three bind
returns-in_err-first c =
    let k = λ (t : List ℕ). done (set3 c.args.codes.now c.args.j (get_or t 0 0) (get_or t 1 0) (get_or t 2 0)) in
    returned-stored _ _ _ c.from_residual-in_err-first.ensures.1 (rw c.if-codeword.false (stops k (rw c.from-n.ensures at c.in_err-first.ensures.reads)))

pub returns-in_ok-codes : goal.returns-in_ok-codes
unfolding samples_by
returns-in_ok-codes c = rw c.if-codeword.true (field-on (rw c.from-n.ensures at c.in_ok-codes.ensures.reads) stays)

pub returns-in_ok-first : goal.returns-in_ok-first
unfolding samples_by set3 three bind
returns-in_ok-first c =
    let k = λ (t : List ℕ). done (set3 c.args.codes.now c.args.j (get_or t 0 0) (get_or t 1 0) (get_or t 2 0)) in
    rw c.if-codeword.false (goes-on k (rw c.from-n.ensures at c.in_ok-first.ensures.reads) stays)

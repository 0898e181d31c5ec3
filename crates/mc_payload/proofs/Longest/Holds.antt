-- The longest payload has 55,134 bits.
use Rattle.std.specs.Prelude.{◌≡◌, refl, true, List, ℕ, ◌+◌, ◌-◌, ◌*◌, ◌≤◌, length, replicate}
use Rattle.std.proofs.Math.Path.{ap}
use Rattle.std.proofs.Common.{◌∙◌, arith}
use Rattle.std.proofs.lemmas.List.{length-replicate}
use Rattle.bits.specs.Syntax.{accepted}
use Rattle.bits.proofs.Width.{used-most}
use Rattle.bits.proofs.Zeros.{Zeros, zeros-string}
use Rattle.mc_config.specs.Reading.{reading_fits}
use Rattle.mc_payload.specs.Payload.{Codes}
use Rattle.mc_payload.specs.Unpack.{Loan, settings_of, unpack_of}
use Rattle.mc_payload.proofs.Demand3.Accepted.{unpack-accepts, unpack-runs, lfe-low}
use Rattle.mc_payload.proofs.Demand3.Holds.{string-fits, demand3-cut}
use Rattle.mc_payload.specs.Longest.{longest, longest_loan, NoneLonger, Reached}
use Rattle.mc_payload.specs.Longest.Bits.{payload_bits}
use Rattle.mc_payload.proofs.Longest.Most.{payload-most}
use Rattle.mc_payload.proofs.Longest.Zeros.{payload-zeros}
use Rattle.mc_payload.proofs.Longest.Bound.{payload-bound}
use Rattle.mc_payload.proofs.Longest.Example.{longest-allocated, longest-lent, longest-bits}

-- under its settings
pub none-longer-under : (l : Loan) (b : List ℕ) (n : ℕ) (c : Codes) (u : ℕ) → unpack_of l b n ≡ accepted c u → u ≤ payload_bits (settings_of l)
none-longer-under l b n c u e = omega (arith, used-most b n 0 c u (unpack-accepts l b n c u e).ran (payload-most (settings_of l)))

pub none-longer : NoneLonger
unfolding settings_of
none-longer l b n c u e =
    let a = unpack-accepts l b n c u e in
    omega (arith, none-longer-under l b n c u e, payload-bound (settings_of l) a.allocated (lfe-low l a.lent))

-- zeros that hold so many bits
module _ (reading : ℕ) (fits : reading_fits reading ≡ true) (b : List ℕ) (z : Zeros b) (bytes : length b ≤ 8192) (bits : longest ≤ 8 * length b) where
  abbrev l : Loan
  l = longest_loan reading

  accepts : (c : Codes) × (unpack_of l b longest ≡ accepted c longest)
  unfolding longest_loan settings_of
  accepts =
      let whole : 0 + payload_bits (settings_of l) ≡ longest = omega (arith, longest-bits reading) in
      let uses = (payload-zeros (settings_of l) refl).reads b longest 0 z (omega arith) in (
        uses.value,
        unpack-runs l b longest (string-fits b longest bytes bits) (longest-lent reading fits) (longest-allocated reading)
            ∙ (uses.ran ∙ ap (accepted uses.value) whole),
      )

pub reached : Reached
reached reading fits =
    let b : List ℕ = replicate 6892 0 in
    let size : length b ≡ 6892 = length-replicate {A = ℕ} 6892 0 in
    let found = accepts reading fits b (zeros-string 6892) (omega arith) (omega arith) in
    (b, found.0, found.1, (demand3-cut (longest_loan reading) b longest found.0 longest (longest - 1) found.1 (omega arith)).0)

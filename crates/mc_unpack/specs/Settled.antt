-- What is decided of a payload: its settings' allocations first, then its bits; and the numbers of the refusals that this can end in.
use Rattle.std.specs.Prelude.{◌≡◌, cond, List, ◌⊎◌, ℕ}
use Rattle.bits.specs.Syntax.{Outcome, plain, refused, run}
use Rattle.mc_payload.specs.declared.McSettings.{McSettings}
use Rattle.mc_payload.specs.Payload.{Codes}
use Rattle.mc_payload.specs.Unpack.{allocations_fit, payload_of}

unfoldable pub settled_of : McSettings → List ℕ → ℕ → Outcome Codes
settled_of s bytes bits = cond (allocations_fit s) (run (payload_of s) bytes bits 0) (refused (plain 8))

-- short, Layer III commentary, reserved scalefactor, wrong loan, wrong allocation
abbrev pub Numbered : ℕ → Type 0
Numbered n = (n ≡ 1) ⊎ ((n ≡ 3) ⊎ ((n ≡ 4) ⊎ ((n ≡ 6) ⊎ (n ≡ 8))))

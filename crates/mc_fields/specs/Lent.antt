-- What a head string may be lent as (refusal 6), and what reading it answers.
use Rattle.std.specs.Prelude.{Bool, ◌&&◌, ◌||◌, cond, List, ℕ, ◌*◌, eqb, leb, length}
use Rattle.bits.specs.Syntax.{Outcome, plain, refused, run}
use Rattle.mc_config.specs.Reading.{reading_fits}
use Rattle.mc_config.specs.declared.McHeader.{McHeader}
use Rattle.mc_fields.specs.declared.McStatus.{McStatus}
use Rattle.mc_fields.specs.Head.{head}

-- a string of at most 8192 bytes, and no more bits than they hold
abbrev pub string_fits : List ℕ → ℕ → Bool
string_fits bytes bits = leb (length bytes) 8192 && leb bits (8 * length bytes)

-- one or two base channels
abbrev pub base_fits : ℕ → Bool
base_fits base_channels = eqb base_channels 1 || eqb base_channels 2

-- what a head is lent with
unfoldable pub head_fits : ℕ → List ℕ → ℕ → ℕ → Bool
head_fits reading bytes bits base_channels = reading_fits reading && (string_fits bytes bits && base_fits base_channels)

-- wrong loan, refusal 6, before any bit is read
unfoldable pub head_of : ℕ → List ℕ → ℕ → ℕ → Outcome (McHeader × (ℕ × McStatus))
head_of reading bytes bits base_channels = cond (head_fits reading bytes bits base_channels) (run (head reading base_channels) bytes bits 0) (refused (plain 6))

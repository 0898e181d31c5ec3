-- The payload is read in one way only: what that says of two accepted payloads under the same settings, and of one that is cut.
use Rattle.std.specs.Prelude.{true, ◌≡◌, ◌↔◌, List, ℕ, ◌*◌, ◌^◌, ◌≤◌, ◌<◌, Float, length, take}
use Rattle.std.specs.Float.{binary64}
use Rattle.std.specs.Float.Ieee.{to_bits}
use Rattle.bits.specs.Bits.{bit_at}
use Rattle.bits.specs.Syntax.{plain, accepted, refused}
use Rattle.bitalloc.specs.Classes.{grouped}
use Rattle.mc_fields.specs.Head.{count_at}
use Rattle.mc_payload.specs.declared.McSettings.{McSettings}
use Rattle.mc_payload.specs.Places.{steps_at, own_at}
use Rattle.mc_payload.specs.Payload.{Codes}
use Rattle.mc_payload.specs.Record.{scfsi_of, delay_of, coef_of, lf_scalefactor_of, scalefactor_at, code_of, excess_at, raw_at, lfe_at}
use Rattle.mc_payload.specs.Unpack.{Loan, settings_of, unpack_of}

-- each group code is below the cube of its step count: none has an excess
abbrev pub GroupsBelow : McSettings → Codes → Type 0
GroupsBelow s c = (gr m sb : ℕ) → gr < 12 → m < 3 → sb < 32 → grouped (own_at s m sb) ≡ true → code_of c gr m sb 0 < own_at s m sb ^ 3

-- two f64 are equal in all 64 bits
abbrev pub SameFloat : Float → Float → Type 0
SameFloat x y = to_bits binary64 x ≡ to_bits binary64 y

-- the records of two payloads are equal: each entry that a field fills is equal
pub record SameRecord (s : McSettings) (c c' : Codes) : Type 0 where
  pub scfsi : (m sb : ℕ) → m < 3 → sb < 32 → (steps_at s m sb ≡ 0 → ⊥) → scfsi_of c m sb ≡ scfsi_of c' m sb
  pub delays : (g px : ℕ) → g < 8 → px < 6 → (count_at s.status.mc_prediction g px ≡ 0 → ⊥) → delay_of c g px ≡ delay_of c' g px
  pub coefficients : (g px k : ℕ) → g < 8 → px < 6 → k < 3 → k < count_at s.status.mc_prediction g px
      → SameFloat (coef_of s.status.mc_prediction c g px k) (coef_of s.status.mc_prediction c' g px k)
  pub lf_scalefactor : (s.lfe_allocation ≡ 0 → ⊥) → lf_scalefactor_of c ≡ lf_scalefactor_of c'
  pub scalefactors : (m sb part : ℕ) → m < 3 → sb < 32 → part < 3 → (steps_at s m sb ≡ 0 → ⊥) → scalefactor_at c m sb part ≡ scalefactor_at c' m sb part
  pub raw : (m slot sb : ℕ) → m < 3 → slot < 36 → sb < 32 → (own_at s m sb ≡ 0 → ⊥) → SameFloat (raw_at s c m slot sb) (raw_at s c' m slot sb)
  pub lfe : (gr : ℕ) → gr < 12 → (s.lfe_allocation ≡ 0 → ⊥) → SameFloat (lfe_at s.lfe_allocation c gr) (lfe_at s.lfe_allocation c' gr)

-- and so are the excesses of their group codes
pub record SameWhole (s : McSettings) (c c' : Codes) : Type 0 where
  pub entries : SameRecord s c c'
  pub excess : (gr m sb : ℕ) → gr < 12 → m < 3 → sb < 32 → grouped (own_at s m sb) ≡ true → excess_at s c gr m sb ≡ excess_at s c' gr m sb

-- the same used bits, in number and one by one
abbrev pub SameUsed : List ℕ → ℕ → List ℕ → ℕ → Type 0
SameUsed b u b' u' = (u ≡ u') × ((i : ℕ) → i < u → bit_at b i ≡ bit_at b' i)

-- records with their excesses are equal exactly when used payload bits are
abbrev pub UniqueWhole : Type 0
UniqueWhole =
    (l : Loan) (b b' : List ℕ) (n n' : ℕ) (c c' : Codes) (u u' : ℕ)
    → unpack_of l b n ≡ accepted c u → unpack_of l b' n' ≡ accepted c' u'
    → SameWhole (settings_of l) c c' ↔ SameUsed b u b' u'

-- and without them, where no group code has one
abbrev pub UniqueReading : Type 0
UniqueReading =
    (l : Loan) (b b' : List ℕ) (n n' : ℕ) (c c' : Codes) (u u' : ℕ)
    → unpack_of l b n ≡ accepted c u → unpack_of l b' n' ≡ accepted c' u'
    → GroupsBelow (settings_of l) c → GroupsBelow (settings_of l) c'
    → SameRecord (settings_of l) c c' ↔ SameUsed b u b' u'

-- a payload cut anywhere inside its used bits is short, on the same bytes or on the first k, which hold the bits left
abbrev pub ShortWhenCut : Type 0
ShortWhenCut =
    (l : Loan) (b : List ℕ) (n : ℕ) (c : Codes) (u left : ℕ)
    → unpack_of l b n ≡ accepted c u → left < u
    → (unpack_of l b left ≡ refused (plain 1)) × ((k : ℕ) → left ≤ 8 * k → k ≤ length b → unpack_of l (take k b) left ≡ refused (plain 1))

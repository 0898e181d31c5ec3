-- Values that were worked out by hand.
use mathlib.Core.Path.{◌≡◌, refl}
use mathlib.Core.List.{[], ◌∷◌}
use Prim.Native.Nat.{ℕ}
use Rattle.bits.specs.Bits.{bit_at, value_at}
use Rattle.bits.specs.Syntax.{plain, Syntax, done, field, accepted, refused, run}
use Rattle.bit_reader.specs.Answer.{moved, read_at}
use Rattle.std.specs.Prelude.{Ok, Err}
use Rattle.mc_error.specs.declared.McError.TheVariants.{UnexpectedEnd}

-- the first bit is the highest
first : bit_at (0x80 ∷ []) 0 ≡ 1
unfolding bit_at
first = refl

-- eight bits from bit 4 on, sixteen from bit 3 on
middle : value_at (0xab ∷ 0xcd ∷ 0xef ∷ []) 4 8 ≡ 0xbc
unfolding value_at bit_at
middle = refl

long : value_at (0xab ∷ 0xcd ∷ 0xef ∷ []) 3 16 ≡ 0x5e6f
unfolding value_at bit_at
long = refl

-- a byte past the end counts as 0
past : value_at (0xab ∷ []) 4 8 ≡ 0xb0
unfolding value_at bit_at
past = refl

-- the last four bits of eight, and one bit too many
last : read_at (0xab ∷ []) 8 4 4 ≡ Ok 0xb
unfolding read_at value_at bit_at
last = refl

short : read_at (0xab ∷ []) 8 4 5 ≡ Err UnexpectedEnd
unfolding read_at
short = refl

-- a field of 0 bits at the limit
empty : read_at (0xab ∷ []) 8 8 0 ≡ Ok 0
unfolding read_at value_at
empty = refl

-- three fields of four bits, all within the limit, and the third past it
three : moved 12 4 3 0 ≡ 12
unfolding moved
three = refl

two : moved 11 4 3 0 ≡ 8
unfolding moved
two = refl

-- two fields, and the same cut by one bit
abbrev halves : Syntax (ℕ × ℕ)
halves = field 4 (λ x. field 4 (λ y. done (x, y)))

whole : run halves (0xab ∷ []) 8 0 ≡ accepted (0xa, 0xb) 8
unfolding run value_at bit_at
whole = refl

cut : run halves (0xab ∷ []) 7 0 ≡ refused (plain 1)
unfolding run value_at bit_at
cut = refl

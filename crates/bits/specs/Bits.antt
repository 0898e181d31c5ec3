-- The bits of a list of bytes, the highest bit of a byte first, and the number that stands at a bit position. A byte past the end counts as 0.
use Rattle.std.specs.Prelude.{◌≡◌, List, ℕ, zero, suc, ◌+◌, ◌*◌, ◌-◌, ◌/◌, ◌%◌, ◌^◌, ◌≤◌, ◌<◌, get_or}

-- bit i, 0 or 1; bit 0 is the highest bit of byte 0
unfoldable pub bit_at : List ℕ → ℕ → ℕ
bit_at b i = get_or b (i / 8) 0 / 2 ^ (7 - i % 8) % 2

-- the n bits from bit p on as a number, the first bit its highest (`uimsbf` in the standard's tables)
unfoldable pub value_at : List ℕ → ℕ → ℕ → ℕ
value_at b p zero = 0
value_at b p (suc n) = 2 * value_at b p n + bit_at b (p + n)

-- the same bits from bit p up to bit u
abbrev pub Agree : List ℕ → List ℕ → ℕ → ℕ → Type 0
Agree b b' p u = (i : ℕ) → p ≤ i → i < u → bit_at b i ≡ bit_at b' i

-- A string of bits while it is written, one place for each bit, and its bytes.
use Rattle.std.specs.Prelude.{cond, List, ℕ, zero, suc, ◌+◌, ◌*◌, ◌/◌, ◌%◌, leb, get_or, set, replicate}
use Rattle.fill.specs.Tab.{tab}
use Rattle.boundary_run.specs.declared.string.Bits.{Bits}

-- nothing written
abbrev pub nothing : Bits
nothing = record { bits = replicate 232 0; at = 0 }

-- the n lowest bits of v from place p on, the highest first
unfoldable pub put_bits : List ℕ → ℕ → ℕ → ℕ → List ℕ
put_bits bits p zero v = bits
put_bits bits p (suc n) v = put_bits (set bits (p + n) (v % 2)) p n (v / 2)

-- one field more; a field that passes the end is left out
unfoldable pub field_of : Bits → ℕ → ℕ → Bits
field_of b n v = cond (leb (b.at + n) 232) (record { bits = put_bits b.bits b.at n v; at = b.at + n }) b

-- the same field so many times
unfoldable pub fields_of : Bits → ℕ → ℕ → ℕ → Bits
fields_of b zero n v = b
fields_of b (suc times) n v = field_of (fields_of b times n v) n v

-- k places from the first on as a number, in the low eight bits
unfoldable pub byte_of : List ℕ → ℕ → ℕ → ℕ
byte_of bits first zero = 0
byte_of bits first (suc k) = (2 * byte_of bits first k + get_or bits (first + k) 0) % 256

-- the 29 bytes
abbrev pub bytes_of : List ℕ → List ℕ
bytes_of bits = tab (λ k. byte_of bits (8 * k) 8) 29

-- Numbers as bytes, lowest byte first, and the hash FNV-1a of 64 bits. Definitions only. A float's bytes are those of its bit pattern, `to_bits binary64`.
use Rattle.std.specs.Prelude.{List, [], ◌∷◌, ℕ, zero, suc, ◌+◌, ◌*◌, ◌/◌, ◌%◌, min, Float, get_or, cond, ltb}
use Rattle.std.specs.Int.Bits.{bit_xor}
use Rattle.std.specs.Float.Ieee.{to_bits}
use Rattle.std.specs.Float.{binary64}

-- the n bytes from `at` on as a number; bytes past the end count 0
unfoldable pub lowest_first : List ℕ → ℕ → ℕ → ℕ
lowest_first bytes at zero = 0
lowest_first bytes at (suc n) = get_or bytes at 0 + lowest_first bytes (suc at) n * 256

-- the same, of at most eight bytes
abbrev pub number_at : List ℕ → ℕ → ℕ → ℕ
number_at bytes at n = lowest_first bytes at (min n 8)

-- one byte more: the product is by 0x100000001B3, modulo 2^64
abbrev pub hash_byte : ℕ → ℕ → ℕ
hash_byte h byte = bit_xor h byte * 1099511628211 % 18446744073709551616

-- the k lowest bytes of n more, lowest first
unfoldable pub hash_bytes : ℕ → ℕ → ℕ → ℕ
hash_bytes zero h n = h
hash_bytes (suc k) h n = hash_bytes k (hash_byte h (n % 256)) (n / 256)

-- the eight bytes of n more
abbrev pub hash_number : ℕ → ℕ → ℕ
hash_number h n = hash_bytes 8 h n

-- the bit patterns of all floats more, in order
unfoldable pub hash_floats : ℕ → List Float → ℕ
hash_floats h [] = h
hash_floats h (x ∷ xs) = hash_floats (hash_number h (to_bits binary64 x)) xs

-- byte k of n; the code's shape
abbrev pub byte_of : List ℕ → ℕ → ℕ → ℕ → ℕ
byte_of bytes at n k = cond (ltb k n) (get_or bytes (at + k) 0) 0

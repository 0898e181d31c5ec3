-- The values of a frame, drawn from its seed, and the wild values. Definitions only.
use Rattle.std.specs.Prelude.{ℕ, zero, suc, ◌+◌, ◌-◌, ◌*◌, ◌/◌, ◌%◌, true, false, cond, List, length, pos, ◌==◌, bit_xor, nat_lt, slice_set, Float}
use Rattle.std.specs.Float.{nan, inf, binary64}
use Rattle.std.specs.Float.Ieee.{of_int, div, neg}
use Rattle.fill.specs.Tab.{tab}

-- xorshift64: the number after x
unfoldable pub drawn : ℕ → ℕ
drawn x =
    let a = bit_xor x (x * 8192 % 18446744073709551616) in
    let b = bit_xor a (a / 128) in
    bit_xor b (b * 131072 % 18446744073709551616)

-- the number after n draws
unfoldable pub drawn_to : ℕ → ℕ → ℕ
drawn_to zero x = x
drawn_to (suc n) x = drawn (drawn_to n x)

-- k / 2^20
abbrev pub fraction_of : ℕ → Float
fraction_of k = div binary64 (of_int binary64 (pos k)) (of_int binary64 (pos 1048576))

-- one in 16 is 0, one in 16 is 4 · 2^20, the others are any up to that
unfoldable pub magnitude_of : ℕ → ℕ
magnitude_of x = cond (x % 16 == 0) 0 (cond (x % 16 == 1) 4194304 (x / 256 % 4194305))

-- the value of a drawn number; bit 4 is its sign
unfoldable pub value_of : ℕ → Float
value_of x = let value = fraction_of (magnitude_of x) in cond (x / 16 % 2 == 1) (neg value) value

-- the n values that are drawn after the first `before`
unfoldable pub values_after : ℕ → ℕ → ℕ → List Float
values_after seed before n = tab (λ k. value_of (drawn_to (suc (before + k)) seed)) n

-- a value that no frame may have: beyond the bounds, infinite, or not a number
unfoldable pub wild_of : ℕ → Float
wild_of kind =
    cond (kind == 1) (fraction_of 4194305)
    (cond (kind == 2) (neg (fraction_of 4194305))
    (cond (kind == 3) (inf false)
    (cond (kind == 4) (inf true)
    nan)))

-- xs, whose first value has the place `first`, with the wild value at its place; a kind of 0 is none
unfoldable pub with_wild : ℕ → ℕ → ℕ → List Float → List Float
with_wild first kind place xs =
    cond (kind == 0) xs
    (cond (nat_lt place first) xs
    (cond (nat_lt (place - first) (length xs)) (slice_set xs (place - first) (wild_of kind)) xs))

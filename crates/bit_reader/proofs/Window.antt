-- What `read_bits` computes of three bytes is the field.
use mathlib.Core.Path.{◌≡◌, ◌∙◌}
use mathlib.Core.List.{List}
use Prim.Native.Nat.{ℕ, ◌+◌, ◌-◌, ◌*◌, ◌/◌, ◌%◌, ◌^◌, ◌≤◌}
use native.Mathlib.Nat.{one-mul}
use native.Mathlib.Omega.{arith}
use lib.Dec.{lit<}
use lib.ListN.{get_or}
use lib.Pow.{shl_exact}
use Rattle.bits.specs.Bits.{value_at}
use Rattle.bits.proofs.BitsLaws.{field-of-window}

-- `1 << n` at 32 bits
pub one_shl : (n : ℕ) → n ≤ 16 → (1 * 2 ^ n) % 2 ^ 32 ≡ 2 ^ n
one_shl n h = shl_exact {a = 1} 1 n 32 (lit< tt) (omega arith) ∙ one-mul (2 ^ n)

pub computed : (b : List ℕ) (p n x y z : ℕ) → n ≤ 16
    → (x ≡ get_or b (p / 8) 0) × (x ≤ 255) → (y ≡ get_or b (p / 8 + 1) 0) × (y ≤ 255) → (z ≡ get_or b (p / 8 + 2) 0) × (z ≤ 255)
    → (x * 65536 + y * 256 + z) / 2 ^ (24 - p % 8 - n) % ((1 * 2 ^ n) % 2 ^ 32) ≡ value_at b p n
computed b p n x y z h (ex, hx) (ey, hy) (ez, hz) =
    rw (one_shl n h, ex, ey, ez) (field-of-window b p n h (omega arith) (omega arith) (omega arith))

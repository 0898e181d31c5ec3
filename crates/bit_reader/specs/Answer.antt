-- What reading n bits at a position answers, and where reads leave a reader.
use Rattle.std.specs.Prelude.{cond, List, ℕ, zero, suc, ◌+◌, leb, Result, Ok, Err}
use Rattle.bits.specs.Bits.{value_at}
use Rattle.mc_error.specs.declared.McError.{McError}
use Rattle.mc_error.specs.declared.McError.TheVariants.{UnexpectedEnd}

-- The value, if the field ends within the limit. A limit past the bytes is no error: zeros are read there. A field
-- of 0 bits is 0, if its position is within the limit.
unfoldable pub read_at : List ℕ → ℕ → ℕ → ℕ → Result ℕ McError
read_at bytes limit at n = cond (leb (at + n) limit) (Ok (value_at bytes at n)) (Err UnexpectedEnd)

-- Where k reads of n bits, one after the other from bit `at` on, leave a reader: after the k fields, or at the first of them
-- that ends past the limit.
unfoldable pub moved : ℕ → ℕ → ℕ → ℕ → ℕ
moved limit n zero at = at
moved limit n (suc k) at = cond (leb (at + n) limit) (moved limit n k (at + n)) at

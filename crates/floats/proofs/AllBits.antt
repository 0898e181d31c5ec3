-- Two f64s are equal where their 64 bits are.
use Rattle.std.specs.Prelude.{◌≡◌, T, Float}
use Rattle.std.proofs.Common.{sym, ap, ◌∙◌}
use Rattle.std.specs.Float.{binary64}
use Rattle.std.specs.Float.Ieee.{fits, to_bits, of_bits}
use Rattle.std.specs.Float.Ieee.Bits.{of_bits-to_bits}

pub equal-bits : (x y : Float) → T (fits binary64 x) → T (fits binary64 y) → to_bits binary64 x ≡ to_bits binary64 y → x ≡ y
equal-bits x y X Y e = sym (of_bits-to_bits binary64 x X) ∙ ap (of_bits binary64) e ∙ of_bits-to_bits binary64 y Y

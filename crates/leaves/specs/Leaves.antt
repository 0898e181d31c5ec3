-- What the exported functions answer: the value of the definition below them, and +0 or 0 where an argument is outside its range. Definitions only.
use Rattle.std.specs.Prelude.{false, ◌&&◌, cond, List, ℕ, ◌+◌, ◌*◌, ◌^◌, pos, leb, ltb, get_or, Float}
use Rattle.std.specs.Float.{fin}
use Rattle.tables.specs.Scalefactor.{scalefactor_of}
use Rattle.bitalloc.specs.Classes.{is_class, grouped, bits_per_sample, bits_per_codeword}
use Rattle.requant.specs.Requant.{raw_of, degrouped, excess_of, lfe_sample_of, coefficient_of}

abbrev pub plus_zero : Float
plus_zero = fin false 0 (pos 0)

abbrev pub scalefactor_leaf : ℕ → Float
scalefactor_leaf index = cond (ltb index 63) (scalefactor_of index) plus_zero

abbrev pub requantize_leaf : ℕ → ℕ → Float
requantize_leaf steps code = cond (is_class steps && ltb code (2 ^ bits_per_sample steps)) (raw_of steps code) plus_zero

-- three digits below nine in one number, eight, eight and four bits to each, the first lowest; above them the excess
abbrev pub packed : List ℕ → ℕ → ℕ
packed digits excess = get_or digits 0 0 + 256 * get_or digits 1 0 + 65536 * get_or digits 2 0 + 1048576 * excess

abbrev pub degroup_leaf : ℕ → ℕ → ℕ
degroup_leaf steps combined = cond (grouped steps && ltb combined (2 ^ bits_per_codeword steps)) (packed (degrouped steps combined) (excess_of steps combined)) 0

abbrev pub lfe_leaf : ℕ → ℕ → ℕ → Float
lfe_leaf allocation index code =
    cond (leb 1 allocation && leb allocation 15 && ltb index 63 && ltb code (2 ^ (allocation + 1))) (lfe_sample_of allocation index code) plus_zero

abbrev pub coefficient_leaf : ℕ → Float
coefficient_leaf byte = cond (ltb byte 256) (coefficient_of byte) plus_zero

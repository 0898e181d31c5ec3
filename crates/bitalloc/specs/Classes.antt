-- The classes of quantization of Layer II: ISO/IEC 11172-3, Table B.4. Definitions only.
-- The decimals are those of the Rust, which are the table's own.
use Rattle.std.specs.Prelude.{Bool, true, false, cond, List, [], ◌∷◌, ℕ, suc, eqb, ltb, get_or, Float, Option, Some, None}
use Rattle.std.specs.Float.Ieee.{round}
use Rattle.floats.specs.Decimal.{decimal}
use Rattle.bitalloc.specs.declared.QuantClass.{QuantClass}

-- steps, C and D times 10 ^ 11, grouping, bits per codeword, bits per sample
abbrev pub row : ℕ → ℕ → ℕ → Bool → ℕ → ℕ → QuantClass
row steps c d grouping codeword sample = record {
  nb_steps = steps;
  c = decimal 11 c;
  d = decimal 11 d;
  grouping = grouping;
  bits_per_sample = sample;
  bits_per_codeword = codeword;
}

unfoldable pub classes : List QuantClass
unfolding round
classes =
    row 3 133333333333 50000000000 true 5 2 ∷
    row 5 160000000000 50000000000 true 7 3 ∷
    row 7 114285714286 25000000000 false 3 3 ∷
    row 9 177777777777 50000000000 true 10 4 ∷
    row 15 106666666666 12500000000 false 4 4 ∷
    row 31 103225806452 6250000000 false 5 5 ∷
    row 63 101587301587 3125000000 false 6 6 ∷
    row 127 100787401575 1562500000 false 7 7 ∷
    row 255 100392156863 781250000 false 8 8 ∷
    row 511 100195694716 390625000 false 9 9 ∷
    row 1023 100097751711 195312500 false 10 10 ∷
    row 2047 100048851979 97656250 false 11 11 ∷
    row 4095 100024420024 48828125 false 12 12 ∷
    row 8191 100012208522 24414063 false 13 13 ∷
    row 16383 100006103888 12207031 false 14 14 ∷
    row 32767 100003051851 6103516 false 15 15 ∷
    row 65535 100001525902 3051758 false 16 16 ∷ []

-- the class at a place of the table; past its end, a row of zeros
unfoldable pub class_at : ℕ → QuantClass
unfolding classes
class_at index = get_or classes index (row 0 0 0 false 0 0)

-- the place of the first row with this number of steps, or the number of rows where there is none
abbrev pub place_in : List QuantClass → ℕ → ℕ
place_in [] steps = 0
place_in (class ∷ rest) steps = cond (eqb class.nb_steps steps) 0 (suc (place_in rest steps))

unfoldable pub class_index : ℕ → ℕ
unfolding classes
class_index steps = place_in classes steps

-- whether it is the number of steps of one of the 17 classes
abbrev pub is_class : ℕ → Bool
is_class steps = ltb (class_index steps) 17

abbrev pub class_of : ℕ → QuantClass
class_of steps = class_at (class_index steps)

-- the class's place, and the class, of a number of steps that has one
abbrev pub index_of : ℕ → Option ℕ
index_of steps = cond (is_class steps) (Some (class_index steps)) None

abbrev pub lookup_of : ℕ → Option QuantClass
lookup_of steps = cond (is_class steps) (Some (class_of steps)) None

-- the columns, by the number of steps
abbrev pub c_of : ℕ → Float
c_of steps = (class_of steps).c

abbrev pub d_of : ℕ → Float
d_of steps = (class_of steps).d

abbrev pub grouped : ℕ → Bool
grouped steps = (class_of steps).grouping

abbrev pub bits_per_sample : ℕ → ℕ
bits_per_sample steps = (class_of steps).bits_per_sample

abbrev pub bits_per_codeword : ℕ → ℕ
bits_per_codeword steps = (class_of steps).bits_per_codeword

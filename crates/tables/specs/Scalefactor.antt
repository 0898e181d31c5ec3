-- The scalefactors of Layers I and II: ISO/IEC 11172-3, Table B.1. Definitions only.
-- The decimals are those of the Rust, which are the table's own.
use Rattle.std.specs.Prelude.{ℕ, List, [], ◌∷◌, map, get_or, Float}
use Rattle.std.specs.Float.Ieee.{round}
use Rattle.floats.specs.Decimal.{decimal}

-- each times 10 ^ 14, three to a line: from one line to the next they are halved, up to the last digit
unfoldable pub numerators : List ℕ
numerators =
    200000000000000 ∷ 158740105196820 ∷ 125992104989487 ∷
    100000000000000 ∷ 79370052598410 ∷ 62996052494744 ∷
    50000000000000 ∷ 39685026299205 ∷ 31498026247372 ∷
    25000000000000 ∷ 19842513149602 ∷ 15749013123686 ∷
    12500000000000 ∷ 9921256574801 ∷ 7874506561843 ∷
    6250000000000 ∷ 4960628287401 ∷ 3937253280921 ∷
    3125000000000 ∷ 2480314143700 ∷ 1968626640461 ∷
    1562500000000 ∷ 1240157071850 ∷ 984313320230 ∷
    781250000000 ∷ 620078535925 ∷ 492156660115 ∷
    390625000000 ∷ 310039267963 ∷ 246078330058 ∷
    195312500000 ∷ 155019633981 ∷ 123039165029 ∷
    97656250000 ∷ 77509816991 ∷ 61519582514 ∷
    48828125000 ∷ 38754908495 ∷ 30759791257 ∷
    24414062500 ∷ 19377454248 ∷ 15379895629 ∷
    12207031250 ∷ 9688727124 ∷ 7689947814 ∷
    6103515625 ∷ 4844363562 ∷ 3844973907 ∷
    3051757813 ∷ 2422181781 ∷ 1922486954 ∷
    1525878906 ∷ 1211090890 ∷ 961243477 ∷
    762939453 ∷ 605545445 ∷ 480621738 ∷
    381469727 ∷ 302772723 ∷ 240310869 ∷
    190734863 ∷ 151386361 ∷ 120155435 ∷ []

-- the table: the f64 nearest to each decimal
unfoldable pub scalefactors : List Float
unfolding numerators round
scalefactors = map (decimal 14) numerators

-- its entry at an index below 63
unfoldable pub scalefactor_of : ℕ → Float
unfolding numerators round
scalefactor_of index = decimal 14 (get_or numerators index 0)

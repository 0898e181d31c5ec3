-- Places and columns: place 3 sb + m is channel m in subband sb, and its column in a buffer is its 36 slots, 32 places apart.
use Rattle.std.specs.Prelude.{ℕ, ◌+◌, ◌*◌, ◌/◌, ◌%◌}

-- where the column of a place begins
abbrev pub column_at : ℕ → ℕ
column_at place = 1152 * (place % 3) + place / 3

-- the place in whose column the buffer's element k stands
abbrev pub place_of : ℕ → ℕ
place_of k = 3 * (k % 32) + k / 1152

-- its slot
abbrev pub slot_of : ℕ → ℕ
slot_of k = k / 32 % 36

-- the places taken channel by channel: the one at turn i, and the turn of the element k
abbrev pub place_at : ℕ → ℕ
place_at i = 3 * (i % 32) + i / 32

abbrev pub turn_of : ℕ → ℕ
turn_of k = 32 * (k / 1152) + k % 32

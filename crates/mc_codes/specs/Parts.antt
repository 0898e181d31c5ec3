-- Parts of the payload as they are read: a predictor by its coefficient count, and the samples of a place by their width and grouping.
use Rattle.std.specs.Prelude.{Bool, cond, List, ℕ, ◌+◌, ◌*◌, ltb, get_or, set, Result}
use Rattle.std.specs.Result.{result_map_both}
use Rattle.bits.specs.Table.{set3}
use Rattle.bits.specs.Syntax.{Syntax, done, field}
use Rattle.fill.specs.Tab.{tab}
use Rattle.bitalloc.specs.Classes.{grouped, bits_per_codeword}
use Rattle.mc_error.specs.declared.McError.{McError}
use Rattle.mc_fields.specs.Head.{bits_if}
use Rattle.mc_codes.specs.declared.granules.Codeword.{Codeword}

-- what was read as it is stored
abbrev pub stored : {A B : Type 0} → (A → B) → Result A McError → Result B McError
stored f r = result_map_both f (λ e. e) r

-- predictor q with n coefficients, n not 0
unfoldable pub predictor_by : ℕ → ℕ → List ℕ → Syntax (List ℕ)
predictor_by n q a =
    field 3
    (λ d. field 8
    (λ x. field (bits_if (ltb 1 n) 8)
    (λ y. field (bits_if (ltb 2 n) 8)
    (λ z. done (set3 (set a (4 * q) d) (4 * q + 1) x y z)))))

-- one group code, or three codes, each of so many bits, from the index j on
unfoldable pub samples_by : Bool → ℕ → ℕ → List ℕ → Syntax (List ℕ)
samples_by group width j a =
    cond group (field width (λ v. done (set a j v)))
    (field width (λ x. field width (λ y. field width (λ z. done (set3 a j x y z)))))

-- the bits of a code of so many steps, and whether it is a group code
abbrev pub codeword_of : ℕ → Codeword
codeword_of n = record { bits = bits_per_codeword n; grouped = grouped n }

-- by place
unfoldable pub codewords_of : List ℕ → List Codeword
codewords_of own = tab (λ i. codeword_of (get_or own i 0)) 96

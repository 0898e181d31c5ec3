-- Dynamic crosstalk (ISO/IEC 13818-3, 2.5.2.15 and 2.5.3.2.1.2): where a channel's step count and samples come from, by crosstalk code.
use Rattle.std.specs.Prelude.{Bool, not, ◌&&◌, ◌||◌, cond, List, [], ◌∷◌, ◌++◌, ℕ, ◌*◌, eqb, ltb, length, get_or}
use Rattle.mc_config.specs.Config.{by_pair}

-- a source: an earlier channel by its number 0 to 2, T transmitted, B a base channel
abbrev pub T : ℕ
T = 3

abbrev pub B : ℕ
B = 4

unfoldable pub sources3 : List (List ℕ)
sources3 =
    (T ∷ T ∷ T ∷ [])
    ∷ (T ∷ T ∷ B ∷ [])
    ∷ (T ∷ B ∷ T ∷ [])
    ∷ (B ∷ T ∷ T ∷ [])
    ∷ (T ∷ B ∷ B ∷ [])
    ∷ (B ∷ T ∷ B ∷ [])
    ∷ (B ∷ B ∷ T ∷ [])
    ∷ (B ∷ B ∷ B ∷ [])
    ∷ (T ∷ T ∷ 1 ∷ [])
    ∷ (T ∷ 0 ∷ T ∷ [])
    ∷ (T ∷ T ∷ 0 ∷ [])
    ∷ (T ∷ 0 ∷ B ∷ [])
    ∷ (T ∷ B ∷ 0 ∷ [])
    ∷ (B ∷ T ∷ 1 ∷ [])
    ∷ (T ∷ 0 ∷ 0 ∷ [])
    ∷ []

unfoldable pub sources2 : List (List ℕ)
sources2 = (T ∷ T ∷ []) ∷ (T ∷ B ∷ []) ∷ (B ∷ T ∷ []) ∷ (B ∷ B ∷ []) ∷ (T ∷ 0 ∷ []) ∷ []

unfoldable pub sources1 : List (List ℕ)
sources1 = (T ∷ []) ∷ (B ∷ []) ∷ []

-- no main channel: code 0 alone, without sources
unfoldable pub sources0 : List (List ℕ)
sources0 = [] ∷ []

-- the rows of a configuration, by code
abbrev pub source_rows : ℕ → List (List ℕ)
source_rows pair = by_pair sources3 sources2 sources1 sources2 sources1 sources0 pair

-- whether a code is listed; one that is not is forbidden
unfoldable pub listed : ℕ → ℕ → Bool
listed pair mode = ltb mode (length (source_rows pair))

-- the sources of the main channels; none where the code is not listed
unfoldable pub sources_of : ℕ → ℕ → List ℕ
sources_of pair mode = get_or (source_rows pair) mode []

-- the source of channel m; a channel that is not one of the main ones counts as transmitted
abbrev pub source_of : ℕ → ℕ → ℕ → ℕ
source_of pair mode m = get_or (sources_of pair mode) m T

-- ---- prediction (2.5.2.15, 2.5.3.2.1.3): predicted are the transmitted main channels that no other channel copies

-- in a row of sources some channel copies channel m
abbrev pub copied : List ℕ → ℕ → Bool
copied row m = eqb (get_or row 0 B) m || (eqb (get_or row 1 B) m || eqb (get_or row 2 B) m)

abbrev pub predicted_if : List ℕ → ℕ → List ℕ
predicted_if row m = cond (eqb (get_or row m B) T && not (copied row m)) (m ∷ []) []

-- the predicted channels of a row, in order
abbrev pub predicted_in : List ℕ → List ℕ
predicted_in row = predicted_if row 0 ++ predicted_if row 1 ++ predicted_if row 2

unfoldable pub predicted_of : ℕ → ℕ → List ℕ
predicted_of pair mode = predicted_in (sources_of pair mode)

-- two predictors to a predicted channel
unfoldable pub predictors_of : ℕ → ℕ → ℕ
predictors_of pair mode = 2 * length (predicted_of pair mode)

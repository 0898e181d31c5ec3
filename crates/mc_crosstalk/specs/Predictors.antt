-- The standard's tables of predictors and of the channels that they belong to, by crosstalk code (ISO/IEC 13818-3, 2.5.2.15 and 2.5.3.2.1.3).
use Rattle.std.specs.Prelude.{List, [], ◌∷◌, ℕ, get_or}
use Rattle.mc_config.specs.Config.{by_pair}

unfoldable pub npred3 : List ℕ
npred3 = 6 ∷ 4 ∷ 4 ∷ 4 ∷ 2 ∷ 2 ∷ 2 ∷ 0 ∷ 2 ∷ 2 ∷ 2 ∷ 0 ∷ 0 ∷ 0 ∷ 0 ∷ []

unfoldable pub npred2 : List ℕ
npred2 = 4 ∷ 2 ∷ 2 ∷ 0 ∷ 0 ∷ []

unfoldable pub npred1 : List ℕ
npred1 = 2 ∷ 0 ∷ []

-- the number of predictors; none past the table
unfoldable pub npred_table : ℕ → ℕ → ℕ
npred_table pair mode = get_or (by_pair npred3 npred2 npred1 npred2 npred1 [] pair) mode 0

unfoldable pub predictable3 : List (List ℕ)
predictable3 =
    (0 ∷ 1 ∷ 2 ∷ [])
    ∷ (0 ∷ 1 ∷ [])
    ∷ (0 ∷ 2 ∷ [])
    ∷ (1 ∷ 2 ∷ [])
    ∷ (0 ∷ [])
    ∷ (1 ∷ [])
    ∷ (2 ∷ [])
    ∷ []
    ∷ (0 ∷ [])
    ∷ (2 ∷ [])
    ∷ (1 ∷ [])
    ∷ []
    ∷ []
    ∷ []
    ∷ []
    ∷ []

unfoldable pub predictable2 : List (List ℕ)
predictable2 = (0 ∷ 1 ∷ []) ∷ (0 ∷ []) ∷ (1 ∷ []) ∷ [] ∷ [] ∷ []

unfoldable pub predictable1 : List (List ℕ)
predictable1 = (0 ∷ []) ∷ [] ∷ []

abbrev pub predictable_rows : ℕ → List (List ℕ)
predictable_rows pair = by_pair predictable3 predictable2 predictable1 predictable2 predictable1 [] pair

-- the channels with predictors; none past the table
unfoldable pub predictable_table : ℕ → ℕ → List ℕ
predictable_table pair mode = get_or (predictable_rows pair) mode []

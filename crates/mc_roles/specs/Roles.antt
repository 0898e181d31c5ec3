-- Which audio channel a main channel carries, by tc_allocation, and the base channel that a crossed one copies (ISO/IEC 13818-3, 2.5.2.15 and 2.5.3.2.1.2).
use Rattle.std.specs.Prelude.{Bool, ◌||◌, cond, List, [], ◌∷◌, ℕ, ◌-◌, eqb, ltb, length, get_or}
use Rattle.mc_config.specs.Config.{by_pair, left, right, centre, left_surround, right_surround, mono_surround, second_left, second_right}

-- the row at a tc_allocation; one beyond the list takes the last row
abbrev pub row_at : List (List ℕ) → ℕ → List ℕ
row_at rows tc = get_or rows (cond (ltb tc (length rows)) tc (length rows - 1)) []

unfoldable pub roles32 : List (List ℕ)
roles32 =
    (centre ∷ left_surround ∷ right_surround ∷ [])
    ∷ (left ∷ left_surround ∷ right_surround ∷ [])
    ∷ (right ∷ left_surround ∷ right_surround ∷ [])
    ∷ (centre ∷ left ∷ right_surround ∷ [])
    ∷ (centre ∷ left_surround ∷ right ∷ [])
    ∷ (centre ∷ left ∷ right ∷ [])
    ∷ (right ∷ left ∷ right_surround ∷ [])
    ∷ (left ∷ left_surround ∷ right ∷ [])
    ∷ []

unfoldable pub roles31 : List (List ℕ)
roles31 =
    (centre ∷ mono_surround ∷ [])
    ∷ (left ∷ mono_surround ∷ [])
    ∷ (right ∷ mono_surround ∷ [])
    ∷ (centre ∷ left ∷ [])
    ∷ (centre ∷ right ∷ [])
    ∷ (left ∷ right ∷ [])
    ∷ []

unfoldable pub roles30 : List (List ℕ)
roles30 = (centre ∷ []) ∷ (left ∷ []) ∷ (right ∷ []) ∷ []

unfoldable pub roles22 : List (List ℕ)
roles22 = (left_surround ∷ right_surround ∷ []) ∷ (left ∷ right_surround ∷ []) ∷ (left_surround ∷ right ∷ []) ∷ (left ∷ right ∷ []) ∷ []

unfoldable pub roles21 : List (List ℕ)
roles21 = (mono_surround ∷ []) ∷ (left ∷ []) ∷ (right ∷ []) ∷ []

-- no main channel
unfoldable pub roles0 : List (List ℕ)
roles0 = [] ∷ []

-- the rows of a configuration, by tc_allocation
abbrev pub role_rows : ℕ → List (List ℕ)
role_rows pair = by_pair roles32 roles31 roles30 roles22 roles21 roles0 pair

-- the audio channels that the main channels carry
unfoldable pub tc_roles_of : ℕ → ℕ → List ℕ
tc_roles_of pair tc = row_at (role_rows pair) tc

-- the base channel, 0 or 1, that a crossed channel in this role copies: centre and mono surround go by the left/right bit
unfoldable pub fallback_of : ℕ → Bool → ℕ
fallback_of role lr =
    cond (eqb role left || (eqb role left_surround || eqb role second_left)) 0
    (cond (eqb role right || (eqb role right_surround || eqb role second_right)) 1 (cond lr 1 0))

-- the base channel that main channel m copies; with one base channel always the first
unfoldable pub base_of : ℕ → ℕ → ℕ → Bool → ℕ → ℕ
base_of pair tc m lr base_channels = cond (eqb base_channels 1) 0 (fallback_of (get_or (tc_roles_of pair tc) m left) lr)

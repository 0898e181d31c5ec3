-- Dematrixing (ISO/IEC 13818-3, 2.5.3.2.1.1) and inverse weighting (2.5.3.2.5), by configuration, procedure and tc_allocation.
use Rattle.std.specs.Prelude.{cond, List, [], ◌∷◌, ℕ, suc, eqb, Float, get_or}
use Rattle.std.specs.Float.{nan, binary64}
use Rattle.std.specs.Float.Ieee.{of_bits, neg}
use Rattle.floats.specs.Binary64.{◌⊕◌, ◌⊖◌, ◌⊗◌, zero64}
use Rattle.mc_config.specs.Config.{by_pair}

abbrev pub root2 : Float
root2 = of_bits binary64 0x3FF6A09E667F3BCD

abbrev pub half : Float
half = of_bits binary64 0x3FE0000000000000

abbrev pub one : Float
one = of_bits binary64 0x3FF0000000000000

abbrev pub one_and_half : Float
one_and_half = of_bits binary64 0x3FF8000000000000

abbrev pub two : Float
two = of_bits binary64 0x4000000000000000

-- the factor that undoes the encoder's attenuation
unfoldable pub denorm : ℕ → Float
denorm procedure = cond (eqb procedure 1) (one_and_half ⊕ half ⊗ root2) (one ⊕ root2)

-- the inverse weights of centre and surround, then that factor
abbrev pub front : ℕ → Float → Float
front procedure x = x ⊗ denorm procedure

abbrev pub centred : ℕ → Float → Float
centred procedure x = x ⊗ root2 ⊗ denorm procedure

abbrev pub surround : ℕ → Float → Float
surround procedure x = x ⊗ cond (eqb procedure 1) two root2 ⊗ denorm procedure

-- the row of a tc_allocation, counted from i on; the last row stands for every other
abbrev pub row_from : ℕ → List (List Float) → List Float → ℕ → List Float
row_from i [] last tc = last
row_from i (row ∷ rows) last tc = cond (eqb tc i) row (row_from (suc i) rows last tc)

abbrev pub row_of : List (List Float) → List Float → ℕ → List Float
row_of rows last tc = row_from 0 rows last tc

-- ---- the weighted signals, in the order of the layout: left, right, centre, then surround, as far as the configuration has them

-- 3/2, procedures 0 and 1
unfoldable pub weighted32 : ℕ → Float → Float → Float → Float → Float → List Float
weighted32 tc lo ro t2 t3 t4 =
    row_of
    ((lo ⊖ t2 ⊖ t3 ∷ ro ⊖ t2 ⊖ t4 ∷ t2 ∷ t3 ∷ t4 ∷ [])
    ∷ (let cw = lo ⊖ t2 ⊖ t3 in t2 ∷ ro ⊖ cw ⊖ t4 ∷ cw ∷ t3 ∷ t4 ∷ [])
    ∷ (let cw = ro ⊖ t2 ⊖ t4 in lo ⊖ cw ⊖ t3 ∷ t2 ∷ cw ∷ t3 ∷ t4 ∷ [])
    ∷ (t3 ∷ ro ⊖ t2 ⊖ t4 ∷ t2 ∷ lo ⊖ t3 ⊖ t2 ∷ t4 ∷ [])
    ∷ (lo ⊖ t2 ⊖ t3 ∷ t4 ∷ t2 ∷ t3 ∷ ro ⊖ t4 ⊖ t2 ∷ [])
    ∷ (t3 ∷ t4 ∷ t2 ∷ lo ⊖ t3 ⊖ t2 ∷ ro ⊖ t4 ⊖ t2 ∷ [])
    ∷ (let cw = ro ⊖ t2 ⊖ t4 in t3 ∷ t2 ∷ cw ∷ lo ⊖ t3 ⊖ cw ∷ t4 ∷ [])
    ∷ [])
    (let cw = lo ⊖ t2 ⊖ t3 in t2 ∷ t4 ∷ cw ∷ t3 ∷ ro ⊖ t4 ⊖ cw ∷ [])
    tc

-- 3/2, procedure 2: the surround takes part in the front as 0.5 (t3 + t4)
unfoldable pub phased32 : ℕ → Float → Float → Float → Float → Float → List Float
phased32 tc lo ro t2 t3 t4 =
    let jsw = half ⊗ (t3 ⊕ t4) in
    row_of
    ((lo ⊖ t2 ⊕ jsw ∷ ro ⊖ t2 ⊖ jsw ∷ t2 ∷ t3 ∷ t4 ∷ [])
    ∷ (let cw = lo ⊖ t2 ⊕ jsw in t2 ∷ ro ⊖ cw ⊖ jsw ∷ cw ∷ t3 ∷ t4 ∷ [])
    ∷ (let cw = ro ⊖ t2 ⊖ jsw in lo ⊖ cw ⊕ jsw ∷ t2 ∷ cw ∷ t3 ∷ t4 ∷ [])
    ∷ (t3 ∷ lo ⊕ ro ⊖ two ⊗ t2 ⊖ t3 ∷ t2 ∷ neg two ⊗ (lo ⊖ t2 ⊖ t3) ⊖ t4 ∷ t4 ∷ [])
    ∷ (lo ⊕ ro ⊖ two ⊗ t2 ⊖ t4 ∷ t4 ∷ t2 ∷ t3 ∷ two ⊗ ro ⊖ two ⊗ (t2 ⊕ t4) ⊖ t3 ∷ [])
    ∷ (let jlsw = half ⊗ (ro ⊖ lo ⊕ t3 ⊖ t4) in t3 ∷ t4 ∷ t2 ∷ jlsw ∷ jlsw ∷ [])
    ∷ (t3 ∷ t2 ∷ half ⊗ (ro ⊕ lo ⊖ t2 ⊖ t3) ∷ ro ⊖ lo ⊖ t2 ⊕ t3 ⊖ t4 ∷ t4 ∷ [])
    ∷ [])
    (t2 ∷ t4 ∷ half ⊗ (lo ⊕ ro ⊖ t2 ⊖ t4) ∷ t3 ∷ ro ⊖ lo ⊕ t2 ⊖ t3 ⊖ t4 ∷ [])
    tc

-- 3/1, procedures 0 and 1
unfoldable pub weighted31 : ℕ → Float → Float → Float → Float → List Float
weighted31 tc lo ro t2 t3 =
    row_of
    ((lo ⊖ t2 ⊖ t3 ∷ ro ⊖ t2 ⊖ t3 ∷ t2 ∷ t3 ∷ [])
    ∷ (let cw = lo ⊖ t2 ⊖ t3 in t2 ∷ ro ⊖ cw ⊖ t3 ∷ cw ∷ t3 ∷ [])
    ∷ (let cw = ro ⊖ t2 ⊖ t3 in lo ⊖ cw ⊖ t3 ∷ t2 ∷ cw ∷ t3 ∷ [])
    ∷ (let sw = lo ⊖ t2 ⊖ t3 in t3 ∷ ro ⊖ t2 ⊖ sw ∷ t2 ∷ sw ∷ [])
    ∷ [])
    (let sw = ro ⊖ t2 ⊖ t3 in lo ⊖ t2 ⊖ sw ∷ t3 ∷ t2 ∷ sw ∷ [])
    tc

-- 3/1, procedure 2
unfoldable pub phased31 : ℕ → Float → Float → Float → Float → List Float
phased31 tc lo ro t2 t3 =
    row_of
    ((lo ⊖ t2 ⊕ t3 ∷ ro ⊖ t2 ⊖ t3 ∷ t2 ∷ t3 ∷ [])
    ∷ (let cw = lo ⊖ t2 ⊕ t3 in t2 ∷ ro ⊖ cw ⊖ t3 ∷ cw ∷ t3 ∷ [])
    ∷ (let cw = ro ⊖ t2 ⊖ t3 in lo ⊖ cw ⊕ t3 ∷ t2 ∷ cw ∷ t3 ∷ [])
    ∷ (let jsw = neg lo ⊕ t2 ⊕ t3 in t3 ∷ ro ⊖ t2 ⊖ jsw ∷ t2 ∷ jsw ∷ [])
    ∷ (let jsw = ro ⊖ t2 ⊖ t3 in lo ⊖ t2 ⊕ jsw ∷ t3 ∷ t2 ∷ jsw ∷ [])
    ∷ [])
    (t2 ∷ t3 ∷ half ⊗ (ro ⊕ lo ⊖ t2 ⊖ t3) ∷ half ⊗ (ro ⊖ lo ⊕ t2 ⊖ t3) ∷ [])
    tc

-- 3/0 and 2/1, with one main channel x, centre or surround: left, right, x
unfoldable pub weighted1 : ℕ → Float → Float → Float → List Float
weighted1 tc lo ro t2 =
    row_of
    ((lo ⊖ t2 ∷ ro ⊖ t2 ∷ t2 ∷ [])
    ∷ (let x = lo ⊖ t2 in t2 ∷ ro ⊖ x ∷ x ∷ [])
    ∷ [])
    (let x = ro ⊖ t2 in lo ⊖ x ∷ t2 ∷ x ∷ [])
    tc

-- 2/2
unfoldable pub weighted22 : ℕ → Float → Float → Float → Float → List Float
weighted22 tc lo ro t2 t3 =
    row_of
    ((lo ⊖ t2 ∷ ro ⊖ t3 ∷ t2 ∷ t3 ∷ [])
    ∷ (t2 ∷ ro ⊖ t3 ∷ lo ⊖ t2 ∷ t3 ∷ [])
    ∷ (lo ⊖ t2 ∷ t3 ∷ t2 ∷ ro ⊖ t3 ∷ [])
    ∷ [])
    (t2 ∷ t3 ∷ lo ⊖ t2 ∷ ro ⊖ t3 ∷ [])
    tc

-- ---- inverse weighting (2.5.3.2.5), by configuration

-- each signal times what its channel is for: the first two front, then centre or surround; +0 up to five
abbrev pub at : List Float → ℕ → Float
at xs i = get_or xs i nan

unfoldable pub unweighted : ℕ → ℕ → List Float → List Float
unweighted pair p xs =
    by_pair (front p (at xs 0) ∷ front p (at xs 1) ∷ centred p (at xs 2) ∷ surround p (at xs 3) ∷ surround p (at xs 4) ∷ [])
    (front p (at xs 0) ∷ front p (at xs 1) ∷ centred p (at xs 2) ∷ surround p (at xs 3) ∷ zero64 ∷ [])
    (front p (at xs 0) ∷ front p (at xs 1) ∷ centred p (at xs 2) ∷ zero64 ∷ zero64 ∷ [])
    (front p (at xs 0) ∷ front p (at xs 1) ∷ surround p (at xs 2) ∷ surround p (at xs 3) ∷ zero64 ∷ [])
    (front p (at xs 0) ∷ front p (at xs 1) ∷ surround p (at xs 2) ∷ zero64 ∷ zero64 ∷ [])
    (at xs 0 ∷ at xs 1 ∷ zero64 ∷ zero64 ∷ zero64 ∷ [])
    pair

-- the weighted signals of a configuration; with no main channel the base channels themselves, never weighted
unfoldable pub weighted : ℕ → ℕ → ℕ → Float → Float → Float → Float → Float → List Float
weighted pair p tc lo ro t2 t3 t4 =
    by_pair (cond (eqb p 2) (phased32 tc lo ro t2 t3 t4) (weighted32 tc lo ro t2 t3 t4))
    (cond (eqb p 2) (phased31 tc lo ro t2 t3) (weighted31 tc lo ro t2 t3))
    (weighted1 tc lo ro t2)
    (weighted22 tc lo ro t2 t3)
    (weighted1 tc lo ro t2)
    (lo ∷ ro ∷ [])
    pair

-- procedure 3 passes the signals through
unfoldable pub passed : ℕ → Float → Float → Float → Float → Float → List Float
passed pair lo ro t2 t3 t4 =
    by_pair (lo ∷ ro ∷ t2 ∷ t3 ∷ t4 ∷ [])
    (lo ∷ ro ∷ t2 ∷ t3 ∷ zero64 ∷ [])
    (lo ∷ ro ∷ t2 ∷ zero64 ∷ zero64 ∷ [])
    (lo ∷ ro ∷ t2 ∷ t3 ∷ zero64 ∷ [])
    (lo ∷ ro ∷ t2 ∷ zero64 ∷ zero64 ∷ [])
    (lo ∷ ro ∷ zero64 ∷ zero64 ∷ zero64 ∷ [])
    pair

-- the five output values of a slot and subband, +0 beyond the configuration's
unfoldable pub dematrixed : ℕ → ℕ → ℕ → Float → Float → Float → Float → Float → List Float
dematrixed pair procedure tc lo ro t2 t3 t4 =
    cond (eqb procedure 3) (passed pair lo ro t2 t3 t4) (unweighted pair procedure (weighted pair procedure tc lo ro t2 t3 t4))

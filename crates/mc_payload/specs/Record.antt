-- From codes to the record (ISO/IEC 13818-3, 2.5.2.17 and 2.5.3.2.4; ISO/IEC 11172-3, 2.4.3.3): what each field says, by its place.
use Rattle.std.specs.Prelude.{cond, List, ℕ, zero, suc, ◌+◌, ◌*◌, ◌/◌, ◌%◌, eqb, ltb, Float, get_or}
use Rattle.fill.specs.Tab.{tab}
use Rattle.floats.specs.Binary64.{zero64}
use Rattle.bits.specs.Total.{total}
use Rattle.bitalloc.specs.Classes.{grouped}
use Rattle.requant.specs.Requant
use Rattle.requant.specs.Requant.{degrouped, excess_of, lfe_sample_of, coefficient_of}
use Rattle.mc_fields.specs.Head.{count_at}
use Rattle.mc_payload.specs.declared.McSettings.{McSettings}
use Rattle.mc_payload.specs.Places.{own_at}
use Rattle.mc_payload.specs.Payload.{Codes}

-- scfsi of channel m in subband sb
abbrev pub scfsi_of : Codes → ℕ → ℕ → ℕ
scfsi_of c m sb = get_or c.0 (3 * sb + m) 0

-- the delay of predictor px of group g
abbrev pub delay_of : Codes → ℕ → ℕ → ℕ
delay_of c g px = get_or c.1.0 (4 * (6 * g + px)) 0

-- its coefficient k; +0 where none was sent
abbrev pub coef_of : List ℕ → Codes → ℕ → ℕ → ℕ → Float
coef_of predsi c g px k = cond (ltb k (count_at predsi g px)) (coefficient_of (get_or c.1.0 (4 * (6 * g + px) + 1 + k) 0)) zero64

-- the LFE channel's scalefactor index
abbrev pub lf_scalefactor_of : Codes → ℕ
lf_scalefactor_of c = c.1.1.0

-- the scalefactor index of channel m in subband sb, in the part 0 to 2 of the frame
abbrev pub scalefactor_at : Codes → ℕ → ℕ → ℕ → ℕ
scalefactor_at c m sb part = get_or c.1.1.1.0 (3 * (3 * sb + m) + part) 0

-- the code k of the three that channel m has in subband sb of granule gr
abbrev pub code_of : Codes → ℕ → ℕ → ℕ → ℕ → ℕ
code_of c gr m sb k = get_or c.1.1.1.1 (289 * gr + 1 + 3 * (3 * sb + m) + k) 0

-- a sample's code: a digit of its group code, or its own
abbrev pub sample_code_of : ℕ → Codes → ℕ → ℕ → ℕ → ℕ
sample_code_of n c m slot sb = cond (grouped n) (get_or (degrouped n (code_of c (slot / 3) m sb 0)) (slot % 3) 0) (code_of c (slot / 3) m sb (slot % 3))

-- what the group code of channel m in subband sb of granule gr holds beyond its digits; 0 where there is none
unfoldable pub excess_at : McSettings → Codes → ℕ → ℕ → ℕ → ℕ
excess_at s c gr m sb =
    let n = own_at s m sb in
    cond (grouped n) (excess_of n (code_of c gr m sb 0)) 0

-- the raw value of channel m in a slot and subband; +0 where the payload has none
unfoldable pub raw_at : McSettings → Codes → ℕ → ℕ → ℕ → Float
raw_at s c m slot sb =
    let n = own_at s m sb in
    cond (eqb n 0) zero64 (Requant.raw_of n (sample_code_of n c m slot sb))

-- the LFE sample of a granule; +0 without an LFE allocation
unfoldable pub lfe_at : ℕ → Codes → ℕ → Float
lfe_at lfe c gr = cond (eqb lfe 0) zero64 (lfe_sample_of lfe (lf_scalefactor_of c) (get_or c.1.1.1.1 (289 * gr) 0))

-- ---- the record, as finishing takes it

pub record Record : Type 0 where
  -- channel m, slot and subband at (36 m + slot) 32 + sb
  pub raw : List Float
  -- channel m, subband and part at 3 (3 sb + m) + part
  pub scalefactor : List ℕ
  -- by group and predictor
  pub delay : List (List ℕ)
  -- by group, predictor and coefficient
  pub coef : List (List (List Float))
  -- by granule
  pub lfe : List Float
  -- place 3 sb + m and granule at 12 (3 sb + m) + granule
  pub excess : List ℕ

unfoldable pub raw_of : McSettings → Codes → List Float
raw_of s c = tab (λ (k : ℕ). raw_at s c (k / 1152) (k / 32 % 36) (k % 32)) 3456

unfoldable pub delays_of : Codes → List (List ℕ)
delays_of c = tab (λ (g : ℕ). tab (delay_of c g) 6) 8

unfoldable pub coefs_of : List ℕ → Codes → List (List (List Float))
coefs_of predsi c = tab (λ (g : ℕ). tab (λ (px : ℕ). tab (coef_of predsi c g px) 3) 6) 8

unfoldable pub lfe_of : ℕ → Codes → List Float
lfe_of lfe c = tab (lfe_at lfe c) 12

unfoldable pub excesses_of : McSettings → Codes → List ℕ
excesses_of s c = tab (λ (k : ℕ). excess_at s c (k % 12) (k / 12 % 3) (k / 36)) 1152

unfoldable pub record_of : McSettings → Codes → Record
record_of s c =
    record {
      raw = raw_of s c;
      scalefactor = c.1.1.1.0;
      delay = delays_of c;
      coef = coefs_of s.status.mc_prediction c;
      lfe = lfe_of s.lfe_allocation c;
      excess = excesses_of s c;
    }

-- one for a number that is not 0
unfoldable pub one_for : ℕ → ℕ
one_for zero = 0
one_for (suc n) = 1

-- how many group codes hold more than their digits
unfoldable pub excess_codes : List ℕ → ℕ
excess_codes excesses = total 1152 0 (λ k. one_for (get_or excesses k 0))

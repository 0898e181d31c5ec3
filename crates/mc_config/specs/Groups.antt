-- Subband groups (ISO/IEC 13818-3, 2.5.2.15): subbands 0 to 7 singly, then 8-9, 10-11, 12-15 and 16-31.
use Rattle.std.specs.Prelude.{cond, ℕ, ltb}

-- the group of a subband
unfoldable pub sbgr_of : ℕ → ℕ
sbgr_of sb = cond (ltb sb 8) sb (cond (ltb sb 10) 8 (cond (ltb sb 12) 9 (cond (ltb sb 16) 10 11)))

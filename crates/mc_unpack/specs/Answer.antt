-- What an unpacking call answers, and what it leaves in both buffers.
use Rattle.std.specs.Prelude.{Bool, ◌&&◌, cond, List, ℕ, eqb, Float, length, Result, Ok, Err}
use Rattle.bits.specs.Syntax.{Outcome, plain, accepted, refused}
use Rattle.mc_error.specs.declared.McError.{McError}
use Rattle.mc_error.specs.Error.{refusal_of}
use Rattle.mc_payload.specs.declared.McSettings.{McSettings}
use Rattle.mc_unpack.specs.declared.entry.Unpacked.{Unpacked}
use Rattle.mc_payload.specs.Payload.{Codes}
use Rattle.mc_payload.specs.Record.{raw_of, lfe_of, excesses_of, excess_codes}
use Rattle.mc_payload.specs.Unpack.{Loan, settings_of, unpack_of}

-- the tables of a record: scfsi, predictor codes, the LFE channel's scalefactor index, scalefactor indices, and excesses of group codes
abbrev pub Tables : Type 0
Tables = List ℕ × (List ℕ × (ℕ × (List ℕ × List ℕ)))

abbrev pub tables_by : Codes → List ℕ → Tables
tables_by c excesses = (c.0, (c.1.0, (c.1.1.0, (c.1.1.1.0, excesses))))

abbrev pub tables_of : McSettings → Codes → Tables
tables_of s c = tables_by c (excesses_of s c)

-- ---- what is left

pub record After : Type 0 where
  -- accepted, with the tables, the number of group codes that have an excess and the used bits; or refused
  pub outcome : Outcome (Tables × ℕ)
  pub raw : List Float
  pub lfe : List Float

abbrev pub values_of : Unpacked → Tables
values_of r = (r.scfsi, (r.predictors, (r.lf_scalefactor, (r.scalefactors, r.excesses))))

-- what the call's answer says, beside the buffers
abbrev pub answered : Result Unpacked McError → Outcome (Tables × ℕ)
answered (Ok u) = accepted (values_of u, u.excess_codes) u.payload_bits
answered (Err e) = refused (refusal_of e)

abbrev pub after_of : Result Unpacked McError → List Float → List Float → After
after_of r raw lfe = record { outcome = answered r; raw = raw; lfe = lfe }

-- what it has to say: buffers of any other length are a wrong loan, refusal 6
abbrev pub room_fits : ℕ → ℕ → Bool
room_fits raw lfe = eqb raw 3456 && eqb lfe 12

unfoldable pub checked_of : Loan → List ℕ → ℕ → ℕ → ℕ → Outcome Codes
checked_of l bytes bits raw lfe = cond (room_fits raw lfe) (unpack_of l bytes bits) (refused (plain 6))

-- the record's tables and samples; a refusal leaves both buffers as they were
abbrev pub leaves : McSettings → List Float → List Float → Outcome Codes → After
leaves s raw lfe (accepted c used) =
    record { outcome = accepted (tables_of s c, excess_codes (excesses_of s c)) used; raw = raw_of s c; lfe = lfe_of s.lfe_allocation c }
leaves s raw lfe (refused x) = record { outcome = refused x; raw = raw; lfe = lfe }

unfoldable pub unpack_call : Loan → List ℕ → ℕ → List Float → List Float → After
unpack_call l bytes bits raw lfe = leaves (settings_of l) raw lfe (checked_of l bytes bits (length raw) (length lfe))

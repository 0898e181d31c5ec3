-- The number, group and code of each refusal.
use Rattle.std.specs.Prelude.{ℕ, ◌+◌, ◌*◌, ◌%◌}
use Rattle.bits.specs.Syntax.{Refusal, plain}
use Rattle.mc_error.specs.declared.McError.{McError}
use Rattle.mc_error.specs.declared.McError.TheVariants.{UnexpectedEnd, ForbiddenDynCrossMode, MlLayer3Unsupported, ReservedScalefactor, ConfigChanged, InvalidArgument, ValueOutOfRange, InvalidAllocation, UndefinedCentre, InvalidDesk}

-- 1 short, 2 forbidden crosstalk, 3 Layer III commentary, 4 reserved scalefactor, 5 layout changed, 6 wrong loan, 7 wild value, 8 wrong allocation, 13 centre code,
-- 14 desk
abbrev pub refusal_of : McError → Refusal
refusal_of UnexpectedEnd = plain 1
refusal_of (ForbiddenDynCrossMode sbgr mode) = record { number = 2; group = sbgr; code = mode }
refusal_of MlLayer3Unsupported = plain 3
refusal_of ReservedScalefactor = plain 4
refusal_of ConfigChanged = plain 5
refusal_of InvalidArgument = plain 6
refusal_of ValueOutOfRange = plain 7
refusal_of InvalidAllocation = plain 8
refusal_of UndefinedCentre = plain 13
refusal_of InvalidDesk = plain 14

-- the low 8 bits are the refusal's number, the next 24 the group, the rest the code
abbrev pub packed_refusal : Refusal → ℕ
packed_refusal x = x.number + x.group % 16777216 * 256 + x.code * 4294967296

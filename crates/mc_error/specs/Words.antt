-- The words that are printed of a refusal, as bytes. Definitions only.
use Rattle.std.specs.Prelude.{List, ℕ, codes}
use Rattle.mc_error.specs.declared.McError.{McError}
use Rattle.mc_error.specs.declared.McError.TheVariants.{UnexpectedEnd, ForbiddenDynCrossMode, MlLayer3Unsupported, ReservedScalefactor, ConfigChanged, InvalidArgument, ValueOutOfRange, InvalidAllocation, UndefinedCentre, InvalidDesk}

-- what is wrong with a refused frame
abbrev pub words_of : McError → List ℕ
words_of UnexpectedEnd = codes "a field passes the bit count of its string"
words_of (ForbiddenDynCrossMode group code) = codes "a crosstalk code is not listed"
words_of MlLayer3Unsupported = codes "the header's Layer III flag is set"
words_of ReservedScalefactor = codes "a scalefactor index is 63, which is reserved"
words_of ConfigChanged = codes "the layout, or under reading 1 its number of channels, is another than before"
words_of InvalidArgument = codes "a bit count, reading, rate, LFE allocation, base step count or layout is wrong"
words_of ValueOutOfRange = codes "a base or history value is not within -4 to 4"
words_of InvalidAllocation = codes "a step count or LFE allocation that the head does not admit"
words_of UndefinedCentre = codes "the centre code is 2, which has no meaning under reading 2"
words_of InvalidDesk = codes "the desk is above 7"

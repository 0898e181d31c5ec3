-- The words that are printed of a file's faults, as bytes. Definitions only.
use Rattle.std.specs.Prelude.{List, ℕ, ◌++◌, codes}
use Rattle.std.specs.Fmt.{decimal}
use Rattle.frame_file.specs.declared.frame.FrameFault.{FrameFault}
use Rattle.frame_file.specs.declared.frame.FrameFault.TheVariants.{Call, Carried, BaseChannels, HeadBytes, PayloadBytes}
use Rattle.frame_file.specs.declared.opening.OpeningFault.{OpeningFault}
use Rattle.frame_file.specs.declared.opening.OpeningFault.TheVariants.{Empty, OtherLetters, OpeningCut, Neither0Nor1}

abbrev pub opening_words : OpeningFault → List ℕ
opening_words Empty = codes "the input is empty"
opening_words OtherLetters = codes "it does not begin with MCFRAMES or MCFRAME2"
opening_words OpeningCut = codes "it ends inside the opening"
opening_words Neither0Nor1 = codes "byte 12, which says whether a state follows, is neither 0 nor 1"

abbrev pub frame_words : FrameFault → List ℕ
frame_words (Call n) = codes "is for call " ++ decimal n ++ codes ", which is not known"
frame_words (Carried n) = codes "has " ++ decimal n ++ codes " for whether the state is carried, which is neither 0 nor 1"
frame_words (BaseChannels n) = codes "has base channel count " ++ decimal n ++ codes ", which is neither 1 nor 2"
frame_words (HeadBytes n) = codes "has head bytes " ++ decimal n ++ codes ", above 8192"
frame_words (PayloadBytes n) = codes "has payload bytes " ++ decimal n ++ codes ", above 8192"

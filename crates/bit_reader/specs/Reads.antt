-- What a function that reads a part promises of its result and of the reader.
use Rattle.std.specs.Prelude.{◌≡◌, Result, Ok, Err}
use Rattle.bits.specs.Syntax.{Syntax, Outcome, done, refuse, run}
use Rattle.mc_error.specs.declared.McError.{McError}
use Rattle.mc_error.specs.Error.{refusal_of}
use Rattle.bit_reader.specs.declared.BitReader.{BitReader}

-- what a program finds from a reader's position on
abbrev pub run_at : {A : Type 0} → BitReader → Syntax A → Outcome A
run_at r m = run m r.string.bytes.now r.string.bits r.at

-- from the reader r the program m goes on at the reader r' as the program m'
pub record Goes {A : Type 0} (r : BitReader) (m : Syntax A) (r' : BitReader) (m' : Syntax A) : Type 0 where
  pub string : r'.string ≡ r.string
  pub same : run_at r m ≡ run_at r' m'

-- a program that ends as a result says
abbrev pub ended : {A : Type 0} → Result A McError → Syntax A
ended (Ok a) = done a
ended (Err e) = refuse (refusal_of e)

-- from the reader r the program m ends with the result x, and at the reader r'; after a refusal that may stand at any bit
abbrev pub Reads : {A : Type 0} → BitReader → Syntax A → Result A McError → BitReader → Type 0
Reads r m x r' = Goes r m r' (ended x)

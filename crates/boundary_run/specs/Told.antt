-- What a line says of an answer.
use Rattle.std.specs.Prelude.{List, ℕ, ◌++◌, codes, Result, Ok, Err}
use Rattle.std.specs.Fmt.{decimal}
use Rattle.mc_error.specs.Error.{refusal_of}
use Rattle.mc_error.specs.declared.McError.{McError}
use Rattle.mc_state.specs.declared.Accepted.{Accepted}

-- accepted, and the used bits of head and payload and the number of group codes with an excess; or the refusal's number, group and code
abbrev pub told_of : Result Accepted McError → List ℕ
told_of (Ok a) =
    codes "accepted, " ++ (decimal a.head_bits ++ (codes " head bits, " ++ (decimal a.payload_bits ++ (codes " payload bits, " ++ (decimal a.excess_codes ++ codes " excess codes")))))
told_of (Err e) =
    codes "refusal " ++ (decimal (refusal_of e).number ++ (codes ", group " ++ (decimal (refusal_of e).group ++ (codes ", code " ++ decimal (refusal_of e).code))))

-- Each case of what a line says of an answer.
use Rattle.std.specs.Prelude.{◌≡◌, ℕ, ◌++◌, codes, Result, Ok, Err}
use Rattle.std.specs.Fmt.{decimal}
use Rattle.mc_error.specs.Error.{refusal_of}
use Rattle.mc_error.specs.declared.McError.{McError}
use Rattle.mc_state.specs.declared.Accepted.{Accepted}
use Rattle.boundary_run.specs.Told.{told_of}

module _ (a : Result Accepted McError) where
  pub told-accepted : (h p x : ℕ) → a ≡ Ok (record { head_bits = h; payload_bits = p; excess_codes = x })
      → codes "accepted, " ++ (decimal h ++ (codes " head bits, " ++ (decimal p ++ (codes " payload bits, " ++ (decimal x ++ codes " excess codes"))))) ≡ told_of a
  told-accepted h p x q = rw q

  pub told-refused : (e : McError) (n g k : ℕ) → a ≡ Err e → n ≡ (refusal_of e).number → g ≡ (refusal_of e).group → k ≡ (refusal_of e).code
      → codes "refusal " ++ (decimal n ++ (codes ", group " ++ (decimal g ++ (codes ", code " ++ decimal k)))) ≡ told_of a
  told-refused e n g k q en eg ek = rw (q, en, eg, ek)

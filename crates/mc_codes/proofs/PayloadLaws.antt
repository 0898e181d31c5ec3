-- From what was read at the start of a string to what a payload's outcome is.
use Rattle.std.specs.Prelude.{◌≡◌, Bool, true, false, Result}
use Rattle.std.specs.Result.{IsErrAnd}
use Rattle.std.proofs.lemmas.Result.{err_from_is_err_and}
use Rattle.bits.specs.Syntax.{Syntax, Refusal, plain, accepted, refused, done, refuse, run}
use Rattle.mc_error.specs.declared.McError.{McError}
use Rattle.mc_error.specs.Error.{refusal_of}
use Rattle.bit_reader.specs.Reads.{Goes}
use Rattle.bit_reader.specs.declared.BitReader.{BitReader}
use Rattle.bit_reader.specs.declared.BitString.{BitString}
use Rattle.bit_reader.proofs.ReadLaws.{stays}
use Rattle.mc_payload.specs.Payload.{Codes, check_layer3}
use Rattle.mc_codes.specs.Outcome.{outcome_of}
use Rattle.mc_codes.specs.declared.payload.PayloadCodes.{PayloadCodes}

-- what follows the test of the Layer III flag
pub unflagged : {A : Type 0} {r r' : BitReader} {m k : Syntax A} {layer3 : Bool} → layer3 ≡ false → Goes r m r' k → Goes r (check_layer3 layer3 m) r' k
unfolding check_layer3
unflagged e g = rw e g

pub flagged : {A : Type 0} {r : BitReader} (m : Syntax A) {layer3 : Bool} → layer3 ≡ true → Goes r (check_layer3 layer3 m) r (refuse (plain 3))
unfolding check_layer3
flagged m e = rw e stays

module _ {r : BitReader} {s : BitString} (e : (r.string ≡ s) × (r.at ≡ 0)) {m : Syntax Codes} {r' : BitReader} where
  pub ends-accepted : {a : Codes} → Goes r m r' (done a) → run m s.bytes.now s.bits 0 ≡ accepted a r'.at
  unfolding run
  ends-accepted g = rw (← e.0, ← e.1) g.same

  pub ends-refused : {x : Refusal} → Goes r m r' (refuse x) → run m s.bytes.now s.bits 0 ≡ refused x
  unfolding run
  ends-refused g = rw (← e.0, ← e.1) g.same

  -- the refusal that `?` returns
  pub ends-returned : (x : Result (Unit {0}) McError) (y : McError) → IsErrAnd x (λ z. z ≡ y) → Goes r m r' (refuse (refusal_of y)) → (codes : PayloadCodes) → run m s.bytes.now s.bits 0 ≡ outcome_of x codes
  ends-returned x y h g codes = let p = err_from_is_err_and x h in rw (p.1, p.2) (ends-refused g)

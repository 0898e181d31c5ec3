-- Laws of parts that are read: one that is stored in another form, and the turns of a loop.
use Rattle.std.specs.Prelude.{◌≡◌, ℕ, ◌+◌, ◌-◌, ◌≤◌, ◌<◌, Result}
use Rattle.std.specs.Result.{IsErrAnd}
use Rattle.std.proofs.lemmas.Result.{err_from_is_err_and}
use Rattle.bits.specs.Syntax.{Syntax, Refusal, done, refuse, times}
use Rattle.mc_error.specs.declared.McError.{McError}
use Rattle.mc_error.specs.Error.{refusal_of}
use Rattle.bit_reader.specs.Reads.{Goes, ended}
use Rattle.bit_reader.specs.declared.BitReader.{BitReader}
use Rattle.bit_reader.proofs.ReadLaws.{stays, then, turns-over, turn-on, turn-stops}
use Rattle.mc_codes.specs.Parts.{stored}

-- what `?` returns where a part was refused, and its value would have been stored
pub returned-stored : {A B : Type 0} {r r' : BitReader} {m : Syntax B} (f : A → B) (x : Result A McError) (e : McError)
    → IsErrAnd x (λ y. y ≡ e) → Goes r m r' (refuse (refusal_of e)) → Goes r m r' (ended (stored f x))
returned-stored f x e h g = let p = err_from_is_err_and x h in rw (p.1, p.2) g

-- ---- the turns of a loop that reads the whole part m from the reader s on

module _ {A : Type 0} {s r : BitReader} {m : Syntax A} (f : ℕ → A → Syntax A) {a : A} (n i : ℕ) (inv : Goes s m r (times (n - i) i f a)) where
  pub next-turn : {r' : BitReader} {a' : A} → i < n → Goes r (f i a) r' (done a') → Goes s m r' (times (n - (i + 1)) (i + 1) f a')
  next-turn h g = then inv (turn-on f n i h g stays)

  pub last-turn : {r' : BitReader} {x : Refusal} → i < n → Goes r (f i a) r' (refuse x) → Goes s m r' (refuse x)
  last-turn h g = then inv (turn-stops f n i h g)

  pub no-turn : n ≤ i → Goes s m r (done a)
  no-turn h = then inv (turns-over f n i h)

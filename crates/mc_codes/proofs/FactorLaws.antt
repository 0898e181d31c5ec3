-- A scalefactor index and what follows it.
use Rattle.std.specs.Prelude.{◌≡◌, refl, Bool, true, false, cond, List, ℕ, ◌*◌, ◌<◌, eqb}
use Rattle.std.proofs.Common.{ap, ne_eqb, arith}
use mathlib.Core.Path.{fun_ext}
use Rattle.bits.specs.Table.{set3}
use Rattle.bits.specs.Syntax.{Syntax, Refusal, plain, done, refuse, field, bind}
use Rattle.bit_reader.specs.Reads.{Goes}
use Rattle.bit_reader.specs.declared.BitReader.{BitReader}
use Rattle.bit_reader.proofs.ReadLaws.{goes-on, stops}
use Rattle.mc_payload.specs.Payload.{factor, factors_by}

-- two parts
factor-bind : {A : Type 0} (k : ℕ → Syntax A) → factor k ≡ bind (factor (λ v. done v)) k
unfolding factor bind
factor-bind k = ap (field 6) (fun_ext (λ v. by (eqb v 63) v))
  where
    by : (t : Bool) (v : ℕ) → cond t (refuse (plain 4)) (k v) ≡ bind (cond t (refuse (plain 4)) (done v)) k
    by true v = refl
    by false v = refl

pub factor-on : {B : Type 0} {r r' r'' : BitReader} {v : ℕ} (k : ℕ → Syntax B) {m : Syntax B}
    → Goes r (factor (λ u. done u)) r' (done v) → Goes r' (k v) r'' m → Goes r (factor k) r'' m
factor-on k g h = rw (factor-bind k) (goes-on k g h)

pub factor-stops : {B : Type 0} {r r' : BitReader} {x : Refusal} (k : ℕ → Syntax B)
    → Goes r (factor (λ u. done u)) r' (refuse x) → Goes r (factor k) r' (refuse x)
factor-stops k g = rw (factor-bind k) (stops k g)

-- the last code has two factors, the second for two parts
pub last-shared : (code i : ℕ) (a : List ℕ) → 2 < code → factors_by code i a ≡ factor (λ x. factor (λ y. done (set3 a (3 * i) x y y)))
unfolding factors_by
last-shared code i a h = rw (ne_eqb code 0 (λ e. absurd (omega arith)), ne_eqb code 1 (λ e. absurd (omega arith)), ne_eqb code 2 (λ e. absurd (omega arith))) refl

-- Laws of what readers promise: parts in a row, choices and loops.
use Rattle.std.specs.Prelude.{◌≡◌, List, ℕ, suc, ◌+◌, ◌-◌, ◌^◌, ◌≤◌, ◌<◌, Result, Ok, Err}
use Rattle.std.specs.Result.{IsErrAnd}
use Rattle.std.proofs.lemmas.Result.{err_from_is_err_and}
use Rattle.std.proofs.Common.{refl, sym, ap, ◌∙◌, arith, add-one, le-leb}
use Rattle.std.proofs.lemmas.Bool.{lt-leb}
use Rattle.std.proofs.Math.Decide.{dec_le}
use Rattle.bits.specs.Bits.{value_at}
use Rattle.bits.specs.Syntax.{Syntax, Refusal, plain, done, refuse, field, accepted, refused, run, bind, both, times, and_then}
use Rattle.bits.proofs.BitsLaws.{value<}
use Rattle.bits.proofs.SyntaxLaws.{fitted, run_bind, run_fits}
use Rattle.mc_error.specs.declared.McError.{McError}
use Rattle.mc_error.specs.declared.McError.TheVariants.{UnexpectedEnd}
use Rattle.mc_error.specs.Error.{refusal_of}
use Rattle.bit_reader.specs.Answer.{moved, read_at}
use Rattle.bit_reader.specs.Reads.{run_at, Goes, ended}
use Rattle.bit_reader.specs.declared.BitReader.{BitReader}

pub stays : {A : Type 0} {r : BitReader} {m : Syntax A} → Goes r m r m
stays = record { string = refl; same = refl }

pub then : {A : Type 0} {r r' r'' : BitReader} {m m' m'' : Syntax A} → Goes r m r' m' → Goes r' m' r'' m'' → Goes r m r'' m''
then g h = record { string = h.string ∙ g.string; same = g.same ∙ h.same }

-- a part that goes on as another, and then what follows
pub goes-bind : {A B : Type 0} {r r' : BitReader} {m m' : Syntax A} (k : A → Syntax B) → Goes r m r' m' → Goes r (bind m k) r' (bind m' k)
goes-bind {r = r} {r' = r'} {m = m} {m' = m'} k g =
    record {
      string = g.string;
      same =
          run_bind m k r.string.bytes.now r.string.bits r.at
          ∙ ap (λ o. and_then o (λ a u. run (k a) r.string.bytes.now r.string.bits u)) g.same
          ∙ ap (λ x. and_then (run_at r' m') (λ a u. run (k a) x.bytes.now x.bits u)) (sym g.string)
          ∙ sym (run_bind m' k r'.string.bytes.now r'.string.bits r'.at);
    }

-- a part that ends with a value, and then what follows
pub goes-on : {A B : Type 0} {r r' r'' : BitReader} {m : Syntax A} {a : A} (k : A → Syntax B) {m'' : Syntax B}
    → Goes r m r' (done a) → Goes r' (k a) r'' m'' → Goes r (bind m k) r'' m''
unfolding bind
goes-on k g h = then (goes-bind k g) h

-- a part that is refused
pub stops : {A B : Type 0} {r r' : BitReader} {m : Syntax A} {x : Refusal} (k : A → Syntax B)
    → Goes r m r' (refuse x) → Goes r (bind m k) r' (refuse x)
unfolding bind
stops k g = goes-bind k g

-- one field
pub field-on : {B : Type 0} {r r' r'' : BitReader} {n v : ℕ} {k : ℕ → Syntax B} {m'' : Syntax B}
    → Goes r (field n (λ u. done u)) r' (done v) → Goes r' (k v) r'' m'' → Goes r (field n k) r'' m''
unfolding bind
field-on {k = k} g h = then (goes-bind k g) h

pub field-stops : {B : Type 0} {r r' : BitReader} {n : ℕ} {x : Refusal} {k : ℕ → Syntax B}
    → Goes r (field n (λ u. done u)) r' (refuse x) → Goes r (field n k) r' (refuse x)
unfolding bind
field-stops {k = k} g = goes-bind k g

-- two parts, and both values
pub both-on : {A B : Type 0} {r r' r'' : BitReader} {m : Syntax A} {a : A} (k : A → Syntax B) {b : B}
    → Goes r m r' (done a) → Goes r' (k a) r'' (done b) → Goes r (both m k) r'' (done (a, b))
unfolding both
both-on k g h = goes-on _ g (goes-on _ h stays)

pub both-stops : {A B : Type 0} {r r' : BitReader} {m : Syntax A} {x : Refusal} (k : A → Syntax B)
    → Goes r m r' (refuse x) → Goes r (both m k) r' (refuse x)
unfolding both
both-stops k g = stops _ g

pub both-stops-late : {A B : Type 0} {r r' r'' : BitReader} {m : Syntax A} {a : A} {x : Refusal} (k : A → Syntax B)
    → Goes r m r' (done a) → Goes r' (k a) r'' (refuse x) → Goes r (both m k) r'' (refuse x)
unfolding both
both-stops-late k g h = goes-on _ g (stops _ h)

-- ---- loops: what is left at index i of n

pub turns-over : {A : Type 0} {r : BitReader} (f : ℕ → A → Syntax A) {a : A} (n i : ℕ) → n ≤ i → Goes r (times (n - i) i f a) r (done a)
unfolding times
turns-over f n i h = let e : n - i ≡ 0 = omega arith in rw e stays

-- a turn that goes on as another program, and then the rest
pub turn-in : {A : Type 0} {r r' : BitReader} (f : ℕ → A → Syntax A) {a : A} {m : Syntax A} (n i : ℕ) → i < n
    → Goes r (f i a) r' m → Goes r (times (n - i) i f a) r' (bind m (λ a'. times (n - (i + 1)) (i + 1) f a'))
unfolding times
turn-in f n i h g =
    let s : n - i ≡ suc (n - (i + 1)) = omega arith in
    rw (s, add-one i) (goes-bind _ g)

pub turn-on : {A : Type 0} {r r' r'' : BitReader} (f : ℕ → A → Syntax A) {a a' : A} {m : Syntax A} (n i : ℕ) → i < n
    → Goes r (f i a) r' (done a') → Goes r' (times (n - (i + 1)) (i + 1) f a') r'' m → Goes r (times (n - i) i f a) r'' m
unfolding bind
turn-on f n i h g k = then (turn-in f n i h g) k

pub turn-stops : {A : Type 0} {r r' : BitReader} (f : ℕ → A → Syntax A) {a : A} {x : Refusal} (n i : ℕ) → i < n
    → Goes r (f i a) r' (refuse x) → Goes r (times (n - i) i f a) r' (refuse x)
unfolding bind
turn-stops f n i h g = turn-in f n i h g

-- ---- where a part ends

-- with a value, and the position of the next bit
pub ended-value : {A : Type 0} {r r' : BitReader} {m : Syntax A} {a : A} → Goes r m r' (done a) → run_at r m ≡ accepted a r'.at
unfolding run
ended-value g = g.same

pub ended-refusal : {A : Type 0} {r r' : BitReader} {m : Syntax A} {x : Refusal} → Goes r m r' (refuse x) → run_at r m ≡ refused x
unfolding run
ended-refusal g = g.same

-- what `?` returns where a part was refused
pub returned : {A : Type 0} {r r' : BitReader} {m : Syntax A} (x : Result A McError) (e : McError)
    → IsErrAnd x (λ y. y ≡ e) → Goes r m r' (refuse (refusal_of e)) → Goes r m r' (ended x)
returned x e h g = let p = err_from_is_err_and x h in rw (p.1, p.2) g

-- ---- one read

-- a field within the limit
pub field-fits : {r r' : BitReader} (n v : ℕ) → r'.string ≡ r.string → r'.at ≡ r.at + n
    → r.at + n ≤ r.string.bits → v ≡ value_at r.string.bytes.now r.at n → Goes r (field n (λ u. done u)) r' (done v)
unfolding run
field-fits {r} n v es ea h e = record { string = es; same = rw (le-leb (r.at + n) r.string.bits h, ea, e) }

-- and one that passes it
pub field-short : {r r' : BitReader} (n : ℕ) → r'.string ≡ r.string
    → r.string.bits < r.at + n → Goes r (field n (λ u. done u)) r' (refuse (plain 1))
unfolding run
field-short {r} n es h = record { string = es; same = rw (lt-leb (r.at + n) r.string.bits h) }

-- a value that was read has no more bits than its field
pub read-bound : {r r' : BitReader} {n v : ℕ} → Goes r (field n (λ u. done u)) r' (done v) → v < 2 ^ n
unfolding run
read-bound {r} {r'} {n} {v} g =
    let f = (fitted n (λ u. done u) r.string.bytes.now r.string.bits r.at v r'.at (ended-value g)).rest in
    let e : value_at r.string.bytes.now r.at n ≡ v = cc in
    rw e at (value< r.string.bytes.now r.at n)

-- what a value that was read says: the field ends within the limit, and is the value
pub record Found (b : List ℕ) (l p n v : ℕ) : Type 0 where
  pub within : p + n ≤ l
  pub value : v ≡ value_at b p n

pub found : (b : List ℕ) (l p n v : ℕ) → Ok v ≡ read_at b l p n → Found b l p n v
unfolding read_at
found b l p n v e = go (dec_le (p + n) l)
  where
    go : Dec (p + n ≤ l) → Found b l p n v
    go (yes h) =
        let f : Ok v ≡ Ok (value_at b p n) = rw (le-leb (p + n) l h) at e in
        record { within = h; value = cc }
    go (no h) =
        let f : Ok v ≡ Err UnexpectedEnd = rw (lt-leb (p + n) l (omega arith)) at e in
        cc

-- what a refusal says: the field passes the limit
pub record Short (l p n : ℕ) (e : McError) : Type 0 where
  pub past : l < p + n
  pub error : e ≡ UnexpectedEnd

pub short : (b : List ℕ) (l p n : ℕ) (e : McError) → Err e ≡ read_at b l p n → Short l p n e
unfolding read_at
short b l p n e f = go (dec_le (p + n) l)
  where
    go : Dec (p + n ≤ l) → Short l p n e
    go (yes h) =
        let g : Err e ≡ Ok (value_at b p n) = rw (le-leb (p + n) l h) at f in
        cc
    go (no h) =
        let g : Err e ≡ Err UnexpectedEnd = rw (lt-leb (p + n) l (omega arith)) at f in
        record { past = omega arith; error = cc }

-- ---- where reads leave a reader

module _ (l n p : ℕ) where
  pub moved-fits : (k : ℕ) → p + n ≤ l → moved l n (suc k) p ≡ moved l n k (p + n)
  unfolding moved
  moved-fits k h = rw (le-leb (p + n) l h) refl

  pub moved-once : p + n ≤ l → moved l n 1 p ≡ p + n
  unfolding moved
  moved-once h = moved-fits 0 h

  pub moved-short : (k : ℕ) → l < p + n → moved l n (suc k) p ≡ p
  unfolding moved
  moved-short k h = rw (lt-leb (p + n) l h) refl

-- a field that was read is within the limit, and one that was refused passes it
field-within : {r r' : BitReader} {n v : ℕ} → Goes r (field n (λ u. done u)) r' (done v) → r.at + n ≤ r.string.bits
field-within {r} {r'} {n} {v} g = (fitted n (λ u. done u) r.string.bytes.now r.string.bits r.at v r'.at (ended-value g)).fits

field-past : {r r' : BitReader} {n : ℕ} {x : Refusal} → Goes r (field n (λ u. done u)) r' (refuse x) → r.string.bits < r.at + n
unfolding run
field-past {r} {r'} {n} {x} g = go (dec_le (r.at + n) r.string.bits)
  where
    go : Dec (r.at + n ≤ r.string.bits) → r.string.bits < r.at + n
    go (no h) = omega arith
    go (yes h) =
        let e : run (field n (λ u. done u)) r.string.bytes.now r.string.bits r.at ≡ accepted (value_at r.string.bytes.now r.at n) (r.at + n) =
        run_fits n (λ u. done u) r.string.bytes.now r.string.bits r.at h in
        let f = ended-refusal g in
        let z : ◌≡◌ {A = ℕ} 0 1 = cc in
        absurd (omega arith)

-- a read that answers, and k more
pub moved-on : {r r' r'' : BitReader} {n v : ℕ} (k : ℕ) → Goes r (field n (λ u. done u)) r' (done v)
    → r' ≡ record r { at = moved r.string.bits n 1 r.at } → r'' ≡ record r' { at = moved r'.string.bits n k r'.at }
    → r'' ≡ record r { at = moved r.string.bits n (suc k) r.at }
moved-on {r} {n = n} k g e e' =
    let h = field-within g in
    rw (moved-fits r.string.bits n r.at k h) (rw (e, moved-once r.string.bits n r.at h) at e')

-- a read that is refused, and no more
pub moved-stops : {r r' : BitReader} {n : ℕ} (k : ℕ) {x : Refusal} → Goes r (field n (λ u. done u)) r' (refuse x)
    → r' ≡ record r { at = moved r.string.bits n 1 r.at } → r' ≡ record r { at = moved r.string.bits n (suc k) r.at }
moved-stops {r} {n = n} k g e =
    let h = field-past g in
    e ∙ rw (moved-short r.string.bits n r.at 0 h, moved-short r.string.bits n r.at k h) refl

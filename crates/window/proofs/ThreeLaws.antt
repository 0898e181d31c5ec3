-- Three fields in one window of eight bytes, and three reads.
use Rattle.std.specs.Prelude.{◌≡◌, List, ℕ, [], ◌∷◌, ◌+◌, ◌-◌, ◌*◌, ◌/◌, ◌%◌, ◌^◌, ◌≤◌, ◌<◌, get_or, All}
use Rattle.std.proofs.Common.{refl, subst, ◌∙◌, add-zero, arith}
use Rattle.std.proofs.lemmas.List.Elements.{All-cons}
use Rattle.bits.specs.Bits.{value_at}
use Rattle.bits.specs.Syntax.{Syntax, Refusal, done, refuse, field, run, bind}
use Rattle.bits.proofs.SyntaxLaws.{fitted}
use Rattle.bits.proofs.BitsLaws.{value<}
use Rattle.bit_reader.specs.Answer.{moved}
use Rattle.bit_reader.specs.Reads.{Goes}
use Rattle.bit_reader.specs.declared.BitReader.{BitReader}
use Rattle.bit_reader.proofs.ReadLaws.{field-on, field-fits, goes-bind, then, stays, ended-value, moved-fits, moved-once}
use Rattle.window.specs.Three.{three}
use Rattle.window.proofs.WindowLaws.{window-field}

-- ---- three fields, and then more

-- a program of three values, by the three
by_three : {B : Type 0} → (ℕ → ℕ → ℕ → Syntax B) → List ℕ → Syntax B
by_three k t = k (get_or t 0 0) (get_or t 1 0) (get_or t 2 0)

module _ {B : Type 0} {r r' : BitReader} {n : ℕ} {k : ℕ → ℕ → ℕ → Syntax B} where
  pub three-on : {r'' : BitReader} {t : List ℕ} {m'' : Syntax B} → Goes r (three n) r' (done t) → Goes r' (k (get_or t 0 0) (get_or t 1 0) (get_or t 2 0)) r'' m''
      → Goes r (field n (λ x. field n (λ y. field n (λ z. k x y z)))) r'' m''
  unfolding three bind by_three
  three-on g h = then (goes-bind (by_three k) g) h

  pub three-stops : {x : Refusal} → Goes r (three n) r' (refuse x) → Goes r (field n (λ x. field n (λ y. field n (λ z. k x y z)))) r' (refuse x)
  unfolding three bind by_three
  three-stops g = goes-bind (by_three k) g

-- ---- the three fields of a window

module _ (r r' : BitReader) (n window : ℕ) (es : r'.string ≡ r.string) (ea : r'.at ≡ r.at + 3 * n) (h : r.at + 48 ≤ r.string.bits) (N : n ≤ 16)
    (e : window ≡ value_at r.string.bytes.now (r.at / 8 * 8) 64)
  where
    -- the reader after j bits
    after : ℕ → BitReader
    after j = record { string = r.string; at = r.at + j }

    part : (j x : ℕ) → j + n ≤ 48 → x ≡ window / 2 ^ (64 - (r.at % 8 + j) - n) % 2 ^ n → x ≡ value_at r.string.bytes.now (r.at + j) n
    part j x l ex =
        let d : r.at % 8 + j - r.at % 8 ≡ j = omega arith in
        rw d at (window-field r.string.bytes.now r.at n (r.at % 8 + j) window e (omega arith) (omega arith) x ex)

    pub three-window : (x y z : ℕ)
        → x ≡ window / 2 ^ (64 - r.at % 8 - n) % 2 ^ n
        → y ≡ window / 2 ^ (64 - (r.at % 8 + n) - n) % 2 ^ n
        → z ≡ window / 2 ^ (64 - (r.at % 8 + 2 * n) - n) % 2 ^ n
        → Goes r (three n) r' (done (x ∷ (y ∷ (z ∷ []))))
    unfolding three after
    three-window x y z ex ey ez =
        let x' = part 0 x (omega arith) (rw add-zero ex) in
        let y' = part n y (omega arith) ey in
        let z' = part (2 * n) z (omega arith) ez in
        field-on (field-fits {r' = after n} n x refl refl (omega arith) (rw add-zero at x'))
        (field-on (field-fits {r' = after (2 * n)} n y refl (omega arith) (omega arith) y')
        (field-on (field-fits {r' = r'} n z es (omega arith) (omega arith) z') stays))

-- ---- three reads

pub three-read : {r r' r'' r''' : BitReader} (n x y z : ℕ) → Goes r (field n (λ v. done v)) r' (done x) → Goes r' (field n (λ v. done v)) r'' (done y)
    → Goes r'' (field n (λ v. done v)) r''' (done z) → Goes r (three n) r''' (done (x ∷ (y ∷ (z ∷ []))))
unfolding three
three-read n x y z g h i = field-on g (field-on h (field-on i stays))

-- three fields within the limit are all read
pub three-moved : (l n p : ℕ) → p + 3 * n ≤ l → moved l n 3 p ≡ p + 3 * n
three-moved l n p h =
    moved-fits l n p 2 (omega arith) ∙ moved-fits l n (p + n) 1 (omega arith) ∙ moved-once l n (p + n + n) (omega arith) ∙ omega arith

-- the three have no more bits than their fields
pub three-fits : {r r' : BitReader} (n : ℕ) {t : List ℕ} → Goes r (three n) r' (done t) → All (λ v. v < 2 ^ n) t
unfolding three run
three-fits {r} {r'} n {t} g =
    let b = r.string.bytes.now in
    let l = r.string.bits in
    let x = value_at b r.at n in
    let y = value_at b (r.at + n) n in
    let z = value_at b (r.at + n + n) n in
    let f = fitted n (λ x. field n (λ y. field n (λ z. done (x ∷ (y ∷ (z ∷ [])))))) b l r.at t r'.at (ended-value g) in
    let h = fitted n (λ y. field n (λ z. done (x ∷ (y ∷ (z ∷ []))))) b l (r.at + n) t r'.at f.rest in
    let i = (fitted n (λ z. done (x ∷ (y ∷ (z ∷ [])))) b l (r.at + n + n) t r'.at h.rest).rest in
    let e : x ∷ (y ∷ (z ∷ [])) ≡ t = cc in
    let P : ℕ → Type 0 = λ v. v < 2 ^ n in
    let F : List ℕ → Type 0 = λ u. All P u in
    subst F e (All-cons P x (y ∷ (z ∷ [])) (value< b r.at n) (All-cons P y (z ∷ []) (value< b (r.at + n) n) (All-cons P z [] (value< b (r.at + n + n) n) (λ k d h. absurd (omega arith)))))

-- The rules that a class keeps, proved for any of the 17 by one computed test.
use Rattle.std.specs.Prelude.{◌≡◌, Bool, true, false, ◌&&◌, ◌||◌, cond, ℕ, ◌*◌, ◌^◌, ◌≤◌, ◌<◌, T, leb, eqb, Option, Some, None}
use Rattle.std.proofs.Common.{sym, ◌∙◌, subst, arith, leb→le, eqb→eq}
use Rattle.std.specs.Bool.{beq}
use Rattle.std.proofs.lemmas.Bool.{false≢true}
use Rattle.std.specs.Float.Ieee.Fits.{and_l, and_r}
use Rattle.floats.proofs.Same.{same_bool}
use Rattle.floats.proofs.Table.{at}
use Rattle.bitalloc.specs.declared.QuantClass.{QuantClass}
use Rattle.bitalloc.specs.Classes.{row, classes, class_at, class_index, is_class, class_of, lookup_of}
use Rattle.bitalloc.proofs.Places.{class-index-lt}

pub record Rules (class : QuantClass) : Type 0 where
  pub steps_low : 3 ≤ class.nb_steps
  pub steps_high : class.nb_steps ≤ 2 ^ class.bits_per_sample
  pub sample-low : 2 ≤ class.bits_per_sample
  pub sample-high : class.bits_per_sample ≤ 16
  pub codeword-high : class.bits_per_codeword ≤ 16
  pub groups : class.grouping ≡ (eqb class.nb_steps 3 || eqb class.nb_steps 5 || eqb class.nb_steps 9)
  pub single : class.grouping ≡ false → class.bits_per_codeword ≡ class.bits_per_sample
  pub cube : class.grouping ≡ true → class.nb_steps * class.nb_steps * class.nb_steps ≤ 2 ^ class.bits_per_codeword

abbrev rules : QuantClass → Bool
rules class =
    let n = class.nb_steps in
    let sample = class.bits_per_sample in
    let codeword = class.bits_per_codeword in
    leb 3 n && (leb n (2 ^ sample) && (leb 2 sample && (leb sample 16 && (leb codeword 16
    && (beq class.grouping (eqb n 3 || eqb n 5 || eqb n 9) && cond class.grouping (leb (n * n * n) (2 ^ codeword)) (eqb codeword sample))))))

rules→ : (class : QuantClass) → T (rules class) → Rules class
rules→ class x0 =
    let n = class.nb_steps in
    let sample = class.bits_per_sample in
    let codeword = class.bits_per_codeword in
    let x1 = and_r (leb 3 n) _ x0 in
    let x2 = and_r (leb n (2 ^ sample)) _ x1 in
    let x3 = and_r (leb 2 sample) _ x2 in
    let x4 = and_r (leb sample 16) _ x3 in
    let x5 = and_r (leb codeword 16) _ x4 in
    let x6 = and_r (beq class.grouping (eqb n 3 || eqb n 5 || eqb n 9)) _ x5 in
    record {
      steps_low = leb→le _ _ (and_l (leb 3 n) _ x0);
      steps_high = leb→le _ _ (and_l (leb n (2 ^ sample)) _ x1);
      sample-low = leb→le _ _ (and_l (leb 2 sample) _ x2);
      sample-high = leb→le _ _ (and_l (leb sample 16) _ x3);
      codeword-high = leb→le _ _ (and_l (leb codeword 16) _ x4);
      groups = same_bool _ _ (and_l (beq class.grouping (eqb n 3 || eqb n 5 || eqb n 9)) _ x5);
      single = λ e. eqb→eq codeword sample (subst (λ (b : Bool). T (cond b (leb (n * n * n) (2 ^ codeword)) (eqb codeword sample))) e x6);
      cube = λ e. leb→le (n * n * n) (2 ^ codeword) (subst (λ (b : Bool). T (cond b (leb (n * n * n) (2 ^ codeword)) (eqb codeword sample))) e x6);
    }

-- a grouped class has nine steps at most
pub group-steps : (class : QuantClass) → Rules class → class.grouping ≡ true → class.nb_steps ≤ 9
group-steps class r e = go class.nb_steps (sym r.groups ∙ e)
  where
    go : (n : ℕ) → (eqb n 3 || eqb n 5 || eqb n 9) ≡ true → n ≤ 9
    go n e = pick (eqb n 3) (eqb n 5) (eqb n 9) (eqb→eq n 3) (eqb→eq n 5) (eqb→eq n 9) e
      where
        pick : (a b c : Bool) → (T a → n ≡ 3) → (T b → n ≡ 5) → (T c → n ≡ 9) → (a || b || c) ≡ true → n ≤ 9
        pick true b c f g h e = let x = f tt in omega arith
        pick false true c f g h e = let x = g tt in omega arith
        pick false false true f g h e = let x = h tt in omega arith
        pick false false false f g h e = absurd (false≢true e)

-- by the place in the table, and by the number of steps
pub class-rules : (i : ℕ) → i < 17 → Rules (class_at i)
unfolding class_at
class-rules i h = rules→ (class_at i) (at (λ _ class. rules class) classes (row 0 0 0 false 0 0) tt i h)

pub steps-rules : (steps : ℕ) → T (is_class steps) → Rules (class_of steps)
steps-rules steps h = class-rules (class_index steps) (class-index-lt steps h)

-- what a look-up finds is the class, and it keeps the rules
module _ (steps : ℕ) (found : Option QuantClass) (class : QuantClass) (e : found ≡ lookup_of steps) (is : found ≡ Some class) where
  pub found-class : T (is_class steps) × (class ≡ class_of steps)
  found-class = go (is_class steps) (sym e ∙ is)
    where
      go : (b : Bool) → cond b (Some (class_of steps)) None ≡ Some class → T b × (class ≡ class_of steps)
      go true h = (tt, cc)
      go false h = let z : ◌≡◌ {A = ℕ} 0 1 = cc in absurd (omega arith)

  pub found-rules : Rules class
  found-rules = subst Rules (sym found-class.1) (steps-rules steps found-class.0)

-- Laws of `place_in`: it finds an element where that stands, and each predicted channel stands once.
use Rattle.std.specs.Prelude.{◌≡◌, refl, Bool, true, false, cond, List, [], ◌∷◌, ℕ, suc, ◌<◌, ◌≤◌, eqb, length, get_or}
use Rattle.std.proofs.Common.{arith, eqb→eq, eqb-true}
use Rattle.mc_crosstalk.specs.Crosstalk.{sources1, sources2, sources3, predicted_of}
use Rattle.mc_crosstalk.specs.Crosstalk
use Rattle.mc_crosstalk.proofs.CrosstalkLaws.{sources-pass, predicted-below, predicted-most}
use Rattle.mc_config.proofs.ConfigLaws.{main-most}
use Rattle.mc_config.proofs.TableLaws.{every, every-at}
use Rattle.mc_predict.specs.Predict.{place_in}

found_in : (x m : ℕ) (xs : List ℕ) (p : ℕ) (b : Bool) → eqb x m ≡ b → (p < length xs → get_or xs p 0 ≡ m) → cond b 0 (suc p) < length (x ∷ xs) → get_or (x ∷ xs) (cond b 0 (suc p)) 0 ≡ m
found_in x m xs p true e rest h = eqb-true x m e
found_in x m xs p false e rest h = rest (omega arith)

pub place_found : (l : List ℕ) (m : ℕ) → place_in l m < length l → get_or l (place_in l m) 0 ≡ m
unfolding place_in
place_found [] m h = absurd (omega arith)
place_found (x ∷ xs) m h = found_in x m xs (place_in xs m) (eqb x m) refl (place_found xs m) h

pub predicted-once : (pair mode k : ℕ) → k < length (predicted_of pair mode) → place_in (predicted_of pair mode) (get_or (predicted_of pair mode) k 0) ≡ k
unfolding place_in predicted_of sources1 sources2 sources3
predicted-once pair mode k h =
    let l = predicted_of pair mode in
    eqb→eq (place_in l (get_or l k 0)) k
    (every-at (λ k m. eqb (place_in l m) k) l 0
    (sources-pass
    (λ main row. every (λ k m. eqb (place_in (Crosstalk.predicted_in row) m) k) 0 (Crosstalk.predicted_in row))
    (record { three = tt; two = tt; one = tt; none = tt })
    (λ main. tt)
    pair
    mode)
    k
    h)

pub predicted-low : (pair mode k : ℕ) → k < length (predicted_of pair mode) → get_or (predicted_of pair mode) k 0 < 3
predicted-low pair mode k h = omega (arith, predicted-below pair mode k h, main-most pair)

pub predicted_few : (pair mode : ℕ) {channels : List ℕ} → channels ≡ predicted_of pair mode → length channels ≤ 3
predicted_few pair mode e = rw e (omega (arith, predicted-most pair mode, main-most pair))

-- what a loop over the predicted channels knows of them
pub record Listed (l : List ℕ) (count : ℕ) (channels : List ℕ) : Type 0 where
  pub all : count ≡ length l
  pub few : count ≤ 3
  pub at : (k : ℕ) → get_or channels k 0 ≡ get_or l k 0
  pub low : (k : ℕ) → k < count → get_or l k 0 < 3
  pub once : (k : ℕ) → k < count → place_in l (get_or l k 0) ≡ k

pub predicted-listed : (pair mode : ℕ) {channels : List ℕ} → channels ≡ predicted_of pair mode → Listed (predicted_of pair mode) (length channels) channels
predicted-listed pair mode e =
    rw e
    (record {
      all = refl;
      few = predicted_few pair mode refl;
      at = λ k. refl;
      low = predicted-low pair mode;
      once = predicted-once pair mode;
    })

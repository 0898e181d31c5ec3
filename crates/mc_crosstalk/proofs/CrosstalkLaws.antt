-- Laws of dynamic crosstalk: what holds of the sources, and of the predicted channels, for every configuration and code.
use Rattle.std.specs.Prelude.{◌≡◌, refl, Bool, true, false, List, [], map, ℕ, ◌*◌, ◌≤◌, ◌<◌, T as Holds, eqb, ltb, leb, length, get_or, Option, Some, None, is_some, option_map, unwrap_or}
use Rattle.std.proofs.Math.Bool.{cond}
use Rattle.std.proofs.Common.{Bor, sym, ap, ◌∙◌, zero-le, arith, ltb-true, ltb-false, lt-ltb, leb→le, le→leb}
use Rattle.std.proofs.Math.Dec.{eqb→eq, ltb→lt}
use Rattle.std.proofs.Math.ListN.{get_or-map, get_or-eq_default}
use Rattle.mc_config.specs.Config.{by_pair, main_of}
use Rattle.mc_config.proofs.CaseLaws.{Other, by_pair-elim, by_pair-other, cond-split}
use Rattle.mc_config.proofs.ConfigLaws.{main-other, main-most}
use Rattle.mc_crosstalk.specs.Crosstalk.{T, sources0, sources1, sources2, sources3, source_rows, listed, sources_of, source_of, predicted_in, predicted_of, predictors_of}
use Rattle.mc_config.proofs.RowsLaws.{default-row}
use Rattle.mc_config.proofs.TableLaws.{every, every-at, every-get_or, empty-at}

pub sources-unlisted : (pair mode : ℕ) → listed pair mode ≡ false → sources_of pair mode ≡ []
unfolding listed sources_of
sources-unlisted pair mode l = get_or-eq_default (source_rows pair) [] (ltb-false mode (length (source_rows pair)) l)

-- whether there is an answer is whether the code is listed
pub listed-answered : {X : Type 0} (list : X → List ℕ) (r : Option X) (pair mode : ℕ) → option_map list r ≡ cond (listed pair mode) (Some (sources_of pair mode)) None → is_some r ≡ listed pair mode
listed-answered {X} list r pair mode e = sym (mapped r) ∙ ap is_some e ∙ told (listed pair mode)
  where
    mapped : (r : Option X) → is_some (option_map list r) ≡ is_some r
    mapped None = refl
    mapped (Some x) = refl

    told : (b : Bool) → is_some (cond b (Some (sources_of pair mode)) None) ≡ b
    told true = refl
    told false = refl

-- and with no entries in place of none it is the sources
pub sources-answered : (pair mode : ℕ) (r : Option (Bor (List ℕ))) → option_map (λ row. row.now) r ≡ cond (listed pair mode) (Some (sources_of pair mode)) None
    → (row none : Bor (List ℕ)) → row ≡ unwrap_or r none → none.now ≡ [] → row.now ≡ sources_of pair mode
sources-answered pair mode r e row none er en =
    ap (λ (row : Bor (List ℕ)). row.now) er ∙ default-row r none ∙ rw (e, en) (cond-split (λ o. unwrap_or o [] ≡ sources_of pair mode) (listed pair mode) (λ l. refl) (λ l. sym (sources-unlisted pair mode l)))

-- without a main channel there are no sources, listed or not
pub sources-other : {pair : ℕ} (mode : ℕ) → Other pair → sources_of pair mode ≡ []
unfolding sources_of sources0
sources-other mode o = rw (by_pair-other sources3 sources2 sources1 sources2 sources1 sources0 o) (empty-at mode)

-- a table made of the rows by a rule has at each code what the rule makes of the sources
pub sources-map {ℓ} : {A : Type ℓ} (f : List ℕ → A) (pair mode : ℕ) →
    get_or (by_pair (map f sources3) (map f sources2) (map f sources1) (map f sources2) (map f sources1) [] pair) mode (f []) ≡ f (sources_of pair mode)
unfolding sources_of
sources-map f pair mode =
    by_pair-elim
    (λ pair. get_or (by_pair (map f sources3) (map f sources2) (map f sources1) (map f sources2) (map f sources1) [] pair) mode (f []) ≡ f (sources_of pair mode))
    (get_or-map f sources3 mode [])
    (get_or-map f sources2 mode [])
    (get_or-map f sources1 mode [])
    (get_or-map f sources2 mode [])
    (get_or-map f sources1 mode [])
    (λ pair o. rw (by_pair-other (map f sources3) (map f sources2) (map f sources1) (map f sources2) (map f sources1) [] o, sources-other mode o))
    pair

-- ---- tests that antt computes over all rows

-- a test of a row, given the number of main channels, passes at every row
pub record RowsPass (f : ℕ → List ℕ → Bool) : Type 0 where
  pub three : Holds (every (λ mode. f 3) 0 sources3)
  pub two : Holds (every (λ mode. f 2) 0 sources2)
  pub one : Holds (every (λ mode. f 1) 0 sources1)
  pub none : Holds (f 0 [])

-- then it passes at the sources of every listed code
pub listed-pass : (f : ℕ → List ℕ → Bool) → RowsPass f → (pair mode : ℕ) → listed pair mode ≡ true → Holds (f (main_of pair) (sources_of pair mode))
unfolding listed sources_of
listed-pass f t pair mode =
    by_pair-elim (λ pair. listed pair mode ≡ true → Holds (f (main_of pair) (sources_of pair mode)))
    (λ l. every-at (λ mode. f 3) sources3 [] t.three mode (ltb-true mode (length sources3) l))
    (λ l. every-at (λ mode. f 2) sources2 [] t.two mode (ltb-true mode (length sources2) l))
    (λ l. every-at (λ mode. f 1) sources1 [] t.one mode (ltb-true mode (length sources1) l))
    (λ l. every-at (λ mode. f 2) sources2 [] t.two mode (ltb-true mode (length sources2) l))
    (λ l. every-at (λ mode. f 1) sources1 [] t.one mode (ltb-true mode (length sources1) l))
    (λ pair o l. rw (main-other o, sources-other mode o) t.none)
    pair

-- and at those of any code, where it passes at no sources too
pub sources-pass : (f : ℕ → List ℕ → Bool) → RowsPass f → ((main : ℕ) → Holds (f main [])) → (pair mode : ℕ) → Holds (f (main_of pair) (sources_of pair mode))
sources-pass f t unlisted pair mode = go (listed pair mode) refl
  where
    go : (b : Bool) → listed pair mode ≡ b → Holds (f (main_of pair) (sources_of pair mode))
    go true l = listed-pass f t pair mode l
    go false l = rw (sources-unlisted pair mode l) (unlisted (main_of pair))

-- ---- the sources

pub sources-length : (pair mode : ℕ) → listed pair mode ≡ true → length (sources_of pair mode) ≡ main_of pair
unfolding sources1 sources2 sources3
sources-length pair mode l =
    eqb→eq (length (sources_of pair mode)) (main_of pair)
    (listed-pass (λ main row. eqb (length row) main) (record { three = tt; two = tt; one = tt; none = tt }) pair mode l)

-- as many as main channels where the code is listed, else none
pub sources-count : (pair mode : ℕ) → length (sources_of pair mode) ≡ cond (listed pair mode) (main_of pair) 0
sources-count pair mode =
    cond-split (λ n. length (sources_of pair mode) ≡ n) (listed pair mode) (sources-length pair mode) (λ l. rw (sources-unlisted pair mode l))

-- a test of a channel and its source, over all rows; channels past the main ones count as transmitted
source-pass : (f : List ℕ → ℕ → ℕ → Bool) → RowsPass (λ main row. every (f row) 0 row) → ((row : List ℕ) (m : ℕ) → Holds (f row m T)) → (pair mode m : ℕ) → Holds (f (sources_of pair mode) m (source_of pair mode m))
source-pass f t past pair mode =
    every-get_or (f (sources_of pair mode)) (sources_of pair mode) T (sources-pass (λ main row. every (f row) 0 row) t (λ main. tt) pair mode) (past (sources_of pair mode))

pub source-below : (pair mode m : ℕ) → source_of pair mode m < 5
unfolding sources1 sources2 sources3
source-below pair mode m =
    ltb→lt (source_of pair mode m) 5
    (source-pass (λ row m source. ltb source 5) (record { three = tt; two = tt; one = tt; none = tt }) (λ row m. tt) pair mode m)

-- a channel that is copied is an earlier one, and is itself transmitted
module _ (pair mode m : ℕ) (copies : source_of pair mode m < 3) where
  pub source-earlier : source_of pair mode m < m
  unfolding sources1 sources2 sources3
  source-earlier =
      ltb→lt (source_of pair mode m) m
      (rw (lt-ltb (source_of pair mode m) 3 copies) at
      (source-pass (λ row m source. cond (ltb source 3) (ltb source m) true) (record { three = tt; two = tt; one = tt; none = tt }) (λ row m. tt) pair mode m))

  pub source-transmitted : source_of pair mode (source_of pair mode m) ≡ T
  unfolding sources1 sources2 sources3
  source-transmitted =
      eqb→eq (source_of pair mode (source_of pair mode m)) T
      (rw (lt-ltb (source_of pair mode m) 3 copies) at
      (source-pass (λ row m source. cond (ltb source 3) (eqb (get_or row source T) T) true) (record { three = tt; two = tt; one = tt; none = tt }) (λ row m. tt) pair mode m))

-- ---- the predicted channels

-- each is a main channel
pub predicted-below : (pair mode k : ℕ) → k < length (predicted_of pair mode) → get_or (predicted_of pair mode) k 0 < main_of pair
unfolding predicted_of sources1 sources2 sources3
predicted-below pair mode k h =
    ltb→lt (get_or (predicted_of pair mode) k 0) (main_of pair)
    (every-at (λ k m. ltb m (main_of pair)) (predicted_of pair mode) 0
    (sources-pass (λ main row. every (λ k m. ltb m main) 0 (predicted_in row)) (record { three = tt; two = tt; one = tt; none = tt }) (λ main. tt) pair mode)
    k
    h)

-- they are no more than the main channels
pub predicted-most : (pair mode : ℕ) → length (predicted_of pair mode) ≤ main_of pair
unfolding predicted_of sources1 sources2 sources3
predicted-most pair mode =
    leb→le (length (predicted_of pair mode)) (main_of pair)
    (sources-pass (λ main row. leb (length (predicted_in row)) main) (record { three = tt; two = tt; one = tt; none = tt }) (λ main. le→leb 0 main zero-le) pair mode)

pub predictors-even : (pair mode : ℕ) → predictors_of pair mode ≡ 2 * length (predicted_of pair mode)
unfolding predictors_of
predictors-even pair mode = refl

pub predictors-most : (pair mode : ℕ) → predictors_of pair mode ≤ 6
predictors-most pair mode = omega (arith, predictors-even pair mode, predicted-most pair mode, main-most pair)

pub predictors-unlisted : (pair mode : ℕ) → listed pair mode ≡ false → predictors_of pair mode ≡ 0
unfolding predictors_of predicted_of
predictors-unlisted pair mode l = rw (sources-unlisted pair mode l)

pub predicted-other : {pair : ℕ} (mode : ℕ) → Other pair → predicted_of pair mode ≡ []
unfolding predicted_of
predicted-other mode o = rw (sources-other mode o)

pub predictors-other : {pair : ℕ} (mode : ℕ) → Other pair → predictors_of pair mode ≡ 0
unfolding predictors_of
predictors-other mode o = rw (predicted-other mode o)

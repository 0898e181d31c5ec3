-- Laws of a list in an array with a filler after it.
use Rattle.std.specs.Prelude.{◌≡◌, refl, List, [], ◌∷◌, ◌++◌, map, ℕ, zero, suc, ◌-◌, ◌<◌, length, get_or, set, replicate}
use Rattle.std.proofs.Common.{◌∙◌, arith, add-one, length-append}
use Rattle.std.proofs.lemmas.List.{length-map}
use Rattle.std.proofs.Math.ListN.{get_or-map}
use Rattle.std.proofs.Math.Seq.{append_snoc, set-append_seam}
use Rattle.mc_config.specs.Records.{padded}
use Rattle.mc_config.proofs.TableLaws.{get_d_default}

-- a row of a table whose rows are padded
pub padded-row : (n filler : ℕ) (rows : List (List ℕ)) (k : ℕ) → k < length rows → get_or (map (padded n filler) rows) k [] ≡ padded n filler (get_or rows k [])
padded-row n filler rows k h =
    get_d_default (map (padded n filler) rows) [] (padded n filler []) k (rw (length-map rows (padded n filler)) h) ∙ get_or-map (padded n filler) rows k []

fillers-at : (n filler k : ℕ) → get_or (replicate n filler) k filler ≡ filler
fillers-at zero filler k = refl
fillers-at (suc n) filler zero = refl
fillers-at (suc n) filler (suc k) = fillers-at n filler k

filled_at : (xs : List ℕ) (n filler k : ℕ) → get_or (xs ++ replicate n filler) k filler ≡ get_or xs k filler
filled_at [] n filler k = fillers-at n filler k
filled_at (x ∷ xs) n filler zero = refl
filled_at (x ∷ xs) n filler (suc k) = filled_at xs n filler k

-- an entry of the array is an entry of the list, or the filler past its end
pub padded-at : (n filler : ℕ) (xs : List ℕ) (k : ℕ) → get_or (padded n filler xs) k filler ≡ get_or xs k filler
padded-at n filler xs k = filled_at xs (n - length xs) filler k

-- one entry more
pub padded-push : (n filler : ℕ) (xs : List ℕ) (x : ℕ) → length xs < n → set (padded n filler xs) (length xs) x ≡ padded n filler (xs ++ x ∷ [])
padded-push n filler xs x h =
    let room : n - length xs ≡ suc (n - suc (length xs)) = omega arith in
    let long : length (xs ++ x ∷ []) ≡ suc (length xs) = simp (length-append, add-one) in
    rw (room, long, set-append_seam, append_snoc)

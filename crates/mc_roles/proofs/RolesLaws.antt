-- Laws of the roles: one for each main channel, under every tc_allocation; and of the base channel that is copied.
use Rattle.std.specs.Prelude.{◌≡◌, refl, min, Bool, ◌||◌, cond, List, [], map, ℕ, ◌-◌, ◌<◌, T as Holds, eqb, ltb, length, get_or}
use Rattle.std.proofs.Common.{arith, ltb-true, ltb-false, eqb→eq, lit<}
use Rattle.std.proofs.lemmas.List.{length-map}
use Rattle.mc_config.specs.Config.{main_of, left, right, left_surround, right_surround, second_left, second_right}
use Rattle.mc_config.proofs.CaseLaws.{Other, by_pair-elim, by_pair-other, cond-all, cond-split}
use Rattle.mc_config.proofs.ConfigLaws.{main-other}
use Rattle.mc_config.specs.Records.{padded}
use Rattle.mc_config.proofs.RecordsLaws.{padded-row}
use Rattle.mc_roles.specs.Roles.{row_at, roles32, roles31, roles30, roles22, roles21, roles0, tc_roles_of, fallback_of, base_of}
use Rattle.mc_config.proofs.TableLaws.{every, every-at, empty-at}

-- the place of the row that is taken is in the list
row_within : (tc n : ℕ) → 0 < n → cond (ltb tc n) tc (n - 1) < n
row_within tc n some = cond-split (λ k. k < n) (ltb tc n) (ltb-true tc n) (λ e. omega arith)

-- the row that is taken of a table whose rows are padded
pub row-padded : (n filler : ℕ) (rows : List (List ℕ)) (tc : ℕ) → 0 < length rows → row_at (map (padded n filler) rows) tc ≡ padded n filler (row_at rows tc)
row-padded n filler rows tc some =
    rw (length-map rows (padded n filler)) (padded-row n filler rows (cond (ltb tc (length rows)) tc (length rows - 1)) (row_within tc (length rows) some))

-- the smaller of the code and the last place is the place of its row
pub row-min : (tc n k : ℕ) → 0 < n → k ≡ min tc (n - 1) → k ≡ cond (ltb tc n) tc (n - 1)
row-min tc n k some e = cond-split (λ i. k ≡ i) (ltb tc n) (λ t. omega (arith, ltb-true tc n t)) (λ t. omega (arith, ltb-false tc n t))

-- rows of one length
rows-length : (n : ℕ) (rows : List (List ℕ)) (tc : ℕ) → 0 < length rows → Holds (every (λ k row. eqb (length row) n) 0 rows) → length (row_at rows tc) ≡ n
rows-length n rows tc some t =
    let k = cond (ltb tc (length rows)) tc (length rows - 1) in
    eqb→eq (length (row_at rows tc)) n (every-at (λ k row. eqb (length row) n) rows [] t k (row_within tc (length rows) some))

pub roles-length : (pair tc : ℕ) → length (tc_roles_of pair tc) ≡ main_of pair
unfolding tc_roles_of roles32 roles31 roles30 roles22 roles21 roles0
roles-length pair tc =
    by_pair-elim (λ pair. length (tc_roles_of pair tc) ≡ main_of pair)
    (rows-length 3 roles32 tc (lit< tt) tt)
    (rows-length 2 roles31 tc (lit< tt) tt)
    (rows-length 1 roles30 tc (lit< tt) tt)
    (rows-length 2 roles22 tc (lit< tt) tt)
    (rows-length 1 roles21 tc (lit< tt) tt)
    (λ pair o. rw (by_pair-other roles32 roles31 roles30 roles22 roles21 roles0 o, main-other o) (rows-length 0 roles0 tc (lit< tt) tt))
    pair

-- without a main channel there are no roles
pub roles-other : {pair : ℕ} (tc : ℕ) → Other pair → tc_roles_of pair tc ≡ []
unfolding tc_roles_of roles0
roles-other tc o =
    rw (by_pair-other roles32 roles31 roles30 roles22 roles21 roles0 o) (empty-at (cond (ltb tc 1) tc 0))

pub fallback-below : (role : ℕ) (lr : Bool) → fallback_of role lr < 2
unfolding fallback_of
fallback-below role lr =
    cond-all (λ n. n < 2) (eqb role left || (eqb role left_surround || eqb role second_left)) (lit< tt)
    (cond-all (λ n. n < 2) (eqb role right || (eqb role right_surround || eqb role second_right)) (lit< tt) (cond-all (λ n. n < 2) lr (lit< tt) (lit< tt)))

pub base-below : (pair tc m : ℕ) (lr : Bool) (base_channels : ℕ) → base_of pair tc m lr base_channels < 2
unfolding base_of
base-below pair tc m lr base_channels =
    cond-all (λ n. n < 2) (eqb base_channels 1) (lit< tt) (fallback-below (get_or (tc_roles_of pair tc) m left) lr)

-- with one base channel always the first
pub base-mono : (pair tc m : ℕ) (lr : Bool) → base_of pair tc m lr 1 ≡ 0
unfolding base_of
base-mono pair tc m lr = refl

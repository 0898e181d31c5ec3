-- Laws of columns: where their elements stand, and a buffer that is written column by column.
use Rattle.std.specs.Prelude.{◌≡◌, List, ℕ, ◌+◌, ◌*◌, ◌/◌, ◌%◌, ◌<◌, get_or}
use Rattle.std.proofs.Common.{sym, ap, ◌∙◌, lt_of_lt_of_le, arith, lit<}
use Rattle.fill.proofs.ByTurn.{ByTurn}
use Rattle.mc_scale.specs.Code.Strided.{column}
use Rattle.fill.proofs.StridedLaws.{length-strided, get_or-strided, strided-other}
use Rattle.mc_scale.proofs.Laws.TurnBlock.{turn-block, turn-skip}
use Rattle.mc_scale.specs.Code.Column.{column_at, place_of, slot_of, place_at, turn_of}

-- channel, slot and subband of a column's element
pub at-subband : (m sb j : ℕ) → sb < 32 → (1152 * m + sb + 32 * j) % 32 ≡ sb
at-subband m sb j h = omega arith

pub at-channel : (m sb j : ℕ) → sb < 32 → j < 36 → (1152 * m + sb + 32 * j) / 1152 ≡ m
at-channel m sb j h l = omega arith

pub at_slot : (m sb j : ℕ) → sb < 32 → j < 36 → (1152 * m + sb + 32 * j) / 32 % 36 ≡ j
at_slot m sb j h l = omega arith

slot-below : (k : ℕ) → slot_of k < 36
slot-below k = omega arith

-- a column's elements belong to its place, and to no other
pub column-place : (t j : ℕ) → t < 96 → j < 36 → place_of (column_at t + 32 * j) ≡ t
column-place t j h l =
    let a = at-subband (t % 3) (t / 3) j (omega arith) in
    let b = at-channel (t % 3) (t / 3) j (omega arith) l in
    omega arith

pub place-column : (k : ℕ) → k < 3456 → column_at (place_of k) + 32 * slot_of k ≡ k
place-column k h =
    let a : place_of k % 3 ≡ k / 1152 = omega arith in
    let b : place_of k / 3 ≡ k % 32 = omega arith in
    let e : k / 32 ≡ 36 * (k / 1152) + k / 32 % 36 = omega arith in
    omega arith

-- the turn of an element is that of its place
pub turn-place : (k : ℕ) → place_at (turn_of k) ≡ place_of k
turn-place k =
    let sb : turn_of k % 32 ≡ k % 32 = omega arith in
    let m : turn_of k / 32 ≡ k / 1152 = omega arith in
    omega arith

pub place-turn : (k i : ℕ) → k < 3456 → i < 96 → place_of k ≡ place_at i → turn_of k ≡ i
place-turn k i h l e =
    let m : k / 1152 ≡ i / 32 = same (k / 1152) (i / 32) (k % 32) (i % 32) (omega arith) (omega arith) e in
    omega arith
  where
    same : (a b c d : ℕ) → a < 3 → b < 3 → 3 * c + a ≡ 3 * d + b → a ≡ b
    same a b c d h l e = omega arith

-- a loop that writes a buffer column by column: the element's value is given by its place and its slot. The turn i is that of the place t
module _
    {A : Type 0} {z : A} (g : ℕ → ℕ → A) {turn : ℕ → ℕ} {d dst : List A} {i : ℕ} (t : ℕ)
    (p : ByTurn z turn (λ (k : ℕ). g (place_of k) (slot_of k)) 3456 d dst i) (on : (k : ℕ) → turn k ≡ i → place_of k ≡ t)
  where
    -- one column
    pub column-turn :
        t < 96
        → ((k : ℕ) → k < 3456 → place_of k ≡ t → turn k ≡ i)
        → ByTurn z turn (λ (k : ℕ). g (place_of k) (slot_of k)) 3456 d (column (g t) (column_at t) dst) (i + 1)
    column-turn low off =
        turn-block p (length-strided 32 (g t) (column_at t) dst 36) here
        (λ k n. strided-other 32 (g t) (column_at t) dst z 36 k (λ j s w. n (rw w (bound j s)) (there k j s w)))
      where
        bound : (j : ℕ) → j < 36 → column_at t + 32 * j < 3456
        bound j s = omega arith

        there : (k j : ℕ) → j < 36 → k ≡ column_at t + 32 * j → turn k ≡ i
        there k j s w = off k (rw w (bound j s)) (ap place_of w ∙ column-place t j low s)

        here : (k : ℕ) → k < 3456 → turn k ≡ i → get_or (column (g t) (column_at t) dst) k z ≡ g (place_of k) (slot_of k)
        here k l s =
            let e = on k s in
            let w : column_at t + 32 * slot_of k ≡ k = ap (λ (n : ℕ). column_at n + 32 * slot_of k) (sym e) ∙ place-column k l in
            let q = slot-below k in
            ap (λ (n : ℕ). get_or (column (g t) (column_at t) dst) n z) (sym w)
            ∙ (get_or-strided 32 (g t) (column_at t) dst z 36 (slot_of k) (lit< tt) q (rw p.long (lt_of_lt_of_le (bound (slot_of k) q) p.room)) ∙ ap (λ (n : ℕ). g n (slot_of k)) (sym e))

    -- a column that is not written, where its elements hold already what they are to hold
    pub column-skip : ((k : ℕ) → k < 3456 → get_or d k z ≡ g t (slot_of k)) → ByTurn z turn (λ (k : ℕ). g (place_of k) (slot_of k)) 3456 d dst (i + 1)
    column-skip same = turn-skip p (λ k l e. same k l ∙ ap (λ (n : ℕ). g n (slot_of k)) (sym (on k e)))

-- the same where the places are taken channel by channel
pub turn-column :
    {A : Type 0} {z : A} (g : ℕ → ℕ → A) {d dst : List A} {i : ℕ}
    → ByTurn z turn_of (λ (k : ℕ). g (place_of k) (slot_of k)) 3456 d dst i
    → i < 96
    → ByTurn z turn_of (λ (k : ℕ). g (place_of k) (slot_of k)) 3456 d (column (g (place_at i)) (column_at (place_at i)) dst) (i + 1)
turn-column g {i = i} p h = column-turn g (place_at i) p (λ k s. sym (turn-place k) ∙ ap place_at s) (omega arith) (λ k l e. place-turn k i l h e)

-- and one of them that is not written
pub skip-column :
    {A : Type 0} {z : A} (g : ℕ → ℕ → A) {d dst : List A} {i : ℕ}
    → ByTurn z turn_of (λ (k : ℕ). g (place_of k) (slot_of k)) 3456 d dst i
    → ((k : ℕ) → k < 3456 → get_or d k z ≡ g (place_at i) (slot_of k))
    → ByTurn z turn_of (λ (k : ℕ). g (place_of k) (slot_of k)) 3456 d dst (i + 1)
skip-column g {i = i} p same = column-skip g (place_at i) p (λ k s. sym (turn-place k) ∙ ap place_at s) same

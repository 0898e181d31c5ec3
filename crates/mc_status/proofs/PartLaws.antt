-- A write in a part of a list.
use Rattle.std.specs.Prelude.{◌≡◌, List, ℕ, [], ◌∷◌, ◌++◌, ◌+◌, ◌≤◌, ◌<◌, length, set, take, zero, suc}
use Rattle.std.proofs.Common.{ap, ◌∙◌, arith}
use borrow.Rule.Slice.PartMut.{put_mid, post_of}
use lib.Seq.{set-append_left, length-take-le}

set-after : (xs ys : List ℕ) (k i v : ℕ) → length xs ≡ k → set (xs ++ ys) (k + i) v ≡ xs ++ set ys i v
set-after [] ys k i v e = let z : k + i ≡ i = omega arith in rw z
set-after (x ∷ xs) ys zero i v e = absurd (omega arith)
set-after (x ∷ xs) ys (suc k) i v e =
    let z : suc k + i ≡ suc (k + i) = omega arith in
    rw z (ap (λ t. x ∷ t) (set-after xs ys k i v (omega arith)))

-- once the part is back, it is a write in the list
pub put-set : (at n : ℕ) (d part : List ℕ) (i v : ℕ) → at ≤ length d → i < length part
    → set (put_mid at n d part) (at + i) v ≡ put_mid at n d (set part i v)
put-set at n d part i v room h =
    set-after (take at d) (part ++ post_of at n d) at i v (length-take-le at d room) ∙ ap (λ t. take at d ++ t) (set-append_left part (post_of at n d) i v h)

-- Three or four codes of a place, put into a table at once, are stored one by one.
use Rattle.std.specs.Prelude.{◌≡◌, List, ℕ, ◌+◌, ◌≤◌, length, get_or, set}
use Rattle.std.proofs.Common.{rules, sym, ◌∙◌, arith}
use Rattle.std.proofs.lemmas.List.{ext_get_or, places, length-set, get_or-set_other}
use Rattle.std.proofs.lemmas.Grind.{get_or-set_at}
use borrow.Rule.Slice.PartMut.{put_mid}
use Rattle.fill.proofs.Part.{length-part}

module _ (at n : ℕ) (a t : List ℕ) (long : length t ≡ n) (room : at + n ≤ length a) where
  pub three-put : n ≡ 3 → put_mid at n a t ≡ set (set (set a at (get_or t 0 0)) (at + 1) (get_or t 1 0)) (at + 2) (get_or t 2 0)
  three-put e =
      let s : length (set (set (set a at (get_or t 0 0)) (at + 1) (get_or t 1 0)) (at + 2) (get_or t 2 0)) ≡ length a = search rules in
      ext_get_or 0 _ _ (length-part 0 at n a t long room ∙ sym s) (λ k h. grind (arith, places, length-set, get_or-set_at, get_or-set_other))

  pub four-put : n ≡ 4 → put_mid at n a t ≡ set (set (set (set a at (get_or t 0 0)) (at + 1) (get_or t 1 0)) (at + 2) (get_or t 2 0)) (at + 3) (get_or t 3 0)
  four-put e =
      let s : length (set (set (set (set a at (get_or t 0 0)) (at + 1) (get_or t 1 0)) (at + 2) (get_or t 2 0)) (at + 3) (get_or t 3 0)) ≡ length a = search rules in
      ext_get_or 0 _ _ (length-part 0 at n a t long room ∙ sym s) (λ k h. grind (arith, places, length-set, get_or-set_at, get_or-set_other))

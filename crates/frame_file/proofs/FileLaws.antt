-- Laws of a frame file: each test of an opening, and what numbers without a fault are.
use Rattle.std.specs.Prelude.{◌≡◌, cond, Bool, true, false, List, ℕ, ◌≤◌, ◌<◌, eqb, ltb, length, Option, None, Some, Ok, Err}
use Rattle.std.proofs.Common.{refl, ⊎_elim, eq-zero-or-pos, arith, eq-eqb, ne_eqb, lt-ltb, le-ltb}
use borrow.Author.Tests.{ltb-false, eqb-false}
use Rattle.encoding.specs.Encoding.{lowest_first, number_at}
use Rattle.frame_file.specs.declared.frame.FrameFault.{FrameFault}
use Rattle.frame_file.specs.declared.numbers.Numbers.{Numbers}
use Rattle.frame_file.specs.declared.opening.OpeningFault.TheVariants.{Empty, OtherLetters, OpeningCut, Neither0Nor1}
use Rattle.frame_file.specs.declared.opening.Version.{Version}
use Rattle.frame_file.specs.declared.opening.Version.TheVariants.{First, Second}
use Rattle.frame_file.specs.File.{version_of, opening_of, fault_of}

-- ---- the opening

module _ (bytes : List ℕ) where
  pub version-first : number_at bytes 0 8 ≡ 0x53454D415246434D → Some First ≡ version_of bytes
  unfolding lowest_first
  version-first e = simp (eq-eqb _ _ e)

  pub version-second : (number_at bytes 0 8 ≡ 0x53454D415246434D → ⊥) → number_at bytes 0 8 ≡ 0x32454D415246434D → Some Second ≡ version_of bytes
  unfolding lowest_first
  version-second h e = simp (ne_eqb _ _ h, eq-eqb _ _ e)

  pub version-none : (number_at bytes 0 8 ≡ 0x53454D415246434D → ⊥) → (number_at bytes 0 8 ≡ 0x32454D415246434D → ⊥) → None ≡ version_of bytes
  unfolding lowest_first
  version-none h k = simp (ne_eqb _ _ h, ne_eqb _ _ k)

  pub opening-empty : length bytes ≡ 0 → Err Empty ≡ opening_of bytes
  opening-empty e = simp (eq-eqb _ _ e)

  module _ (some : length bytes ≡ 0 → ⊥) where
    pub opening-other : version_of bytes ≡ None → Err OtherLetters ≡ opening_of bytes
    opening-other v = simp (ne_eqb _ _ some, v)

    module _ (version : Version) (known : version_of bytes ≡ Some version) where
      pub opening-cut : length bytes < 13 → Err OpeningCut ≡ opening_of bytes
      opening-cut h = simp (ne_eqb _ _ some, known, lt-ltb _ _ h)

      pub opening-flag : 13 ≤ length bytes → 1 < number_at bytes 12 1 → Err Neither0Nor1 ≡ opening_of bytes
      opening-flag h f = simp (ne_eqb _ _ some, known, le-ltb _ _ h, lt-ltb _ _ f)

      pub opening-right : 13 ≤ length bytes → number_at bytes 12 1 ≤ 1
          → Ok (record { version = version; frames = number_at bytes 8 4; state_follows = eqb (number_at bytes 12 1) 1 }) ≡ opening_of bytes
      opening-right h f = simp (ne_eqb _ _ some, known, le-ltb _ _ h, le-ltb _ _ f)

-- ---- a frame

-- what numbers without a fault are
pub record Right (n : Numbers) : Type 0 where
  pub one : 1 ≤ n.base_channels
  pub two : n.base_channels ≤ 2
  pub head : n.head_bytes ≤ 8192
  pub payload : n.payload_bytes ≤ 8192

module _ (n : Numbers) where
  by_tests : (call carried none many head_long payload_long : Bool) → eqb n.base_channels 0 ≡ none → ltb 2 n.base_channels ≡ many → ltb 8192 n.head_bytes ≡ head_long → ltb 8192 n.payload_bytes ≡ payload_long
      → (a b c d e f : FrameFault)
      → ◌≡◌ {A = Option FrameFault} (cond call (cond carried (Some a) (cond none (Some b) (cond many (Some c) (cond head_long (Some d) (cond payload_long (Some e) None))))) (Some f)) None → Right n
  by_tests false q none many hl pl a b c d _ _ _ _ _ _ e = absurd (cc)
  by_tests true true none many hl pl a b c d _ _ _ _ _ _ e = absurd (cc)
  by_tests true false true many hl pl a b c d _ _ _ _ _ _ e = absurd (cc)
  by_tests true false false true hl pl a b c d _ _ _ _ _ _ e = absurd (cc)
  by_tests true false false false true pl a b c d _ _ _ _ _ _ e = absurd (cc)
  by_tests true false false false false true a b c d _ _ _ _ _ _ e = absurd (cc)
  by_tests true false false false false false a b c d _ _ _ _ _ _ e =
      record {
        one = ⊎_elim (λ z. absurd (eqb-false _ _ a z)) (λ p. omega arith) (eq-zero-or-pos n.base_channels);
        two = ltb-false _ _ b;
        head = ltb-false _ _ c;
        payload = ltb-false _ _ d;
      }

  pub right_of : fault_of n ≡ None → Right n
  right_of e = by_tests (eqb n.call 1) (ltb 1 n.carried) _ _ _ _ refl refl refl refl _ _ _ _ _ _ e

-- Granules by step counts without the zeros at their end, the width of a code, and the places that have no samples.
use Rattle.std.specs.Prelude.{◌≡◌, refl, false, List, ℕ, zero, suc, ◌+◌, ◌*◌, ◌≤◌, ◌<◌, eqb, length, get_or}
use Rattle.std.proofs.Common.{eq-eqb, arith}
use mathlib.Core.Path.{fun_ext}
use Rattle.std.proofs.Math.ListN.{get_or-eq_default}
use Rattle.bits.specs.Syntax.{Syntax, done, bind, times}
use Rattle.fill.proofs.TabLaws.{get_or-tab, tab-same}
use Rattle.bit_reader.specs.Reads.{Goes}
use Rattle.bit_reader.specs.declared.BitReader.{BitReader}
use Rattle.mc_payload.specs.Payload.{samples_at, granule_at}
use Rattle.mc_codes.specs.Parts.{samples_by, codeword_of, codewords_of}
use Rattle.mc_codes.specs.declared.granules.Codeword.{Codeword}

-- the codeword of a place
pub codeword-at : (own : List ℕ) (words : List Codeword) (z : Codeword) → words ≡ codewords_of own → (i : ℕ) → i < 96 → get_or words i z ≡ codeword_of (get_or own i 0)
unfolding codewords_of
codeword-at own words z e i h = rw e (get_or-tab z (λ k. codeword_of (get_or own k 0)) 96 i h)

-- a place that has samples is read by its codeword
pub place-by : (own : List ℕ) (words : List Codeword) (z : Codeword) → words ≡ codewords_of own → (gr i : ℕ) → i < 96 → eqb (get_or own i 0) 0 ≡ false
    → (a : List ℕ) {r r' : BitReader} {m : Syntax (List ℕ)}
    → Goes r (samples_by (get_or words i z).grouped (get_or words i z).bits (289 * gr + 1 + 3 * i) a) r' m → Goes r (samples_at own gr i a) r' m
unfolding samples_at samples_by
place-by own words z e gr i h t a g = rw t (rw (codeword-at own words z e i h) at g)

-- ---- lists of the same step counts

abbrev Alike : List ℕ → List ℕ → Type 0
Alike a b = (i : ℕ) → get_or a i 0 ≡ get_or b i 0

pub same-codewords : (a b : List ℕ) → Alike a b → codewords_of a ≡ codewords_of b
unfolding codewords_of
same-codewords a b h = tab-same 96 (λ k _. rw (h k))

same-samples : (a b : List ℕ) → Alike a b → samples_at a ≡ samples_at b
unfolding samples_at
same-samples a b h = fun_ext (λ gr. fun_ext (λ i. fun_ext (λ t. rw (h i))))

pub same-granule : (lfe : ℕ) (a b : List ℕ) → Alike a b → granule_at lfe a ≡ granule_at lfe b
unfolding granule_at
same-granule lfe a b h = fun_ext (λ gr. fun_ext (λ t. rw (same-samples a b h)))

-- ---- the loop over the places

module _ (own : List ℕ) (gr : ℕ) where
  -- the places past the step counts have no samples
  none-past : (n i : ℕ) (t : List ℕ) → length own ≤ i → times n i (samples_at own gr) t ≡ done t
  unfolding times bind samples_at
  none-past zero i t h = refl
  none-past (suc n) i t h = rw (eq-eqb (get_or own i 0) 0 (get_or-eq_default own 0 h)) (none-past n (suc i) t (omega arith))

  pub rest-empty : {s r : BitReader} {m : Syntax (List ℕ)} {t : List ℕ} (n i : ℕ) → length own ≤ i → Goes s m r (times n i (samples_at own gr) t) → Goes s m r (done t)
  rest-empty {t = t} n i h g = rw (none-past n i t h) at g

-- What every reading of a payload ends in: scalefactor indices below 63, or one of the refusals 1, 3 and 4.
use Rattle.std.specs.Prelude.{◌≡◌, refl, Bool, List, ◌⊎◌, ℕ, ◌*◌, ◌/◌, ◌%◌, ◌<◌, eqb, get_or}
use Rattle.std.proofs.Common.{inl, inr, arith, lit<}
use Rattle.std.proofs.lemmas.Bool.{eqb-false}
use Rattle.bits.specs.Syntax.{Refusal, plain, Syntax}
use Rattle.bits.proofs.Entries.{Entries, entries-zero}
use Rattle.bits.proofs.TableFits.{entries-set3}
use Rattle.bits.proofs.Yields.{Yields, yields-done, yields-refuse, yields_field, yields-cond, yields_both, yields-times, yields-weaken}
use Rattle.bitalloc.specs.Classes.{grouped}
use Rattle.mc_fields.specs.Head.{count_at}
use Rattle.mc_payload.specs.Payload.{scfsi_at, scfsi, check_layer3, predictor_at, predictors, factor, lf_scalefactor, factors_by, factors_at, scalefactors, samples_at, granule_at, granules, payload}

-- the refusals that the payload states; short is any field's
abbrev pub Stated : Refusal → Type 0
Stated x = (x ≡ plain 3) ⊎ (x ≡ plain 4)

-- 288 indices below 63
abbrev pub FactorsBelow : List ℕ → Type 0
FactorsBelow a = Entries 288 (λ j v. v < 63) a

-- nothing is said of the value
abbrev Any : {A : Type 0} → A → Type 0
Any a = Unit {0}

-- ---- parts that state no refusal

scfsi-yields : (steps : List ℕ) → Yields (scfsi steps) Any Stated
unfolding scfsi scfsi_at
scfsi-yields steps =
    yields-times 96 0 (λ _. Any) tt
    (λ i a l p. yields-cond (eqb (get_or steps i 0) 0) (λ _. yields-done tt) (λ _. yields_field (λ v b. yields-done tt)))

predictors-yields : (predsi : List ℕ) → Yields (predictors predsi) Any Stated
unfolding predictors predictor_at
predictors-yields predsi =
    yields-times 48 0 (λ _. Any) tt
    (λ q a l p. yields-cond (eqb (count_at predsi (q / 6) (q % 6)) 0) (λ _. yields-done tt)
    (λ _. yields_field (λ d _. yields_field (λ x _. yields_field (λ y _. yields_field (λ z _. yields-done tt))))))

samples-yields : (own : List ℕ) (gr i : ℕ) (a : List ℕ) → Yields (samples_at own gr i a) Any Stated
unfolding samples_at
samples-yields own gr i a =
    yields-cond (eqb (get_or own i 0) 0) (λ _. yields-done tt)
    (λ _. yields-cond (grouped (get_or own i 0)) (λ _. yields_field (λ v _. yields-done tt))
    (λ _. yields_field (λ x _. yields_field (λ y _. yields_field (λ z _. yields-done tt)))))

granules-yields : (lfe : ℕ) (own : List ℕ) → Yields (granules lfe own) Any Stated
unfolding granules granule_at
granules-yields lfe own =
    yields-times 12 0 (λ _. Any) tt
    (λ gr a l p. yields_field (λ v _. yields-times 96 0 (λ _. Any) tt (λ i a' l' p'. samples-yields own gr i a')))

-- ---- scalefactors

factor-yields : {A : Type 0} {k : ℕ → Syntax A} {P : A → Type 0} → ((v : ℕ) → v < 63 → Yields (k v) P Stated) → Yields (factor k) P Stated
unfolding factor
factor-yields h = yields_field (λ v b. yields-cond (eqb v 63) (λ _. yields-refuse (inr refl)) (λ t. h v (omega (arith, eqb-false v 63 t))))

lf_scalefactor-yields : (lfe : ℕ) → Yields (lf_scalefactor lfe) (λ v. v < 63) Stated
unfolding lf_scalefactor
lf_scalefactor-yields lfe = yields-cond (eqb lfe 0) (λ _. yields-done (lit< tt)) (λ _. factor-yields (λ v b. yields-done b))

factors-yields : (code i : ℕ) (a : List ℕ) → FactorsBelow a → Yields (factors_by code i a) FactorsBelow Stated
unfolding factors_by
factors-yields code i a f =
    yields-cond (eqb code 0)
    (λ _. factor-yields (λ x bx. factor-yields (λ y by. factor-yields (λ z bz. yields-done (entries-set3 (3 * i) x y z bx by bz f)))))
    (λ _. yields-cond (eqb code 1) (λ _. factor-yields (λ x bx. factor-yields (λ y by. yields-done (entries-set3 (3 * i) x x y bx bx by f))))
    (λ _. yields-cond (eqb code 2) (λ _. factor-yields (λ x bx. yields-done (entries-set3 (3 * i) x x x bx bx bx f)))
    (λ _. factor-yields (λ x bx. factor-yields (λ y by. yields-done (entries-set3 (3 * i) x y y bx by by f))))))

scalefactors-yields : (steps codes : List ℕ) → Yields (scalefactors steps codes) FactorsBelow Stated
unfolding scalefactors factors_at
scalefactors-yields steps codes =
    yields-times 96 0 (λ _. FactorsBelow) (entries-zero 288 (λ j. lit< tt))
    (λ i a l f. yields-cond (eqb (get_or steps i 0) 0) (λ _. yields-done f) (λ _. factors-yields (get_or codes i 0) i a f))

-- ---- the payload

pub payload-yields : (layer3 : Bool) (lfe : ℕ) (predsi steps own : List ℕ)
    → Yields (payload layer3 lfe predsi steps own) (λ c. (c.1.1.0 < 63) × FactorsBelow c.1.1.1.0) Stated
unfolding payload check_layer3
payload-yields layer3 lfe predsi steps own =
    yields-weaken
    (yields_both (scfsi-yields steps)
    (λ codes _. yields-cond layer3 (λ _. yields-refuse (inl refl))
    (λ _. yields_both (predictors-yields predsi)
    (λ _ _. yields_both (lf_scalefactor-yields lfe) (λ _ _. yields_both (scalefactors-yields steps codes) (λ _ _. granules-yields lfe own))))))
    (λ c h. (h.1.1.0, h.1.1.1.0))
    (λ x h. h)

-- The codes of an accepted payload decide its used bits: each field is found in them.
use Rattle.std.specs.Prelude.{◌≡◌, refl, Bool, List, ℕ, suc, ◌+◌, ◌*◌, ◌/◌, ◌%◌, ◌<◌, eqb, get_or, set}
use Rattle.std.proofs.Common.{arith}
use Rattle.std.proofs.lemmas.List.{length-replicate}
use Rattle.bits.specs.Syntax.{Syntax, done}
use Rattle.bits.specs.Recovers.{Finds, Recovers}
use Rattle.bits.proofs.Unique.{finds-done, finds-refuse, finds-field, finds-cond, finds-weaken, finds-times, recovers-both}
use Rattle.bits.specs.Table.{set3}
use Rattle.bits.proofs.TableFill.{Filling, Keeps3, fill-up, fill-set, fill-set3, recovers-loop}
use Rattle.bitalloc.specs.Classes.{grouped}
use Rattle.mc_fields.specs.Head.{count_at}
use Rattle.mc_payload.specs.declared.McSettings.{McSettings}
use Rattle.mc_payload.specs.Unpack.{payload_of}
use Rattle.mc_payload.specs.Payload.{
  scfsi_at,
  scfsi,
  check_layer3,
  predictor_at,
  predictors,
  factor,
  lf_scalefactor,
  factors_by,
  factors_at,
  scalefactors,
  samples_at,
  granule_at,
  granules,
  payload,
}

-- entry i of a table, as what a field is found by
abbrev entry : ℕ → List ℕ → ℕ
entry i r = get_or r i 0

-- ---- scfsi

finds-scfsi : (steps : List ℕ) (i : ℕ) (a : List ℕ) (L : List ℕ → Type 0) → i < 96 → Filling 96 i a L → Finds (scfsi_at steps i a) L (Filling 96 (suc i))
unfolding scfsi_at
finds-scfsi steps i a L h q =
    finds-cond (eqb (get_or steps i 0) 0) (λ t. finds-done (fill-up (omega arith) q))
    (λ t. finds-field (entry i) (λ v b. finds-done (fill-set a i _ (omega arith) (omega arith) q (λ r l e. search))))

scfsi-recovers : (steps : List ℕ) → Recovers (scfsi steps)
unfolding scfsi
scfsi-recovers steps = recovers-loop 96 96 (λ i. i) _ _ (length-replicate {A = ℕ} 96 0) (finds-scfsi steps)

-- ---- predictors

finds-predictor : (predsi : List ℕ) (q : ℕ) (a : List ℕ) (L : List ℕ → Type 0) → q < 48 → Filling 192 (4 * q) a L
    → Finds (predictor_at predsi q a) L (Filling 192 (4 * suc q))
unfolding predictor_at
finds-predictor predsi q a L h f =
    let delay : (d : ℕ) → Filling 192 (4 * q + 1) (set a (4 * q) d) (λ r. L r × (entry (4 * q) r ≡ d)) =
    λ d. fill-set a (4 * q) d (omega arith) (omega arith) f (λ r l e. (l, e))
    in
    finds-cond (eqb (count_at predsi (q / 6) (q % 6)) 0) (λ t. finds-done (fill-up (omega arith) f))
    (λ t. finds-field (entry (4 * q))
    (λ d _. finds-field (entry (4 * q + 1))
    (λ x _. finds-field (entry (4 * q + 1 + 1))
    (λ y _. finds-field (entry (4 * q + 1 + 2))
    (λ z _. finds-done
    (fill-set3 (set a (4 * q) d) _ x y z (omega arith) (omega arith) (fill-up (omega arith) (delay d)) (λ r l k. search)))))))

predictors-recovers : (predsi : List ℕ) → Recovers (predictors predsi)
unfolding predictors
predictors-recovers predsi = recovers-loop 192 48 (λ q. 4 * q) _ _ (length-replicate {A = ℕ} 192 0) (finds-predictor predsi)

-- ---- scalefactors

finds-factor : {A C : Type 0} {k : ℕ → Syntax A} {L : C → Type 0} {Q : A → (C → Type 0) → Type 0} (find : C → ℕ)
    → ((v : ℕ) → Finds (k v) (λ r. L r × (find r ≡ v)) Q) → Finds (factor k) L Q
unfolding factor
finds-factor find h = finds-field find (λ v b. finds-cond (eqb v 63) (λ t. finds-refuse) (λ t. h v))

lf_scalefactor-recovers : (lfe : ℕ) → Recovers (lf_scalefactor lfe)
unfolding lf_scalefactor
lf_scalefactor-recovers lfe = finds-cond (eqb lfe 0) (λ t. finds-done tt) (λ t. finds-factor (λ r. r) (λ v. finds-done (tt, refl)))

finds-factors : (code i : ℕ) (a : List ℕ) (L : List ℕ → Type 0) → i < 96 → Filling 288 (3 * i) a L → Finds (factors_by code i a) L (Filling 288 (3 * suc i))
unfolding factors_by
finds-factors code i a L h q =
    let put : (x y z : ℕ) (P : List ℕ → Type 0) → ((r : List ℕ) → L r → Keeps3 (3 * i) x y z a r → P r)
    → Finds (done (set3 a (3 * i) x y z)) P (Filling 288 (3 * suc i)) =
    λ x y z P f. finds-done (fill-set3 a (3 * i) x y z (omega arith) (omega arith) q f)
    in
    finds-cond (eqb code 0)
    (λ t. finds-factor (entry (3 * i)) (λ x. finds-factor (entry (3 * i + 1)) (λ y. finds-factor (entry (3 * i + 2))
    (λ z. put _ _ _ _ (λ r l k. search)))))
    (λ t. finds-cond (eqb code 1)
    (λ t. finds-factor (entry (3 * i)) (λ x. finds-factor (entry (3 * i + 2)) (λ y. put _ _ _ _ (λ r l k. search))))
    (λ t. finds-cond (eqb code 2)
    (λ t. finds-factor (entry (3 * i)) (λ x. put _ _ _ _ (λ r l k. search)))
    (λ t. finds-factor (entry (3 * i)) (λ x. finds-factor (entry (3 * i + 1)) (λ y. put _ _ _ _ (λ r l k. search))))))

finds-factors_at : (steps codes : List ℕ) (i : ℕ) (a : List ℕ) (L : List ℕ → Type 0) → i < 96 → Filling 288 (3 * i) a L
    → Finds (factors_at steps codes i a) L (Filling 288 (3 * suc i))
unfolding factors_at
finds-factors_at steps codes i a L h q =
    finds-cond (eqb (get_or steps i 0) 0) (λ t. finds-done (fill-up (omega arith) q)) (λ t. finds-factors (get_or codes i 0) i a L h q)

scalefactors-recovers : (steps codes : List ℕ) → Recovers (scalefactors steps codes)
unfolding scalefactors
scalefactors-recovers steps codes = recovers-loop 288 96 (λ i. 3 * i) _ _ (length-replicate {A = ℕ} 288 0) (finds-factors_at steps codes)

-- ---- granules

finds-samples : (own : List ℕ) (gr i : ℕ) (a : List ℕ) (L : List ℕ → Type 0) → gr < 12 → i < 96 → Filling 3468 (289 * gr + 1 + 3 * i) a L
    → Finds (samples_at own gr i a) L (Filling 3468 (289 * gr + 1 + 3 * suc i))
unfolding samples_at
finds-samples own gr i a L hg h q =
    let n = get_or own i 0 in
    let j = 289 * gr + 1 + 3 * i in
    finds-cond (eqb n 0) (λ t. finds-done (fill-up (omega arith) q))
    (λ t. finds-cond (grouped n)
    (λ t. finds-field (entry j) (λ v _. finds-done (fill-set a _ _ (omega arith) (omega arith) (fill-up (omega arith) q) (λ r l e. search))))
    (λ t. finds-field (entry j) (λ x _. finds-field (entry (j + 1)) (λ y _. finds-field (entry (j + 2))
    (λ z _. finds-done (fill-set3 a _ _ _ _ (omega arith) (omega arith) (fill-up (omega arith) q) (λ r l k. search)))))))

finds-granule : (lfe : ℕ) (own : List ℕ) (gr : ℕ) (a : List ℕ) (L : List ℕ → Type 0) → gr < 12 → Filling 3468 (289 * gr) a L
    → Finds (granule_at lfe own gr a) L (Filling 3468 (289 * suc gr))
unfolding granule_at
finds-granule lfe own gr a L h q =
    finds-field (entry (289 * gr))
    (λ v _. finds-weaken
    (finds-times 96 0 (λ i. Filling 3468 (289 * gr + 1 + 3 * i))
    (fill-set a (289 * gr) v (omega arith) (omega arith) q (λ r l e. (l, e)))
    (λ i a L b. finds-samples own gr i a L h (omega arith)))
    (λ a L q. fill-up (omega arith) q))

granules-recovers : (lfe : ℕ) (own : List ℕ) → Recovers (granules lfe own)
unfolding granules
granules-recovers lfe own = recovers-loop 3468 12 (λ gr. 289 * gr) _ _ (length-replicate {A = ℕ} 3468 0) (finds-granule lfe own)

-- ---- the payload

payload-recovers : (layer3 : Bool) (lfe : ℕ) (predsi steps own : List ℕ) → Recovers (payload layer3 lfe predsi steps own)
unfolding payload check_layer3
payload-recovers layer3 lfe predsi steps own =
    recovers-both (scfsi-recovers steps)
    (λ codes. finds-cond layer3 (λ t. finds-refuse)
    (λ t. recovers-both (predictors-recovers predsi)
    (λ _. recovers-both (lf_scalefactor-recovers lfe) (λ _. recovers-both (scalefactors-recovers steps codes) (λ _. granules-recovers lfe own)))))

pub codes-recover : (s : McSettings) → Recovers (payload_of s)
unfolding payload_of
codes-recover s = payload-recovers _ _ _ _ _

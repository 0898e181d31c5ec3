-- What the parts of mc_composite_status_info() yield: the sizes of the tables, the bounds of their entries, and refusal 2.
use Rattle.std.specs.Prelude.{◌≡◌, Bool, true, false, cond, List, ℕ, suc, ◌+◌, ◌*◌, ◌/◌, ◌%◌, ◌^◌, ◌≤◌, ◌<◌, eqb, ltb, get_or, set, replicate}
use Rattle.std.proofs.Math.Path.{refl}
use Rattle.std.proofs.Common.{sym, ap, ◌∙◌, arith, ltb-true, ltb-false, eqb-true, lit≤, get_or-set_same, get_or-set_other}
use Rattle.std.proofs.Math.Decide.{ℕ_discrete}
use Rattle.std.proofs.Math.Pow.{pow_pos}
use Rattle.bits.specs.Syntax.{Refusal, times}
use Rattle.bits.proofs.Entries.{Entries, entries-replicate, entries-zero, entries-set}
use Rattle.bits.proofs.Yields.{Yields, yields-done, yields-refuse, yields_field, yields-cond, yields-times, yields-weaken}
use Rattle.mc_crosstalk.specs.Crosstalk.{listed}
use Rattle.mc_fields.proofs.ForbiddenLaws.{passed-listed, found-nonzero}
use Rattle.mc_fields.specs.Head.{bits_if, tc_at, tc_allocation, dyn_cross_at, dyn_cross, mode_at, predsi_at, prediction_at, prediction, flag_at, count_at, first_forbidden, check_modes}

-- ---- tc_allocation

pub tc-yields : (once : Bool) (bits : ℕ) {R : Refusal → Type 0} → Yields (tc_allocation once bits) (Entries 12 (λ g v. v < 2 ^ bits)) R
unfolding tc_allocation tc_at
tc-yields once bits =
    yields-cond once
    (λ e. yields_field (λ v h. yields-done (entries-replicate 12 v (λ k. h) (λ k. pow_pos bits))))
    (λ e. yields-times 12 0 (λ g. Entries 12 (λ g v. v < 2 ^ bits)) (entries-zero 12 (λ k. pow_pos bits))
    (λ g a b t. yields_field (λ v h. yields-done (entries-set g v h t))))

-- ---- dyn_cross_mode and dyn_second_stereo

-- an entry of the table: codes at even places, second stereo bits at odd ones
abbrev pub cross_entry : ℕ → ℕ → ℕ → ℕ → Type 0
cross_entry mode_bits second_bits k v = (k % 2 ≡ 0 → v < 2 ^ mode_bits) × (k % 2 ≡ 1 → v < 2 ^ second_bits)

pub cross-yields : (mode_bits second_bits : ℕ) {R : Refusal → Type 0} → Yields (dyn_cross mode_bits second_bits) (Entries 24 (cross_entry mode_bits second_bits)) R
unfolding dyn_cross dyn_cross_at
cross-yields mode_bits second_bits =
    yields-times 12 0 (λ g. Entries 24 (cross_entry mode_bits second_bits)) (entries-zero 24 (λ k. (λ e. pow_pos mode_bits, λ e. pow_pos second_bits)))
    (λ g a b t. yields_field
    (λ mode h. yields_field
    (λ second h'. yields-done
    (entries-set (2 * g + 1) second (λ e. absurd (omega arith), λ e. h') (entries-set (2 * g) mode (λ e. h, λ e. absurd (omega arith)) t)))))

-- ---- mc_prediction and predsi

-- an entry of the table: flags at multiples of 7, and counts after each; none past the predictors of the group
abbrev pub count_entry : (ℕ → ℕ) → ℕ → ℕ → Type 0
count_entry predictors k v = (v ≤ 3) × (predictors (k / 7) < k % 7 → v ≡ 0)

abbrev pub prediction_entry : Bool → (ℕ → ℕ) → ℕ → ℕ → Type 0
prediction_entry on predictors k v = (k % 7 ≡ 0 → v < 2 ^ bits_if on 1) × ((k % 7 ≡ 0 → ⊥) → count_entry predictors k v)

-- filled up to a level; no counts without the flag
pub record Predicted (on : Bool) (predictors : ℕ → ℕ) (level : ℕ) (t : List ℕ) : Type 0 where
  pub table : Entries 56 (prediction_entry on predictors) t
  pub off : (g px : ℕ) → px < 6 → flag_at t g ≡ 0 → count_at t g px ≡ 0
  pub rest : (k : ℕ) → level ≤ k → get_or t k 0 ≡ 0

module _ (on : Bool) (predictors : ℕ → ℕ) where
  predicted-le : {n m : ℕ} {t : List ℕ} → n ≤ m → Predicted on predictors n t → Predicted on predictors m t
  predicted-le h p = record { table = p.table; off = p.off; rest = λ k b. p.rest k (omega arith) }

  -- the flag of group g is stored
  flag-stored : (g v : ℕ) (t : List ℕ) → v < 2 ^ bits_if on 1 → Predicted on predictors (7 * g) t → Predicted on predictors (7 * g + 1) (set t (7 * g) v)
  flag-stored g v t h p =
      record {
        table = entries-set (7 * g) v (λ e. h, λ e. absurd (e (omega arith))) p.table;
        off = λ g' px b. at g' px b (ℕ_discrete g' g);
        rest = λ k b. get_or-set_other t (7 * g) k v 0 (λ e. omega arith) ∙ p.rest k (omega arith);
      }
    where
      at : (g' px : ℕ) → px < 6 → Dec (g' ≡ g) → flag_at (set t (7 * g) v) g' ≡ 0 → count_at (set t (7 * g) v) g' px ≡ 0
      at g' px b (yes q) z = get_or-set_other t (7 * g) (7 * g' + 1 + px) v 0 (λ e. omega arith) ∙ p.rest (7 * g' + 1 + px) (omega arith)
      at g' px b (no q) z =
          let f : flag_at t g' ≡ 0 = sym (get_or-set_other t (7 * g) (7 * g') v 0 (λ e. q (omega arith))) ∙ z in
          get_or-set_other t (7 * g) (7 * g' + 1 + px) v 0 (λ e. omega arith) ∙ p.off g' px b f

  -- a count of group g is stored, whose flag is set
  record Counted (g px : ℕ) (t : List ℕ) : Type 0 where
    so_far : Predicted on predictors (7 * g + 1 + px) t
    flag : flag_at t g ≡ 1

  count-stored : (g px v : ℕ) (t : List ℕ) → px < predictors g → px < 6 → v < 2 ^ 2 → Counted g px t → Counted g (suc px) (set t (7 * g + 1 + px) v)
  count-stored g px v t hp h6 hv p =
      let i = 7 * g + 1 + px in
      let q = p.so_far in
      record {
        so_far =
            record {
              table = entries-set i v (λ e. absurd (omega arith), λ e. (omega arith, small)) q.table;
              off = λ g' px' b. at g' px' b (ℕ_discrete g' g);
              rest = λ k b. get_or-set_other t i k v 0 (λ e. omega arith) ∙ q.rest k (omega arith);
            };
        flag = get_or-set_other t i (7 * g) v 0 (λ e. omega arith) ∙ p.flag;
      }
    where
      small : predictors ((7 * g + 1 + px) / 7) < (7 * g + 1 + px) % 7 → v ≡ 0
      small b =
          let d : (7 * g + 1 + px) / 7 ≡ g = omega arith in
          let e : predictors ((7 * g + 1 + px) / 7) ≡ predictors g = ap predictors d in
          absurd (omega arith)

      at : (g' px' : ℕ) → px' < 6 → Dec (g' ≡ g) → flag_at (set t (7 * g + 1 + px) v) g' ≡ 0 → count_at (set t (7 * g + 1 + px) v) g' px' ≡ 0
      at g' px' b (yes e) z =
          let f : flag_at t g ≡ 0 = sym (get_or-set_other t (7 * g + 1 + px) (7 * g) v 0 (λ e. omega arith)) ∙ rw e at z in
          let o = p.flag in
          absurd (omega arith)
      at g' px' b (no e) z =
          let f : flag_at t g' ≡ 0 = sym (get_or-set_other t (7 * g + 1 + px) (7 * g') v 0 (λ e. omega arith)) ∙ z in
          get_or-set_other t (7 * g + 1 + px) (7 * g' + 1 + px') v 0 (λ d. e (omega arith)) ∙ p.so_far.off g' px' b f

  group-yields : (g v : ℕ) (t : List ℕ) {R : Refusal → Type 0} → g < 8 → predictors g ≤ 6 → v < 2 ^ bits_if on 1 → Predicted on predictors (7 * g) t
      → Yields (times (cond (eqb v 1) (predictors g) 0) 0 (predsi_at g) (set t (7 * g) v)) (Predicted on predictors (7 * suc g)) R
  unfolding predsi_at times
  group-yields g v t {R} h h6 hv p = go (eqb v 1) refl
    where
      stored : Predicted on predictors (7 * g + 1) (set t (7 * g) v)
      stored = flag-stored g v t hv p

      go : (s : Bool) → eqb v 1 ≡ s → Yields (times (cond s (predictors g) 0) 0 (predsi_at g) (set t (7 * g) v)) (Predicted on predictors (7 * suc g)) R
      go true e =
          let l = p.table.sized in
          yields-weaken
          (yields-times (predictors g) 0 (Counted g)
          (record { so_far = predicted-le (omega arith) stored; flag = get_or-set_same t (7 * g) v 0 (omega arith) ∙ eqb-true v 1 e })
          (λ px a b c. yields_field (λ n hn. yields-done (count-stored g px n a (omega arith) (omega arith) hn c))))
          (λ a c. predicted-le (omega arith) c.so_far)
          (λ x r. r)
      go false e = yields-done (predicted-le (omega arith) stored)

  pub prediction-yields : ((g : ℕ) → predictors g ≤ 6) → {R : Refusal → Type 0} → Yields (prediction on predictors) (Predicted on predictors 56) R
  unfolding prediction prediction_at
  prediction-yields h6 =
      yields-times 8 0 (λ g. Predicted on predictors (7 * g))
      (record {
        table = entries-zero 56 (λ k. (λ e. pow_pos (bits_if on 1), λ e. (lit≤ tt, λ b. refl)));
        off = λ g px b z. zeroes.entry (7 * g + 1 + px);
        rest = λ k b. zeroes.entry k;
      })
      (λ g t b p. yields_field (λ v h. group-yields g v t (omega arith) (h6 g) h p))
    where
      zeroes : Entries 56 (λ k v. v ≡ 0) (replicate 56 0)
      zeroes = entries-zero 56 (λ k. refl)

-- ---- the test of the codes

-- refusal 2 names one of the twelve groups, and a code other than 0
pub record Forbids (x : Refusal) : Type 0 where
  pub number : x.number ≡ 2
  pub group : x.group < 12
  pub code : x.code ≡ 0 → ⊥

pub check-yields : {A : Type 0} (pair : ℕ) (cross : List ℕ) (a : A) {P : A → Type 0}
    → (((g : ℕ) → g < 12 → listed pair (mode_at cross g) ≡ true) → P a) → Yields (check_modes pair cross a) P Forbids
unfolding check_modes
check-yields pair cross a h =
    let g = first_forbidden pair cross 12 0 in
    yields-cond (ltb g 12)
    (λ e. let b : g < 12 = ltb-true g 12 e in yields-refuse (record { number = refl; group = b; code = found-nonzero pair cross 12 0 b }))
    (λ e. let b : 12 ≤ g = ltb-false g 12 e in yields-done (h (λ k l. passed-listed pair cross 12 0 b k (omega arith) l)))

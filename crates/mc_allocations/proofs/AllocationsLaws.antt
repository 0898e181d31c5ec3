-- The tests of step counts as the code makes them are those of the definition.
use Rattle.std.specs.Prelude.{◌≡◌, refl, Bool, true, false, not, ◌&&◌, ◌||◌, cond, List, ℕ, ◌+◌, ◌*◌, ◌/◌, ◌%◌, ◌<◌, eqb, ltb, length, get_or}
use Rattle.std.specs.List.{list_all, enumerate_from}
use Rattle.std.proofs.Common.{sym, ◌∙◌, eq-eqb, ne_eqb}
use Rattle.std.proofs.Math.Bool.{and-true, and-false}
use native.Mathlib.Omega.{arith}
use Rattle.fill.proofs.TabLaws.{get_or-tab}
use Rattle.bitalloc.specs.Classes.{class_index, is_class}
use Rattle.mc_payload.specs.declared.McSettings.{McSettings}
use Rattle.mc_payload.specs.Places.{transmitted, own_at, place, own_of}
use Rattle.fill.specs.Each.{each}
use Rattle.mc_payload.specs.Unpack.{allocation_fits, allocations_fit}
use Rattle.fill.proofs.EachLaws.{each_same}
use Rattle.fill.proofs.AllLaws.{all_numbered}
use Rattle.mc_allocations.specs.AllocationsBy.{allocation_by, allocation_at}

-- ---- one step count

module _ (n i : ℕ) (e : i ≡ class_index n) (h : n ≡ 0 → ⊥) where
  pub allocation-class : (own : ℕ) → (own ≡ 0 → ⊥) → ltb i 17 ≡ allocation_by n own
  unfolding allocation_by
  allocation-class own z = rw (ne_eqb n 0 h, ne_eqb own 0 z, e) (sym (and-true (is_class n)))

pub allocation-zero : (n own : ℕ) → n ≡ 0 → true ≡ allocation_by n own
unfolding allocation_by
allocation-zero n own z = rw (eq-eqb n 0 z)

pub allocation-unsent : (n own : ℕ) → (n ≡ 0 → ⊥) → own ≡ 0 → false ≡ allocation_by n own
unfolding allocation_by
allocation-unsent n own h z = rw (ne_eqb n 0 h, eq-eqb own 0 z) (sym (and-false (is_class n)))

-- ---- allocations

-- a place whose step count is not 0 has samples in the payload exactly where it is transmitted
sent : (n : ℕ) (t : Bool) → allocation_by n (cond t n 0) ≡ (eqb n 0 || (is_class n && t))
unfolding allocation_by
sent n t = go (eqb n 0) refl t
  where
    go : (z : Bool) → eqb n 0 ≡ z → (t : Bool) → (eqb n 0 || (is_class n && not (eqb (cond t n 0) 0))) ≡ (eqb n 0 || (is_class n && t))
    go true e t = rw e
    go false e true = rw e
    go false e false = refl

module _ (s : McSettings) (own : List ℕ) (e : own ≡ own_of s) where
  allocation-at : (k : ℕ) → k < 96 → allocation_at s.nb_steps own k ≡ allocation_fits s k
  unfolding own_of own_at
  allocation-at k h =
      let m : (3 * (k % 32) + k / 32) % 3 ≡ k / 32 = omega arith in
      let sb : (3 * (k % 32) + k / 32) / 3 ≡ k % 32 = omega arith in
      let j : 32 * (k / 32) + k % 32 ≡ k = omega arith in
      rw (e, get_or-tab 0 (place (own_at s)) 96 (3 * (k % 32) + k / 32) (omega arith), m, sb, j) (sent (get_or s.nb_steps k 0) (transmitted s (k / 32) (k % 32)))

  allocations-each : each (allocation_at s.nb_steps own) 96 ≡ each (allocation_fits s) 96
  allocations-each = each_same (allocation_at s.nb_steps own) (allocation_fits s) 96 allocation-at

  pub allocations-refused : false ≡ each (allocation_at s.nb_steps own) 96 → false ≡ allocations_fit s
  unfolding allocations_fit
  allocations-refused t = rw (← allocations-each, ← t)

  pub allocations-none : each (allocation_at s.nb_steps own) 96 ≡ true → s.lfe_allocation ≡ 0 → true ≡ allocations_fit s
  unfolding allocations_fit
  allocations-none t z = rw (← allocations-each, t, eq-eqb s.lfe_allocation 0 z)

  pub allocations-lfe : each (allocation_at s.nb_steps own) 96 ≡ true → (s.lfe_allocation ≡ 0 → ⊥) → s.header.lfe ≡ allocations_fit s
  unfolding allocations_fit
  allocations-lfe t z = rw (← allocations-each, t, ne_eqb s.lfe_allocation 0 z)

  -- all of them, as the code goes over the table
  allocations-tested : length s.nb_steps ≡ 96 → list_all (λ p. allocation_by p.1 (get_or own (3 * (p.0 % 32) + p.0 / 32) 0)) (enumerate_from 0 s.nb_steps) ≡ each (allocation_fits s) 96
  allocations-tested h =
      all_numbered (λ p. allocation_by p.1 (get_or own (3 * (p.0 % 32) + p.0 / 32) 0)) 0 s.nb_steps ∙ (rw h allocations-each)

  -- its answer
  pub all-fit : length s.nb_steps ≡ 96 → (b t : Bool) → b ≡ list_all (λ p. allocation_by p.1 (get_or own (3 * (p.0 % 32) + p.0 / 32) 0)) (enumerate_from 0 s.nb_steps) → b ≡ t → each (allocation_fits s) 96 ≡ t
  all-fit h b t tested is = sym (tested ∙ allocations-tested h) ∙ is

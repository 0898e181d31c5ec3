-- At most 1,080 group codes of a payload have an excess.
use Rattle.std.specs.Prelude.{◌≡◌, refl, Bool, true, false, cond, ℕ, ◌/◌, ◌%◌, ◌≤◌, ◌<◌, ltb, get_or}
use Rattle.std.proofs.Common.{arith, ltb-false}
use Rattle.fill.proofs.TabLaws.{get_or-tab}
use Rattle.bits.specs.Total.{total}
use Rattle.bits.proofs.TotalLaws.{total-le}
use Rattle.bitalloc.specs.Classes.{classes, class_at, class_index, grouped}
use Rattle.mc_payload.specs.declared.McSettings.{McSettings}
use Rattle.mc_payload.specs.Places.{transmitted, own_at}
use Rattle.mc_payload.specs.Payload.{Codes}
use Rattle.mc_payload.specs.Record.{excess_at, excesses_of, one_for, excess_codes}
use Rattle.mc_payload.specs.Excess.{most, NoneMore}
use Rattle.mc_payload.specs.Unpack.{settings_of}
use Rattle.mc_payload.proofs.Counting.{one-most, one_none}
use Rattle.mc_payload.proofs.Longest.Bound.{carried_none}

ninety : total 1152 0 (λ k. cond (ltb k 1080) 1 0) ≡ most
unfolding total
ninety = refl

pub single_none : grouped 0 ≡ false
unfolding classes class_at class_index
single_none = refl

past-none : (s : McSettings) (c : Codes) (k : ℕ) → k < 1152 → ltb k 1080 ≡ false → excess_at s c (k % 12) (k / 12 % 3) (k / 36) ≡ 0
unfolding excess_at own_at transmitted
past-none s c k h e =
    let past = ltb-false k 1080 e in
    rw (carried_none s (k / 12 % 3) (k / 36) (omega arith), single_none)

entry-most : (s : McSettings) (c : Codes) (k : ℕ) → k < 1152 → one_for (get_or (excesses_of s c) k 0) ≤ cond (ltb k 1080) 1 0
unfolding excesses_of
entry-most s c k h = rw (get_or-tab 0 (λ (k : ℕ). excess_at s c (k % 12) (k / 12 % 3) (k / 36)) 1152 k h) (go (ltb k 1080) refl)
  where
    go : (t : Bool) → ltb k 1080 ≡ t → one_for (excess_at s c (k % 12) (k / 12 % 3) (k / 36)) ≤ cond t 1 0
    go true e = one-most _
    go false e = rw (one_none _ (past-none s c k h e)) (omega arith)

pub excess-most : (s : McSettings) (c : Codes) → excess_codes (excesses_of s c) ≤ most
unfolding excess_codes
excess-most s c = rw ninety at (total-le 1152 0 (λ k. one_for (get_or (excesses_of s c) k 0)) (λ k. cond (ltb k 1080) 1 0) (λ k h. entry-most s c k (omega arith)))

pub none-more : NoneMore
none-more l b n c u e = excess-most (settings_of l) c

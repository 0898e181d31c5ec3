-- One step count by its class; and what a loan is tested for under reading 1.
use Rattle.std.specs.Prelude.{◌≡◌, refl, ◌&&◌, List, ℕ, ◌*◌, eqb, ltb, leb, length, get_or}
use Rattle.std.proofs.Common.{ne_eqb}
use Rattle.bitalloc.specs.Classes.{class_index}
use Rattle.fill.specs.Each.{each}
use Rattle.mc_fields.specs.Lent.{base_fits}
use Rattle.mc_payload.specs.Unpack.{rate_fits, steps_fit, loan_fits}

module _ (n i : ℕ) (e : i ≡ class_index n) (h : n ≡ 0 → ⊥) where
  pub steps-class : ltb i 17 ≡ steps_fit n
  steps-class = rw (ne_eqb n 0 h, e)

-- under reading 1, by computation, what it was tested for before there were readings
pub loan-first : (rate base_channels lfe : ℕ) (steps base_steps : List ℕ)
    → loan_fits 1 rate base_channels lfe steps base_steps
    ≡ (rate_fits rate
    && (base_fits base_channels
    && (leb lfe 15
    && (eqb (length steps) 96
    && (eqb (length base_steps) (32 * base_channels) && each (λ k. steps_fit (get_or base_steps k 0)) (32 * base_channels))))))
unfolding loan_fits
loan-first rate base_channels lfe steps base_steps = refl

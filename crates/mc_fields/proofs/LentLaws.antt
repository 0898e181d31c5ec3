-- Laws of a lent head: where the loan fits it is what the program finds, and only then is it accepted.
use Rattle.std.proofs.Math.Path.{◌≡◌, refl}
use Rattle.std.specs.Prelude.{Bool, List, ℕ, ◌≤◌}
use Rattle.std.proofs.Math.Bool.{true, false, cond}
use Rattle.std.proofs.Common.{arith}
use Rattle.bits.specs.Syntax.{plain, accepted, refused, run}
use Rattle.bits.proofs.SyntaxLaws.{within}
use Rattle.mc_config.specs.declared.McHeader.{McHeader}
use Rattle.mc_fields.specs.Head.{head}
use Rattle.mc_fields.proofs.HeadWidth.{head-used}
use Rattle.mc_fields.specs.Lent.{head_fits, head_of}
use Rattle.mc_fields.specs.declared.McStatus.{McStatus}

module _ (reading : ℕ) (bytes : List ℕ) (bits base_channels : ℕ) where
  pub lent-fits : head_fits reading bytes bits base_channels ≡ true → head_of reading bytes bits base_channels ≡ run (head reading base_channels) bytes bits 0
  unfolding head_of
  lent-fits e = rw e

  pub lent-wrong : head_fits reading bytes bits base_channels ≡ false → head_of reading bytes bits base_channels ≡ refused (plain 6)
  unfolding head_of
  lent-wrong e = rw e

  module _ (r : McHeader × (ℕ × McStatus)) (used : ℕ) (e : head_of reading bytes bits base_channels ≡ accepted r used) where
    pub lent-accepted : run (head reading base_channels) bytes bits 0 ≡ accepted r used
    unfolding head_of
    lent-accepted = go (head_fits reading bytes bits base_channels) e
      where
        go : (t : Bool) → cond t (run (head reading base_channels) bytes bits 0) (refused (plain 6)) ≡ accepted r used → run (head reading base_channels) bytes bits 0 ≡ accepted r used
        go true q = q
        go false q = let z : ◌≡◌ {A = ℕ} 0 1 = cc in absurd (omega arith)

    pub lent-only : head_fits reading bytes bits base_channels ≡ true
    unfolding head_of
    lent-only = go (head_fits reading bytes bits base_channels) e
      where
        go : (t : Bool) → cond t (run (head reading base_channels) bytes bits 0) (refused (plain 6)) ≡ accepted r used → t ≡ true
        go true q = refl
        go false q = let z : ◌≡◌ {A = ℕ} 0 1 = cc in absurd (omega arith)

    pub lent-used : (used ≤ bits) × (used ≤ 232)
    lent-used = (within (head reading base_channels) bytes bits 0 r used (omega arith) lent-accepted, head-used reading base_channels bytes bits r used lent-accepted)

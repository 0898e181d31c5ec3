-- Laws of the chosen base channel: the right-hand lists are empty for one channel, and are never chosen then.
use Rattle.std.specs.Prelude.{◌≡◌, refl, Bool, true, false, cond, List, ℕ, zero, suc, ◌<◌, eqb, Float, length}
use Rattle.std.proofs.Common.{sym, arith}
use Rattle.mc_payload.specs.declared.McSettings.{McSettings}
use Rattle.mc_payload.specs.Places.{base_at}
use Rattle.mc_roles.specs.Roles.{base_of}
use Rattle.mc_base.specs.Base.{chosen}
use Rattle.mc_predict.specs.Predict.{base_for}

-- any channel, where the first is meant if there is but one
pub chosen-long :
    (one : Bool) (ch : ℕ) {n : ℕ} (left right : List Float)
    → length left ≡ n
    → length right ≡ cond one 0 n
    → length (chosen (cond one 0 ch) left right) ≡ n
chosen-long true ch left right l r = l
chosen-long false ch {n} left right l r = either (eqb ch 0)
  where
    either : (b : Bool) → length (cond b left right) ≡ n
    either true = l
    either false = r

-- the base channel of a crossed channel
pub crossed-long :
    (s : McSettings) (m sb : ℕ) (left right : List Float)
    → length left ≡ 1152
    → length right ≡ cond (eqb s.base_channels 1) 0 1152
    → length (chosen (base_at s m sb) left right) ≡ 1152
unfolding base_at base_of
crossed-long s m sb left right l r = chosen-long (eqb s.base_channels 1) _ left right l r

-- the base channel that stands for the first is the first
pub first-base : (s : McSettings) (left right : List Float) → chosen (base_for s 0) left right ≡ left
first-base s left right = go (eqb s.base_channels 1)
  where
    go : (b : Bool) → chosen (cond b 0 0) left right ≡ left
    go true = refl
    go false = refl

-- a channel that is chosen of the two that stand for both
pub chosen-base : (s : McSettings) (ch : ℕ) (left right : List Float) → ch < 2 → chosen ch left (chosen (base_for s 1) left right) ≡ chosen (base_for s ch) left right
chosen-base s zero left right h = sym (first-base s left right)
chosen-base s (suc zero) left right h = refl
chosen-base s (suc (suc ch)) left right h = absurd (omega arith)

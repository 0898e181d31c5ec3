-- `McDecodeState::new` meets its contract: the defaults are zeros.
use Rattle.std.specs.Prelude.{◌≡◌, List, ℕ, ◌<◌, get_or, replicate}
use Rattle.std.proofs.Common.{sym, ◌∙◌}
use Rattle.std.proofs.lemmas.List.{ext_get_or, length-replicate, get_or-replicate}
use Rattle.std.specs.Array.{AllOfLen}
use Rattle.floats.specs.Binary64.{zero64}
use Rattle.mc_state.specs.Frame.{fresh}
use Rattle.mc_state.proofs.McDecodeState.new.Goals as goal

-- elements that are all the same
same-all : {A : Type 0} (P : A → Type 0) (a : A) (xs : List A) (n : ℕ) → ((x : A) → P x → x ≡ a) → AllOfLen P xs n → xs ≡ replicate n a
same-all P a xs n same p =
    ext_get_or a xs (replicate n a) (p.long ∙ sym (length-replicate n a))
    (λ i h. let low : i < n = rw p.long at h in same (get_or xs i a) (p.at i a low) ∙ sym (get_or-replicate n i a a low))

pub returns : goal.returns
unfolding fresh
returns c =
    let e = c.default.ensures in
    rw (same-all _ zero64 c.default.result.pred_hist 576 (λ x h. h) e.0, e.1.0, e.1.1.0, same-all _ 0 c.default.result.accepted 8 (λ x h. h) e.1.1.1)

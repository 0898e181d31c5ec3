-- Three fields of one width, one after the other.
use Rattle.std.specs.Prelude.{List, ℕ, [], ◌∷◌}
use Rattle.bits.specs.Syntax.{Syntax, done, field}

unfoldable pub three : ℕ → Syntax (List ℕ)
three n = field n (λ x. field n (λ y. field n (λ z. done (x ∷ y ∷ z ∷ []))))

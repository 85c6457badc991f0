-- The list of a function's values at successive numbers. Assumes nothing.
use Rattle.std.specs.Prelude.{ℕ, zero, suc, List, [], ◌∷◌}

-- f a, f (a + 1), .., n values.
unfoldable pub list_from {ℓ} : {A : Type ℓ} → (ℕ → A) → ℕ → ℕ → List A
list_from f a zero = []
list_from f a (suc n) = f a ∷ list_from f (suc a) n

-- The elements of a list that pass a test. Assumes nothing.
use Rattle.std.specs.Prelude.{Bool, true, false, cond, List, [], ◌∷◌, ◌++◌}

-- The list with the element in front, where the test holds.
abbrev pub put_if {ℓ} : {A : Type ℓ} → Bool → A → List A → List A
put_if true a l = a ∷ l
put_if false a l = l

-- The elements that pass, in their order.
unfoldable pub keep {ℓ} : {A : Type ℓ} → (A → Bool) → List A → List A
keep p [] = []
keep p (x ∷ l) = cond (p x) (x ∷ []) [] ++ keep p l

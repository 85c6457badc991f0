-- How often a number stands in a list; lists that no element stands in twice; a list without a number. Assumes nothing.
use Rattle.std.specs.Prelude.{ℕ, suc, max, not, eqb}
use mathlib.Core.List.{List, [], ◌∷◌, Memᴰ}
use Rattle.lemmas.specs.Every.{count}
use Rattle.lemmas.specs.Keep.{keep}

-- How often q stands in the list.
unfoldable pub times : ℕ → List ℕ → ℕ
times q l = count (λ x. eqb q x) l

-- No element stands in the list twice.
abbrev pub Distinct {ℓ} : {A : Type ℓ} → List A → Type ℓ
Distinct [] = Unit
Distinct (x ∷ l) = (Memᴰ x l → ⊥) × Distinct l

-- The list without q, wherever it stands.
unfoldable pub remove : ℕ → List ℕ → List ℕ
remove q l = keep (λ x. not (eqb q x)) l

-- The least number above every entry.
unfoldable pub above : List ℕ → ℕ
above [] = 0
above (x ∷ l) = max (suc x) (above l)

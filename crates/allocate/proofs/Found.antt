-- What the code's answers say of lists and of the search for pages. Assumes nothing.
use Prim.Native.Nat.{ℕ}
use mathlib.Core.Path.{◌≡◌, refl, sym, ap}
use mathlib.Core.List.{List, [], ◌∷◌}
use mathlib.Core.Option as maybe
use mathlib.Core.Option.{none, some}
use Rattle.std.specs.Prelude.{Some, None}
use Rattle.std.proofs.lemmas.Option.{none-some, same_Some}
use Rattle.model.specs.Pages.{FreeRun}
use Rattle.header.specs.Front.{front_of}
use Rattle.pages.specs.Places.{found}

pub front-page : (l : List ℕ) (p : ℕ) → front_of l ≡ Some p → (ps : List ℕ) × (l ≡ p ∷ ps)
front-page [] p e = absurd (none-some p e)
front-page (q ∷ l) p e = (l, ap (λ x. x ∷ l) (same_Some q p e))

pub front-nothing : (l : List ℕ) → front_of l ≡ None → l ≡ []
front-nothing [] e = refl
front-nothing (q ∷ l) e = absurd (none-some q (sym e))

-- The code's none is that no run was chosen.
pub found-none : (o : maybe.Option FreeRun) → found o ≡ None → o ≡ none
found-none none e = refl
found-none (some h) e = absurd (none-some (record { at = h.page; len = h.size }) (sym e))

-- Zero words: so many of them, and a stretch of a list in which every word is zero. Assumes nothing.
use Rattle.std.specs.Prelude.{ℕ, ◌≤◌, ◌<◌, ◌≡◌, Bool, List, eqb, get_or, replicate}

-- n zeros.
unfoldable pub zeros : ℕ → List ℕ
zeros n = replicate n 0

-- The test that a scan for zeros makes.
abbrev pub is_zero : ℕ → Bool
is_zero x = eqb x 0

-- Every word of w from index a on, below index b, is 0.
pub record Zero (w : List ℕ) (a b : ℕ) : Type 0 where
  pub at : (i : ℕ) → a ≤ i → i < b → get_or w i 0 ≡ 0

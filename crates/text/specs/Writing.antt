-- What every writer of a text promises, and the texts that are made of a number and something more. Assumes nothing.
use Rattle.std.specs.Prelude.{ℕ, ◌+◌, ◌^◌, ◌<◌, ◌≡◌, List, [], ◌∷◌, ◌++◌, length}
use Rattle.std.proofs.lemmas.List.Edits.{sets}
use Rattle.model.specs.Text.{decimal, line}

-- The position after the text is a number of 64 bits.
abbrev pub Bounded : ℕ → List ℕ → Type 0
Bounded at text = at + length text < 2 ^ 64

-- The text was written at position `at` of the buffer l, as far as the buffer reaches: r is the position after the text, and
-- m the buffer then. (`sets` drops the stores past the end.)
pub record Wrote (l : List ℕ) (at : ℕ) (text : List ℕ) (r : ℕ) (m : List ℕ) : Type 0 where
  pub next : r ≡ at + length text
  pub bytes : m ≡ sets l at text

-- Pieces one after the other.
abbrev pub joined : List (List ℕ) → List ℕ
joined [] = []
joined (x ∷ xs) = x ++ joined xs

-- A number and the byte that ends it.
unfoldable pub field : ℕ → ℕ → List ℕ
field n end = decimal n ++ (end ∷ [])

-- A line that is led by a name, as `runs 1` and `at 104`.
unfoldable pub named : List ℕ → ℕ → List ℕ
named name n = name ++ (32 ∷ line (n ∷ []))

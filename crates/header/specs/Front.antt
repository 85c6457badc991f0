-- The front of a list, as the code answers it. Assumes nothing.
use Rattle.std.specs.Prelude.{ℕ, Bool, List, [], ◌∷◌, ltb, Option, Some, None}
use Rattle.lemmas.specs.Times.{times}

-- The page at the front of a list, if there is one.
abbrev pub front_of : List ℕ → Option ℕ
front_of [] = None
front_of (p ∷ l) = Some p

-- Whether p stands in the list.
abbrev pub stands : ℕ → List ℕ → Bool
stands p l = ltb 0 (times p l)

-- The part of a list that starts at an index, and the list with another part in its place. Assumes nothing.
use Rattle.std.specs.Prelude.{ℕ, List, ◌++◌, take, drop}

module _ {ℓ} {A : Type ℓ} where
  -- The k elements from index a on.
  abbrev pub mid : ℕ → ℕ → List A → List A
  mid a k w = take k (drop a w)

  -- The list with v in the place of those k. It is what a slice holds when the part that was lent has come back as v.
  abbrev pub put_mid : ℕ → ℕ → List A → List A → List A
  put_mid a k w v = take a w ++ (v ++ drop k (drop a w))

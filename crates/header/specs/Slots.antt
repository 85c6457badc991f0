-- A list of numbers in words of its own, the slots: each number + 1, and zeros behind. So a zero is no number, and a list has
-- one encoding. Assumes nothing.
use Rattle.std.specs.Prelude.{ℕ, zero, suc, Bool, true, ◌&&◌, List, [], ◌∷◌, ◌++◌, ltb, leb, take, drop}
use Rattle.lemmas.specs.Every.{every}
use Rattle.lemmas.specs.Times.{times, remove}
use Rattle.lemmas.specs.Zeros.{zeros, is_zero}
use Rattle.header.specs.Keys.{class_in}

-- The list in m slots.
unfoldable pub slots : ℕ → List ℕ → List ℕ
slots zero l = []
slots (suc m) [] = 0 ∷ slots m []
slots (suc m) (q ∷ l) = suc q ∷ slots m l

-- The list in the slots: the numbers before the first zero.
unfoldable pub entries_in : List ℕ → List ℕ
entries_in [] = []
entries_in (zero ∷ w) = []
entries_in (suc q ∷ w) = q ∷ entries_in w

-- The slots hold keys below the limit, whose classes never fall and are not below c, and zeros behind. (A page by itself is a
-- key of class 0.)
unfoldable pub legal_slots : ℕ → ℕ → List ℕ → Bool
legal_slots limit c [] = true
legal_slots limit c (zero ∷ w) = every is_zero w
legal_slots limit c (suc q ∷ w) = let rest = legal_slots limit (class_in q) w in ltb q limit && leb c (class_in q) && rest

-- ---- what the code does with slots

-- A slot with a number from `low` on, below `high`.
abbrev pub holds : ℕ → ℕ → ℕ → Bool
holds low high x = ltb low x && leb x high

-- v comes in front, the others move up by one, and the last falls out.
unfoldable pub pushed : ℕ → List ℕ → List ℕ
pushed v [] = []
pushed v (x ∷ w) = v ∷ pushed x w

-- The same from index k on.
abbrev pub shifted_in : ℕ → ℕ → List ℕ → List ℕ
shifted_in k v w = take k w ++ pushed v (drop k w)

-- Every v goes, the others close up, and zeros come in at the end.
unfoldable pub closed_up : ℕ → List ℕ → List ℕ
closed_up v w = remove v w ++ zeros (times v w)

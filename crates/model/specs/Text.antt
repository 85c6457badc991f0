-- Numbers and lines as bytes (document 01: decimals without leading zero, one space between, every line ended by LF).
-- Assumes nothing.
use Rattle.std.specs.Prelude.{ℕ, zero, suc, ◌+◌, ◌/◌, ◌%◌, List, [], ◌∷◌, ◌++◌, cond, ltb}

-- n in decimal: below ten the one digit, else the digits of n / 10 and then the last one. The first argument of `digits` bounds
-- the depth.
unfoldable pub digits : ℕ → ℕ → List ℕ
digits zero n = []
digits (suc f) n = let more = digits f (n / 10) ++ ((48 + n % 10) ∷ []) in cond (ltb n 10) ((48 + n) ∷ []) more

unfoldable pub decimal : ℕ → List ℕ
decimal n = digits (suc n) n

-- Numbers with one space between, and LF.
unfoldable pub line : List ℕ → List ℕ
line [] = 10 ∷ []
line (n ∷ []) = decimal n ++ (10 ∷ [])
line (n ∷ (k ∷ r)) = decimal n ++ (32 ∷ line (k ∷ r))

unfoldable pub lines : List (List ℕ) → List ℕ
lines [] = []
lines (l ∷ r) = line l ++ lines r

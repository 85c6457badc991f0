-- Numbers in a text (document 01, "The bench program and one whole session"): decimals without sign or leading zero, at most
-- 4,294,967,295. Assumes nothing.
use Rattle.std.specs.Prelude.{ℕ, ◌+◌, ◌*◌, ◌-◌, Bool, true, false, cond, not, ◌&&◌, List, [], ◌∷◌, leb, eqb, length, drop, Option, Some, None}
use Rattle.text.specs.declared.Number.{Number}

abbrev pub largest : ℕ
largest = 4294967295

-- A byte from `0` to `9`.
abbrev pub is_digit : ℕ → Bool
is_digit b = leb 48 b && leb b 57

-- The digits at the front of a text, as many as there are.
unfoldable pub leading : List ℕ → List ℕ
leading [] = []
leading (b ∷ s) = cond (is_digit b) (b ∷ leading s) []

-- The value of digits behind those whose value is v.
unfoldable pub value : ℕ → List ℕ → ℕ
value v [] = v
value v (d ∷ s) = value (10 * v + (d - 48)) s

-- Digits without leading zero: one digit, or several of which the first is not `0`.
unfoldable pub unpadded : List ℕ → Bool
unpadded [] = false
unpadded (d ∷ []) = true
unpadded (d ∷ (e ∷ s)) = not (eqb d 48)

-- A number that was read, and the position after it.
abbrev pub read : ℕ → ℕ → Option Number
read v n = Some (record { value = v; next = n })

-- The number that digits at position `at` are, if they have no leading zero and are not too large.
unfoldable pub number_of : ℕ → List ℕ → Option Number
number_of at ds = cond (unpadded ds && leb (value 0 ds) largest) (read (value 0 ds) (at + length ds)) None

-- The number at position `at` of a text: all the digits that stand there.
unfoldable pub number_at : List ℕ → ℕ → Option Number
number_at s at = number_of at (leading (drop at s))

-- What follows a number: nothing, or a byte that is no digit.
unfoldable pub stops : List ℕ → Bool
stops [] = true
stops (b ∷ s) = not (is_digit b)

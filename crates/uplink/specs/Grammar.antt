-- The lines of input (document 01, "The bench program and one whole session"): `s N`, `q G SIZE`, `r G OFFSET`, `x G`, `t`,
-- `b OFFSET`, `p`; one space between, decimals without sign or leading zero, at most 4,294,967,295. First the text of each call,
-- then the call that a text is; proofs/Exact.antt shows that each is the other's inverse. Assumes nothing.
use Rattle.std.specs.Prelude.{ℕ, ◌+◌, ◌≤◌, cond, List, [], ◌∷◌, ◌++◌, leb, eqb, length, get_or, Option, Some, None}
use Rattle.model.specs.declared.Operation.{Operation}
use Rattle.model.specs.declared.Operation.TheVariants.{Allocate, Free, Reset}
use Rattle.model.specs.Ascii.{ascii}
use Rattle.model.specs.Text.{decimal}
use Rattle.text.specs.declared.Number.{Number}
use Rattle.text.specs.Numbers.{largest, number_at}
use Rattle.uplink.specs.declared.Numbers.{Numbers}
use Rattle.uplink.specs.declared.Numbers.TheVariants.{Zero, One, Two}
use Rattle.uplink.specs.declared.Line.{Line}
use Rattle.uplink.specs.declared.Line.TheVariants.{Init, Group, Trim, Query, Listing, Bad}

-- ---- the text of each call

unfoldable pub call_text : ℕ → Operation → List ℕ
call_text g (Allocate n) = ascii "q " ++ (decimal g ++ (32 ∷ decimal n))
call_text g (Free o) = ascii "r " ++ (decimal g ++ (32 ∷ decimal o))
call_text g Reset = ascii "x " ++ decimal g

-- (A bad line is no call, and has no text of its own.)
unfoldable pub line_text : Line → List ℕ
line_text (Init n) = ascii "s " ++ decimal n
line_text (Group c) = call_text c.group c.operation
line_text Trim = ascii "t"
line_text (Query o) = ascii "b " ++ decimal o
line_text Listing = ascii "p"
line_text Bad = []

-- A call whose numbers are at most 4,294,967,295.
unfoldable pub OperationFits : Operation → Type 0
OperationFits (Allocate n) = n ≤ largest
OperationFits (Free o) = o ≤ largest
OperationFits Reset = Unit

unfoldable pub IsCall : Line → Type 0
IsCall (Init n) = n ≤ largest
IsCall (Group c) = (c.group ≤ largest) × OperationFits c.operation
IsCall Trim = Unit
IsCall (Query o) = o ≤ largest
IsCall Listing = Unit
IsCall Bad = ⊥

-- ---- the numbers of a line from a position on, each after one space, up to the line's end

unfoldable pub second_of : List ℕ → ℕ → Option Number → Option Numbers
second_of s a (Some b) = cond (leb (length s) b.next) (Some (Two a b.value)) None
second_of s a None = None

-- Behind the number a, which ends at position `at`.
unfoldable pub second_at : List ℕ → ℕ → ℕ → Option Numbers
second_at s at a =
    cond (leb (length s) at) (Some (One a)) (cond (eqb (get_or s at 0) 32) (second_of s a (number_at s (at + 1))) None)

unfoldable pub first_of : List ℕ → Option Number → Option Numbers
first_of s (Some a) = second_at s a.next a.value
first_of s None = None

unfoldable pub numbers_at : List ℕ → ℕ → Option Numbers
numbers_at s at =
    cond (leb (length s) at) (Some Zero) (cond (eqb (get_or s at 0) 32) (first_of s (number_at s (at + 1))) None)

-- ---- the call by its letter and its numbers

unfoldable pub bare_line : ℕ → Line
bare_line c = cond (eqb c 116) Trim (cond (eqb c 112) Listing Bad)

unfoldable pub line_of_one : ℕ → ℕ → Line
line_of_one c a =
    cond (eqb c 115) (Init a)
    (cond (eqb c 120) (Group (record { group = a; operation = Reset })) (cond (eqb c 98) (Query a) Bad))

unfoldable pub line_of_two : ℕ → ℕ → ℕ → Line
line_of_two c a b =
    cond (eqb c 113) (Group (record { group = a; operation = Allocate b }))
    (cond (eqb c 114) (Group (record { group = a; operation = Free b })) Bad)

unfoldable pub line_with : ℕ → Option Numbers → Line
line_with c (Some Zero) = bare_line c
line_with c (Some (One a)) = line_of_one c a
line_with c (Some (Two a b)) = line_of_two c a b
line_with c None = Bad

-- The call that a line is, which is given without its LF.
unfoldable pub line_of : List ℕ → Line
line_of [] = Bad
line_of (c ∷ t) = line_with c (numbers_at (c ∷ t) 1)

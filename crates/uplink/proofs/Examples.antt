-- Lines of document 01 and lines beside them, computed: calls, bad lines, answers, and a session cut into fragments.
-- Assumes nothing.
use mathlib.Core.Path.{◌≡◌, refl}
use mathlib.Core.List.{[], ◌∷◌, map}
use Rattle.model.specs.declared.Operation.TheVariants.{Allocate, Free, Reset}
use Rattle.model.specs.declared.Refusal.TheVariants.{NoRoom, OtherGroup}
use Rattle.model.specs.declared.Answer.TheVariants.{Granted, Denied, Refused, Done, Counted, Block}
use Rattle.model.specs.Ascii.{ascii}
use Rattle.model.specs.Text.{digits, decimal, line}
use Rattle.text.specs.Writing.{named}
use Rattle.text.specs.Numbers.{leading, value, unpadded, number_of, number_at}
use Rattle.uplink.specs.declared.Line.TheVariants.{Init, Group, Trim, Query, Listing, Bad}
use Rattle.uplink.specs.Grammar.{second_of, second_at, first_of, numbers_at, bare_line, line_of_one, line_of_two, line_with, line_of}
use Rattle.uplink.specs.Answers.{answer_text}
use Rattle.uplink.specs.Fragments.{fresh, hold, line_held, last_line, held_with, held_after, lines_by, held_after_all, lines_by_all, gotten}

calls : map line_of (ascii "s 24" ∷ ascii "q 1 100" ∷ ascii "r 2 0" ∷ ascii "x 1" ∷ ascii "t" ∷ ascii "b 104" ∷ ascii "p" ∷ [])
    ≡ Init 24 ∷ Group (record { group = 1; operation = Allocate 100 }) ∷ Group (record { group = 2; operation = Free 0 }) ∷ Group (record { group = 1; operation = Reset }) ∷ Trim ∷ Query 104 ∷ Listing ∷ []
unfolding ascii line_of line_with bare_line line_of_one line_of_two numbers_at first_of second_at second_of number_at number_of leading value unpadded
calls = refl

-- The empty line, a space too many before, between and behind, a number missing and one too many, a leading zero, a sign, a number
-- too large, a capital, a letter that no call has, and a CR.
bad-lines : map line_of (ascii "" ∷ ascii " t" ∷ ascii "q  1 8" ∷ ascii "t " ∷ ascii "q 1" ∷ ascii "s 1 2" ∷ ascii "s 024" ∷ ascii "s -1" ∷ ascii "s 4294967296" ∷ ascii "S 24" ∷ ascii "z 1" ∷ ascii "t\r" ∷ [])
    ≡ Bad ∷ Bad ∷ Bad ∷ Bad ∷ Bad ∷ Bad ∷ Bad ∷ Bad ∷ Bad ∷ Bad ∷ Bad ∷ Bad ∷ []
unfolding ascii line_of line_with bare_line line_of_one line_of_two numbers_at first_of second_at second_of number_at number_of leading value unpadded
bad-lines = refl

answers : map answer_text (Done ∷ Granted 104 7 ∷ Denied NoRoom 7 ∷ Refused OtherGroup ∷ Counted 1 ∷ Block 2 104 ∷ [])
    ≡ ascii "ok\n" ∷ ascii "at 104\n" ∷ ascii "no 6\n" ∷ ascii "no 8\n" ∷ ascii "ok 1\n" ∷ ascii "2 104\n" ∷ []
unfolding answer_text named line decimal digits ascii
answers = refl

-- `s 24` LF `t` LF `p` in four fragments; the last line comes with the end.
fragments : lines_by_all fresh (ascii "s 2" ∷ ascii "4\nt" ∷ [] ∷ ascii "\np" ∷ []) ≡ Init 24 ∷ Trim ∷ []
unfolding lines_by_all lines_by held_after held_with hold line_held ascii line_of line_with bare_line line_of_one numbers_at first_of second_at number_at number_of leading value unpadded
fragments = refl

last_line_lem : gotten (last_line (held_after_all fresh (ascii "s 2" ∷ ascii "4\nt" ∷ [] ∷ ascii "\np" ∷ []))) ≡ Listing ∷ []
unfolding gotten last_line held_after_all held_after held_with hold ascii line_of line_with bare_line numbers_at
last_line_lem = refl

-- The lines that say the answers (document 01, "The bench program and one whole session"): `ok`, `ok N`, `at N`, `no N`,
-- `GROUP ROOM`; and `?` for a bad line. None says how many runs were looked at. (The listing's text is `listing_text` of the rules.)
-- Assumes nothing.
use Rattle.std.specs.Prelude.{ℕ, List, [], ◌∷◌}
use Rattle.model.specs.declared.Answer.{Answer}
use Rattle.model.specs.declared.Answer.TheVariants.{Granted, Denied, Refused, Done, Counted, Block}
use Rattle.model.specs.Ascii.{ascii}
use Rattle.model.specs.Text.{line}
use Rattle.model.specs.Calls.{number}
use Rattle.text.specs.Writing.{named}

unfoldable pub answer_text : Answer → List ℕ
answer_text (Granted o n) = named (ascii "at") o
answer_text (Denied k n) = named (ascii "no") (number k)
answer_text (Refused k) = named (ascii "no") (number k)
answer_text Done = ascii "ok\n"
answer_text (Counted n) = named (ascii "ok") n
answer_text (Block g r) = line (g ∷ r ∷ [])

unfoldable pub bad_text : List ℕ
bad_text = ascii "?\n"

-- None of these lines has more bytes than this.
abbrev pub answer_room : ℕ
answer_room = 64

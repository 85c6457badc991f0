-- One whole session: all lines of an input, one after another (document 01, "The bench program and one whole session"). Assumes nothing.
use Rattle.std.specs.Prelude.{ℕ, List, [], ◌∷◌, ◌++◌, map}
use Rattle.uplink.specs.declared.Line.{Line}
use Rattle.uplink.specs.Grammar.{line_of}
use Rattle.uplink.specs.Fragments.{fresh, last_line, held_after_all, lines_by_all, gotten, texts_of}
use Rattle.desk.specs.Replies.{reply_to, words_after}

-- The replies to lines, one after another, each on the words that the lines before it left.
unfoldable pub output_of : List ℕ → ℕ → List Line → List ℕ
output_of w n [] = []
output_of w n (l ∷ ls) = reply_to w n l ++ output_of (words_after w l) n ls

-- The words after them.
unfoldable pub words_after_all : List ℕ → List Line → List ℕ
words_after_all w [] = w
words_after_all w (l ∷ ls) = words_after_all (words_after w l) ls

-- The lines of an input, and those that come of its fragments, one after another, and at its end.
abbrev pub input_lines : List ℕ → List Line
input_lines s = map line_of (texts_of [] s)

abbrev pub lines_in : List (List ℕ) → List Line
lines_in xs = lines_by_all fresh xs ++ gotten (last_line (held_after_all fresh xs))

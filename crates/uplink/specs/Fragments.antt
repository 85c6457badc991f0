-- The reader of fragments: what it holds of an unfinished line, what a step does with the bytes of a fragment, and what all the
-- bytes bring, whichever steps they come in (document 01: each line is one call, at most 64 bytes before the LF, and a last line
-- without LF counts if it has a byte). Assumes nothing.
use Rattle.std.specs.Prelude.{ℕ, Bool, ◌+◌, ◌≤◌, ◌<◌, ◌≡◌, cond, List, [], ◌∷◌, ◌++◌, ltb, eqb, length, take, drop, Option, Some, None}
use Rattle.lemmas.specs.Keep.{put_if}
use Rattle.uplink.specs.declared.Line.{Line}
use Rattle.uplink.specs.declared.Line.TheVariants.{Bad}
use Rattle.uplink.specs.declared.Reader.{Reader}
use Rattle.uplink.specs.declared.Fed.{Fed}
use Rattle.uplink.specs.Grammar.{line_of}

-- A line has at most so many bytes before its LF.
abbrev pub most_line : ℕ
most_line = 64

-- ---- what is held

-- The bytes since the last LF, or that there are more than a line has.
pub data Held : Type 0 where
  part : List ℕ → Held
  long : Held

abbrev pub fresh : Held
fresh = part []

-- What a reader holds. (Behind the bytes of the unfinished line its array has what earlier lines left there.)
abbrev pub held_by : List ℕ → ℕ → Bool → Held
held_by line len over = cond over long (part (take len line))

unfoldable pub held : Reader → Held
held r = held_by r.line r.len r.over

-- One byte more, which is no LF.
unfoldable pub hold : Held → ℕ → Held
hold (part p) b = cond (ltb (length p) most_line) (part (p ++ (b ∷ []))) long
hold long b = long

unfoldable pub hold_all : Held → List ℕ → Held
hold_all k [] = k
hold_all k (b ∷ s) = hold_all (hold k b) s

-- The line that is held, when its LF comes; and when the input ends.
unfoldable pub line_held : Held → Line
line_held (part p) = line_of p
line_held long = Bad

unfoldable pub last_line : Held → Option Line
last_line (part []) = None
last_line (part (b ∷ p)) = Some (line_of (b ∷ p))
last_line long = Some Bad

-- ---- one step

-- What is held after a step, the position after the bytes that it took, and the line that they ended, if they ended one.
pub record Step : Type 0 where
  pub after : Held
  pub next : ℕ
  pub line : Option Line

-- A step over bytes of which the first stands at position i: up to and with the first LF.
unfoldable pub step_from : ℕ → Held → List ℕ → Step
step_from i k [] = record { after = k; next = i; line = None }
step_from i k (b ∷ s) =
    cond (eqb b 10) (record { after = fresh; next = i + 1; line = Some (line_held k) }) (step_from (i + 1) (hold k b) s)

-- A step of the code: its answer, and what is held then.
unfoldable pub step_of : Fed → Held → Step
step_of f m = record { after = m; next = f.next; line = f.line }

-- What a step over the fragment s from a position on answers, where k was held, and m is held then.
pub record FedBy (k : Held) (s : List ℕ) (from : ℕ) (f : Fed) (m : Held) : Type 0 where
  pub step : step_of f m ≡ step_from from k (drop from s)
  pub within : from ≤ length s → f.next ≤ length s
  pub onward : from < length s → from < f.next

-- ---- all the bytes

-- What is held after any byte.
unfoldable pub held_with : Held → ℕ → Held
held_with k b = cond (eqb b 10) fresh (hold k b)

-- What is held after all of the bytes, and the lines whose LF stands among them, in their order.
unfoldable pub held_after : Held → List ℕ → Held
held_after k [] = k
held_after k (b ∷ s) = held_after (held_with k b) s

unfoldable pub lines_by : Held → List ℕ → List Line
lines_by k [] = []
lines_by k (b ∷ s) = put_if (eqb b 10) (line_held k) (lines_by (held_with k b) s)

-- The same of one fragment after another.
unfoldable pub held_after_all : Held → List (List ℕ) → Held
held_after_all k [] = k
held_after_all k (x ∷ xs) = held_after_all (held_after k x) xs

unfoldable pub lines_by_all : Held → List (List ℕ) → List Line
lines_by_all k [] = []
lines_by_all k (x ∷ xs) = lines_by k x ++ lines_by_all (held_after k x) xs

-- What the end of the input adds to the lines.
unfoldable pub gotten : Option Line → List Line
gotten (Some l) = l ∷ []
gotten None = []

-- The lines of an input as texts without their LF, where p stands before it since the last LF. A last one without LF counts if
-- it has a byte.
unfoldable pub last_text : List ℕ → List (List ℕ)
last_text [] = []
last_text (b ∷ p) = (b ∷ p) ∷ []

unfoldable pub texts_of : List ℕ → List ℕ → List (List ℕ)
texts_of p [] = last_text p
texts_of p (b ∷ s) = put_if (eqb b 10) p (texts_of (cond (eqb b 10) [] (p ++ (b ∷ []))) s)

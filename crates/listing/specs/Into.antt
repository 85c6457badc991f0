-- The listing into a lent buffer: what the call answers, and what the buffer holds then. Assumes nothing.
use Rattle.std.specs.Prelude.{ℕ, cond, List, ◌++◌, leb, length, drop}
use Rattle.model.specs.declared.Refusal.TheVariants.{ShortBuffer}
use Rattle.model.specs.declared.Answer.{Answer}
use Rattle.model.specs.declared.Answer.TheVariants.{Refused, Counted}

-- The answer for a text t and a buffer of n bytes: the text's length, or refusal 12.
abbrev pub list_answer : ℕ → List ℕ → Answer
list_answer n t = cond (leb (length t) n) (Counted (length t)) (Refused ShortBuffer)

-- The buffer l then: the text and the bytes behind it, or what it held.
abbrev pub listed_into : List ℕ → List ℕ → List ℕ
listed_into l t = cond (leb (length t) (length l)) (t ++ drop (length t) l) l

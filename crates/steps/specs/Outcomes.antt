-- What a call answers and the words that it leaves, by the rule's outcome. Assumes nothing.
use Rattle.std.specs.Prelude.{◌≡◌, List, ℕ}
use Rattle.model.specs.declared.Answer.{Answer}
use Rattle.model.specs.State.{State}
use Rattle.model.specs.Calls.{Outcome}
use Rattle.metadata.specs.Encoding.{encode}

-- The answer r is the outcome's, and the words w are those of the state that it leaves.
abbrev pub Makes : Outcome State → Answer → List ℕ → Type 0
Makes o r w = (r ≡ o.answer) × (w ≡ encode o.after)

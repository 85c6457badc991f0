-- What the two searches for pages find, as the code tells it. Assumes nothing.
use Rattle.std.specs.Prelude.{ℕ, ◌≡◌, List}
use Rattle.std.proofs.Math.Option.{Option, none, some}
use Rattle.model.specs.State.{State}
use Rattle.model.specs.Pages.{FreeRun, Search}
use Rattle.model.specs.Allocate.{Source}
use Rattle.pages.specs.declared.Choice.{Choice}
use Rattle.pages.specs.Places.{choice_of}
use Rattle.metadata.specs.Encoding.{encode}

abbrev pub run_of : Option Source → Option FreeRun
run_of none = none
run_of (some f) = some f.free

-- The state that is left: the one that the run is taken from, else the one in which the searches began.
abbrev pub left_by : State → Option Source → State
left_by s none = s
left_by s (some f) = f.state

-- The searches, begun in the state s, come to l: that is told as r, and the words are now w.
abbrev pub Finds : State → Search Source → Choice → List ℕ → Type 0
Finds s l r w = (r ≡ choice_of l.looked (run_of l.chosen)) × (w ≡ encode (left_by s l.chosen))

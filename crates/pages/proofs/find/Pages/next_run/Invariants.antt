-- `find::Pages::next_run` meets its contract. The loop's invariant: whichever segments begin at the page, the first run of those left is theirs.
-- Assumes nothing.
use Prim.Native.Nat.{ℕ, ◌-◌}
use mathlib.Core.List.{List}
use Rattle.model.specs.Arena.{Segment}
use Rattle.model.specs.Zone.{Zone}
use Rattle.pages.specs.Decoding.{segments_of}
use Rattle.pages.specs.Places.{found, Passed, first_run}
use Rattle.pages.proofs.Search.{Seeking}
use Rattle.pages.proofs.find.Pages.next_run.Given as goal

abbrev pub invariant-loop-p : goal.invariant-loop-p
invariant-loop-p l = (b : ℕ) (r : List (Segment Zone)) → Passed (segments_of l.self.words.now) l.page b r → Seeking l.self.words.now l.self.count (found (first_run l.page r)) l.p

abbrev pub decreases-loop-p : goal.decreases-loop-p
decreases-loop-p l = l.self.count - l.p

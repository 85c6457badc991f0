-- `find::Pages::find_segment` meets its contract. Assumes nothing.
use Rattle.pages.proofs.Search.{Locating}
use Prim.Native.Nat.{◌-◌}
use Rattle.pages.proofs.find.Pages.find_segment.Given as goal

abbrev pub invariant-loop-at : goal.invariant-loop-at
invariant-loop-at l = Locating l.self.words.now l.self.count l.page l.before l.at

abbrev pub decreases-loop-at : goal.decreases-loop-at
decreases-loop-at l = l.self.count - l.at

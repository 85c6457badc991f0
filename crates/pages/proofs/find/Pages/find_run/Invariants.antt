-- `find::Pages::find_run` meets its contract: run by run, up to one that is long enough. Assumes nothing.
use Prim.Native.Nat.{◌-◌}
use Rattle.pages.proofs.Search.{Searching}
use Rattle.pages.proofs.find.Pages.find_run.Given as goal

abbrev pub invariant-loop-run : goal.invariant-loop-run
invariant-loop-run l = Searching l.self.words.now l.self.count l.need l.p l.looked

abbrev pub decreases-loop-run : goal.decreases-loop-run
decreases-loop-run l = l.self.count - l.p

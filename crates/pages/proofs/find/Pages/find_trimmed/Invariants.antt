-- `find::Pages::find_trimmed` meets its contract. Assumes nothing.
use Prim.Native.Nat.{◌-◌}
use Rattle.model.specs.PageMap.{idle_zone}
use Rattle.model.specs.Pages.{claim, joined}
use Rattle.pages.specs.Decoding.{segments_of}
use Rattle.pages.specs.Places.{choice}
use Rattle.pages.proofs.Clear.{Trimming}
use Rattle.pages.proofs.find.Pages.find_trimmed.Given as goal

abbrev pub invariant-loop-p : goal.invariant-loop-p
invariant-loop-p l = Trimming l.need l.self.words.now l.self.count (choice (claim l.need (joined idle_zone 0 (segments_of l.self.words.now)))) l.free l.looked l.p

abbrev pub decreases-loop-p : goal.decreases-loop-p
decreases-loop-p l = l.self.count - l.p

-- `tally` meets its contract. The loop's invariant: with what stands from page p on, the figures are those of all pages. Assumes nothing.
use Prim.Native.Nat.{◌-◌}
use Rattle.tally.proofs.Segments.{Tallying}
use Rattle.tally.proofs.tally.Given as goal

abbrev pub invariant-loop-p : goal.invariant-loop-p
invariant-loop-p l = Tallying l.pages.words.now l.pages.count l.figures l.p

abbrev pub decreases-loop-p : goal.decreases-loop-p
decreases-loop-p l = l.pages.count - l.p

-- Of the slots so far, those other than `v` stand in front.
use Rattle.header.proofs.Scans.{Gathered}
use Rattle.header.proofs.slots.gather.Given as goal

abbrev pub invariant-loop-i : goal.invariant-loop-i
invariant-loop-i l = Gathered l.v l.initial.slots l.slots l.end l.i

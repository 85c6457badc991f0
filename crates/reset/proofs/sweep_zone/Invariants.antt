-- `sweep_zone` meets its contract. Assumes nothing.
use Rattle.reset.proofs.Steps.{ZoneWalk}
use Rattle.reset.proofs.sweep_zone.Given as goal

abbrev pub invariant-loop-chunk : goal.invariant-loop-chunk
invariant-loop-chunk l = ZoneWalk l.group.number l.n l.start.at l.start.before l.chunk-end l.initial.words l.words l.chunk l.count

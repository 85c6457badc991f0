-- `sweep` meets its contract. Assumes nothing.
use Prim.Native.Nat.{◌-◌}
use lib.ListN.{length}
use Rattle.metadata.specs.Decoding.{decode}
use Rattle.model.specs.Free.{offsets_of, freed_all}
use Rattle.reset.specs.Sweep.{Sweep}
use Rattle.reset.proofs.sweep.Given as goal

abbrev pub invariant-loop-start : goal.invariant-loop-start
invariant-loop-start l =
    Sweep l.group.number (freed_all (offsets_of l.group.number (decode l.initial.words)) (decode l.initial.words)) (length (offsets_of l.group.number (decode l.initial.words))) l.words l.n l.start.at l.start.before l.count

abbrev pub decreases-loop-start : goal.decreases-loop-start
decreases-loop-start l = l.n - l.start.at

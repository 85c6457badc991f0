-- `add_slots` meets its contract. The loop's invariant: the chunks in so many whole stretches are added. Assumes nothing.
use Prim.Native.Nat.{◌*◌}
use lib.ListN.{take}
use Rattle.zone.specs.Decoding.{owner_in}
use Rattle.tally.specs.Figures.{stretch, Added}
use Rattle.tally.proofs.Adding.{chunks_in}
use Rattle.tally.proofs.add_slots.Given as goal

abbrev pub invariant-loop-stretch : goal.invariant-loop-stretch
invariant-loop-stretch l = Added (chunks_in owner_in (take (l.stretch-index * stretch) l.slots)) l.room l.initial.figures l.figures

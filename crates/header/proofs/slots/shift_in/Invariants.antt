-- What is left to shift leads to the same slots.
use mathlib.Core.Path.{◌≡◌}
use Rattle.header.specs.Slots.{shifted_in}
use Rattle.header.proofs.slots.shift_in.Given as goal

abbrev pub invariant-loop-slot : goal.invariant-loop-slot
invariant-loop-slot l = shifted_in l.slot-index l.carry l.slot-items ≡ shifted_in 0 l.v l.initial.slot-items

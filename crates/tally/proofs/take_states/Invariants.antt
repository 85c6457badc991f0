-- `take_states` meets its contract. The loop's invariant: i states are those in i slots, the others as they were. Assumes nothing.
use mathlib.Core.List.{◌++◌, map}
use mathlib.Core.Path.{◌≡◌}
use lib.ListN.{length, take, drop}
use Rattle.zone.specs.Decoding.{state_in}
use Rattle.tally.proofs.take_states.Given as goal

abbrev pub invariant-loop-i : goal.invariant-loop-i
invariant-loop-i l = (length l.states ≡ length l.initial.states) × (l.states ≡ map state_in (take l.i l.slots) ++ drop l.i l.initial.states)

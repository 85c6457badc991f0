-- `narrow` meets its contract. The loop's invariant: i bytes are those of i states, the others as they were. Assumes nothing.
use mathlib.Core.List.{◌++◌, map}
use mathlib.Core.Path.{◌≡◌}
use lib.ListN.{length, take, drop}
use Rattle.tally.specs.Figures.{owner_byte}
use Rattle.tally.proofs.narrow.Given as goal

abbrev pub invariant-loop-i : goal.invariant-loop-i
invariant-loop-i l = (length l.bytes ≡ length l.initial.bytes) × (l.bytes ≡ map owner_byte (take l.i l.states) ++ drop l.i l.initial.bytes)

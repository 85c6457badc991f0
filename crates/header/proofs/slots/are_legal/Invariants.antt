-- The slots from `i` on are legal behind `class` just if all are.
use mathlib.Core.Path.{◌≡◌}
use lib.ListN.{drop}
use Rattle.header.specs.Slots.{legal_slots}
use Rattle.header.proofs.slots.are_legal.Given as goal

abbrev pub invariant-loop-i : goal.invariant-loop-i
invariant-loop-i l = legal_slots l.limit l.class (drop l.i l.slots) ≡ legal_slots l.limit 0 l.slots

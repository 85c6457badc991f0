-- `n` is the count over the slots so far.
use Prim.Native.Nat.{◌≤◌}
use mathlib.Core.Path.{◌≡◌}
use lib.ListN.{take}
use Rattle.lemmas.specs.Every.{count}
use Rattle.header.specs.Slots.{holds}
use Rattle.header.proofs.slots.count_between.Given as goal

abbrev pub invariant-loop-slot : goal.invariant-loop-slot
invariant-loop-slot l = (l.n ≤ l.slot-index) × (l.n ≡ count (holds l.low l.high) (take l.slot-index l.slots))

-- `count_byte` meets its contract. The loop's invariant: the count is that of the bytes so far. Assumes nothing.
use Prim.Native.Nat.{◌≤◌}
use mathlib.Core.Path.{◌≡◌}
use lib.Dec.{eqb}
use lib.ListN.{take}
use Rattle.lemmas.specs.Every.{count}
use Rattle.tally.proofs.count_byte.Given as goal

abbrev pub invariant-loop-byte : goal.invariant-loop-byte
invariant-loop-byte l = (l.count ≤ l.byte-index) × (l.count ≡ count (λ x. eqb l.group x) (take l.byte-index l.bytes))

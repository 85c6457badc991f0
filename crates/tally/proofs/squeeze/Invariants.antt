-- `squeeze` meets its contract. The loop's invariant: the bytes of i whole pieces are those of their slots, the others as they were.
-- Assumes nothing.
use Prim.Native.Nat.{◌*◌}
use mathlib.Core.List.{◌++◌, map}
use mathlib.Core.Path.{◌≡◌}
use lib.ListN.{length, take, drop}
use Rattle.tally.specs.Figures.{piece, slot_byte}
use Rattle.tally.proofs.squeeze.Given as goal

abbrev pub invariant-loop-i : goal.invariant-loop-i
invariant-loop-i l =
    (length l.bytes ≡ length l.initial.bytes) × (l.bytes ≡ map slot_byte (take (l.i * piece) l.slots) ++ drop (l.i * piece) l.initial.bytes)

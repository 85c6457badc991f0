-- Count and or are those of the slots so far.
use Prim.Native.Nat.{◌≤◌}
use mathlib.Core.Path.{◌≡◌}
use lib.ListN.{take}
use Rattle.lemmas.specs.Every.{every, count}
use Rattle.zone.specs.Decoding.{is_live, is_bare, is_near}
use Rattle.zone.proofs.slots.survey.Given as goal

abbrev pub invariant-loop-slot : goal.invariant-loop-slot
invariant-loop-slot l =
    (l.live ≤ l.slot-index) × (l.live ≡ count is_live (take l.slot-index l.slots)) × (is_bare l.seen ≡ every is_bare (take l.slot-index l.slots)) × (is_near l.seen ≡ every is_near (take l.slot-index l.slots))

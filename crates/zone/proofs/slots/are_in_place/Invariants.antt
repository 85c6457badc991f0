-- Nothing was found wrong just if all positions so far have their chunk.
use mathlib.Core.Path.{◌≡◌}
use lib.Dec.{eqb}
use Rattle.lemmas.specs.Below.{all_below}
use Rattle.zone.specs.Decoding.{in_place}
use Rattle.zone.proofs.slots.are_in_place.Given as goal

abbrev pub invariant-loop-i : goal.invariant-loop-i
invariant-loop-i l = eqb l.wrong 0 ≡ all_below (in_place l.slots) l.i

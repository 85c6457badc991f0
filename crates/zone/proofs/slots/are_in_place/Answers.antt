-- `slots::are_in_place` meets its contract. Assumes nothing.
use mathlib.Core.Path.{sym}
use native.Mathlib.Omega.{arith}
use Rattle.lemmas.proofs.Below.{all_none}
use Rattle.zone.proofs.Scans.{near-at, place-next}
use Rattle.zone.proofs.slots.are_in_place.Goals as goal

pub loop-i-init : goal.loop-i-init
loop-i-init c = sym (all_none _)

pub bounds-slots-chunk : goal.bounds-slots-chunk
bounds-slots-chunk c = let near = near-at c.args.slots.now c.args.chained c.loop-i.i c.requires.2 (omega arith) (omega arith) in omega arith

pub loop-i-preserved : goal.loop-i-preserved
loop-i-preserved c = place-next c.args.slots.now c.loop-i.i c.loop-i.wrong c.loop-i.invariant

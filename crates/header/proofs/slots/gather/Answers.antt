-- `slots::gather` meets its contract. Assumes nothing.
use native.Mathlib.Omega.{arith}
use Rattle.header.proofs.Scans.{gathered-start, gathered-skip, gathered-keep, gathered-done}
use Rattle.header.proofs.slots.gather.Goals as goal
use Rattle.header.proofs.slots.gather.Goals.{then-slot-v, else-slot-v}

pub loop-i-init : goal.loop-i-init
loop-i-init c = gathered-start _ _

pub loop-i-preserved : goal.loop-i-preserved
loop-i-preserved c =
    elim c.if-slot-v.branch [
      | then-slot-v w ↦ rw (w.slots-is, w.end-is) (gathered-keep _ _ _ _ _ c.loop-i.invariant (omega arith) w.if-slot-v.true)
      | else-slot-v w ↦ rw (w.slots-is, w.end-is) (gathered-skip _ _ _ _ _ c.loop-i.invariant (omega arith) w.if-slot-v.false)
    ]

pub returns : goal.returns
returns c = gathered-done _ _ _ _ _ c.loop-i.invariant (omega arith)

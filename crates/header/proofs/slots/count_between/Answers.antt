-- `slots::count_between` meets its contract. Assumes nothing.
use mathlib.Core.Path.{sym, ◌∙◌}
use native.Mathlib.Omega.{arith}
use Rattle.lemmas.proofs.Every.{count-nil, count-pass, count-fail}
use Rattle.header.proofs.slots.count_between.Goals as goal
use Rattle.header.proofs.slots.count_between.Goals.{then-holds, else-holds}

pub loop-slot-init : goal.loop-slot-init
loop-slot-init c = (omega arith, sym (count-nil _))

pub loop-slot-preserved : goal.loop-slot-preserved
loop-slot-preserved c =
    let was = c.loop-slot.invariant.1 in
    let found = sym c.holds.ensures in
    elim c.if-holds.branch [
      | then-holds w ↦ (omega arith, w.n-is ∙ count-pass _ _ c.loop-slot.slot-index 0 c.loop-slot-test.true (found ∙ w.if-holds.true) was)
      | else-holds w ↦ (omega arith, w.n-is ∙ count-fail _ _ c.loop-slot.slot-index 0 c.loop-slot-test.true (found ∙ w.if-holds.false) was)
    ]

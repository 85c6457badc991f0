-- `slots::are_legal` meets its contract, turn by turn. Assumes nothing.
use mathlib.Core.Path.{◌∙◌}
use Rattle.header.proofs.Scans.{legal-end, legal-zero, legal-large, legal-falls, legal-next}
use Rattle.header.proofs.slots.are_legal.Goals as goal
use Rattle.header.proofs.slots.are_legal.Goals.{then-limit-slot-via-then-limit-slot, then-limit-slot-via-else-limit-slot+then-next-class}

pub returns-then-slot-eq0 : goal.returns-then-slot-eq0
returns-then-slot-eq0 c =
    c.is_zero.ensures ∙ legal-zero _ _ _ c.loop-i.i c.loop-i-test.true c.if-slot-eq0.true ∙ c.loop-i.invariant

pub returns-then-limit-slot : goal.returns-then-limit-slot
returns-then-limit-slot c =
    elim c.then-limit-slot.branch [
      | then-limit-slot-via-then-limit-slot w ↦ legal-large _ _ _ c.loop-i.i c.loop-i-test.true c.if-slot-eq0.false w.if-limit-slot.true ∙ c.loop-i.invariant
      | then-limit-slot-via-else-limit-slot+then-next-class w ↦ legal-falls _ _ _ c.loop-i.i c.loop-i-test.true c.if-slot-eq0.false w.if-limit-slot.false w.if-next-class.true ∙ c.loop-i.invariant
    ]

pub loop-i-preserved : goal.loop-i-preserved
loop-i-preserved c =
    legal-next _ _ _ c.loop-i.i c.loop-i-test.true c.if-slot-eq0.false c.if-limit-slot.false c.if-next-class.false ∙ c.loop-i.invariant

pub returns : goal.returns
returns c = legal-end _ _ _ c.loop-i.i c.loop-i-test.false ∙ c.loop-i.invariant

-- `check::check` meets its contract. Assumes nothing.
use mathlib.Core.Path.{refl}
use Rattle.pages.proofs.Checking.{check-start, check-none, size-within, check-touch, check-more, check-end, sized}
use native.Mathlib.Omega.{arith}
use Rattle.pages.proofs.check.check.Goals as goal

pub loop-p-init : goal.loop-p-init
loop-p-init c = check-start _ _ c.requires.0 c.requires.1

pub returns-then-len-eq0 : goal.returns-then-len-eq0
returns-then-len-eq0 c =
    let i = c.loop-p.invariant in check-none i c.loop-p-test.true _ (sized i c.segment_size-len.ensures) c.if-len-eq0.true

pub returns-then-run : goal.returns-then-run
returns-then-run c =
    let i = c.loop-p.invariant in check-touch i c.loop-p-test.true _ (sized i c.segment_size-len.ensures) c.if-len-eq0.false c.if-after.true c.if-run.true

pub overflow_add-p : goal.overflow_add-p
overflow_add-p c =
    let i = c.loop-p.invariant in let k = size-within i c.loop-p-test.true _ (sized i c.segment_size-len.ensures) c.if-len-eq0.false in omega arith

pub loop-p-preserved : goal.loop-p-preserved
loop-p-preserved c =
    let i = c.loop-p.invariant in
    check-more i c.loop-p-test.true _ (sized i c.segment_size-len.ensures) c.if-len-eq0.false c.else-after.either _ refl

pub returns : goal.returns
returns c = check-end c.loop-p.invariant c.loop-p-test.false

-- `text::put_line` meets its contract. The loop's invariant: the fields of the numbers from i on are left to be written, at
-- `next`. Assumes nothing.
use mathlib.Core.Path.{refl, sym, ap, ◌∙◌}
use native.Mathlib.Omega.{arith}
use lib.ListN.{length}
use borrow.Author.Tests.{eqb-true, eqb-false}
use Rattle.text.proofs.Lines.{line-none, left-line, left-number, left_end}
use Rattle.text.proofs.Left.{left_step, left-bounded, left-done, wrote_as}
use Rattle.text.proofs.put_line.Goals as goal

pub put_byte-requires : goal.put_byte-requires
put_byte-requires c =
    omega (arith, ap length (line-none c.args.numbers.now (eqb-true _ 0 (sym c.if-is_empty.ensures))))

pub returns-then-is_empty : goal.returns-then-is_empty
returns-then-is_empty c =
    wrote_as (sym (line-none _ (eqb-true _ 0 (sym c.if-is_empty.ensures)))) c.put_byte.ensures

pub loop-i-init : goal.loop-i-init
loop-i-init c = (refl, left-line _ (eqb-false _ 0 (sym c.if-is_empty.ensures)))

pub put_field-next-requires : goal.put_field-next-requires
put_field-next-requires c =
    left-bounded (left-number _ _ c.loop-i-test.true c.end_of.ensures c.loop-i.invariant.1) c.requires

pub loop-i-preserved : goal.loop-i-preserved
loop-i-preserved c =
    (c.put_field-next.auto.out ∙ c.loop-i.invariant.0, left_step (left-number _ _ c.loop-i-test.true c.end_of.ensures c.loop-i.invariant.1) c.put_field-next.ensures)

pub returns : goal.returns
returns c = left-done (left_end c.args.numbers.now c.loop-i.i c.loop-i-test.false c.loop-i.invariant.1)

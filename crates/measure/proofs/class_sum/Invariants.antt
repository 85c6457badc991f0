-- `class_sum` meets its contract. The loop's invariant: the sum is that of the numbers so far. Assumes nothing.
use Rattle.measure.proofs.Sums.{Added}
use Rattle.measure.proofs.class_sum.Given as goal

abbrev pub invariant-loop-number : goal.invariant-loop-number
invariant-loop-number g l = Added l.numbers l.number-index l.sum

-- The loop of `fill`: the first i records are those of the groups, the others as they were. Assumes nothing.
use mathlib.Core.Path.{◌≡◌}
use Rattle.figures.proofs.Stores.{begun}
use Rattle.figures.proofs.fill.Given as goal

abbrev pub invariant-loop-i : goal.invariant-loop-i
invariant-loop-i l = l.list ≡ begun l.words 0 l.i l.initial.list

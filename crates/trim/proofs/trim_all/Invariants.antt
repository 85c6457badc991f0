-- `trim_all` meets its contract. Assumes nothing.
use Rattle.trim.proofs.Trimming.{Trimming}
use Prim.Native.Nat.{◌-◌}
use Rattle.trim.proofs.trim_all.Given as goal

abbrev pub invariant-loop-at : goal.invariant-loop-at
invariant-loop-at l = Trimming l.initial.words l.words l.n l.at l.before l.count

abbrev pub decreases-loop-at : goal.decreases-loop-at
decreases-loop-at l = l.n - l.at

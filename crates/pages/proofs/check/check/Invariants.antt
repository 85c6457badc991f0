-- `check::check` meets its contract. Assumes nothing.
use Rattle.pages.proofs.Checking.{Checking}
use Prim.Native.Nat.{◌-◌}
use Rattle.pages.proofs.check.check.Given as goal

abbrev pub invariant-loop-p : goal.invariant-loop-p
invariant-loop-p l = Checking l.words l.n l.p l.after

abbrev pub decreases-loop-p : goal.decreases-loop-p
decreases-loop-p l = l.n - l.p

-- `lists_fit` meets its contract. Assumes nothing.
use Prim.Native.Nat.{◌-◌}
use Rattle.header.specs.Encoding.{spare_in, lists_in}
use Rattle.metadata.proofs.Fitting.{Fitting}
use Rattle.metadata.proofs.lists_fit.Given as goal

abbrev pub invariant-loop-p : goal.invariant-loop-p
invariant-loop-p l = Fitting (spare_in l.lists.words.now) (lists_in l.lists.words.now) l.entries l.pages.words.now l.pages.count l.open l.p

abbrev pub decreases-loop-p : goal.decreases-loop-p
decreases-loop-p l = l.pages.count - l.p

-- `take_states` meets its contract. The loop's invariant: i states are those in i slots, the others as they were. Assumes nothing.
use mathlib.Core.Path.{refl}
use native.Mathlib.Omega.{arith}
use lib.ListN.{length-set}
use Rattle.tally.proofs.Squeezed.{squeezed-more}
use Rattle.tally.proofs.take_states.Goals as goal

pub loop-i-preserved : goal.loop-i-preserved
loop-i-preserved c =
    (simp length-set c.loop-i.invariant.0, squeezed-more _ _ _ _ _ _ c.loop-i-test.true (omega arith) refl c.loop-i.invariant.1)

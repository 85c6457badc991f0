-- `narrow` meets its contract. The loop's invariant: i bytes are those of i states, the others as they were. Assumes nothing.
use native.Mathlib.Omega.{arith}
use lib.ListN.{length-set}
use Rattle.tally.proofs.Squeezed.{squeezed-more}
use Rattle.tally.proofs.narrow.Goals as goal

pub loop-i-preserved : goal.loop-i-preserved
loop-i-preserved c =
    (simp length-set c.loop-i.invariant.0, squeezed-more _ _ _ _ _ _ c.loop-i-test.true (omega arith) c.owner_byte.ensures c.loop-i.invariant.1)

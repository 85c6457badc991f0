-- `sweep` meets its contract. Assumes nothing.
use native.Mathlib.Omega.{arith}
use Rattle.reset.proofs.Sweeps.{sweep-end, few-in-all}
use Rattle.reset.proofs.sweep.Goals as goal

pub overflow_add-count : goal.overflow_add-count
overflow_add-count c =
    let s = c.sweep_at-swept.ensures.0 _ _ _ c.loop-start.invariant in omega (arith, s.counted, few-in-all c.args.group.number c.requires)

pub returns : goal.returns
returns c = sweep-end c.loop-start.invariant c.loop-start-test.false

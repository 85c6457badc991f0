-- `slots::shift_in` meets its contract. Assumes nothing.
use Prim.Native.Nat.{◌≤◌, ◌<◌}
use mathlib.Core.Path.{sym, ◌∙◌}
use native.Mathlib.Omega.{arith}
use lib.ListN.{length}
use Rattle.header.proofs.Scans.{shift-more, shift-done, shift-put}
use Rattle.header.proofs.slots.shift_in.Goals as goal

pub loop-slot-preserved : goal.loop-slot-preserved
loop-slot-preserved c =
    let turn = c.loop-slot in
    let h : turn.slot-index < length turn.slot-items = omega arith in
    rw (c.replace-carry.ensures.value, c.replace-carry.ensures.after) (shift-more _ _ _ h ∙ turn.invariant)

pub returns : goal.returns
returns c =
    let turn = c.loop-slot in
    let h : length turn.slot-items ≤ turn.slot-index = omega arith in
    shift-put _ _ _ _ (sym (shift-done _ _ _ h) ∙ turn.invariant)

-- `header::push` meets its contract. Assumes nothing.
use native.Mathlib.Omega.{arith}
use Rattle.header.proofs.Encoded.{lists-size}
use Rattle.header.proofs.Steps.{header_length, lists-most, step_push}
use Rattle.header.proofs.push.Goals as goal

pub shift_in-requires : goal.shift_in-requires
shift_in-requires c =
    let pre = c.requires in
    omega (arith, lists-size c.args.words.now (header_length pre.0), lists-most pre.0 _ _ c.count_between-at.ensures)

pub returns : goal.returns
returns c =
    let pre = c.requires in
    step_push pre.0 _ _ pre.1 _ _ _ _ c.key.ensures c.key-2.ensures c.count_between-at.ensures c.shift_in.ensures

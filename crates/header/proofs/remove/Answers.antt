-- `header::remove` meets its contract. Assumes nothing.
use Rattle.header.proofs.Steps.{step-remove}
use Rattle.header.proofs.remove.Goals as goal

pub returns : goal.returns
returns c =
    let pre = c.requires in
    step-remove pre.0 _ _ pre.1 _ _ pre.2 c.key.ensures c.take_out.ensures

-- `slots::take_out` meets its contract. Assumes nothing.
use Rattle.header.proofs.Scans.{closed-put}
use Rattle.header.proofs.slots.take_out.Goals as goal

pub returns : goal.returns
returns c =
    let gathered = c.gather-end in
    closed-put _ _ _ _ _ gathered.auto.slots gathered.ensures.0 gathered.ensures.1 c.clear.ensures

-- `header::set_up` meets its contract. Assumes nothing.
use Rattle.header.proofs.Steps.{step-fresh}
use Rattle.header.proofs.set_up.Goals as goal

pub returns : goal.returns
returns c =
    step-fresh c.args.words.now _ _ c.requires c.clear.ensures

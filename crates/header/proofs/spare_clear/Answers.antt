-- `header::spare_clear` meets its contract. Assumes nothing.
use Rattle.header.proofs.Steps.{step-spare-clear}
use Rattle.header.proofs.spare_clear.Goals as goal

pub returns : goal.returns
returns c = step-spare-clear c.requires _ c.clear.ensures

-- `header::spare_push` meets its contract. Assumes nothing.
use Rattle.header.proofs.Steps.{step-spare-push}
use Rattle.header.proofs.spare_push.Goals as goal

pub returns : goal.returns
returns c = step-spare-push c.requires.0 _ _ c.shift_in.ensures

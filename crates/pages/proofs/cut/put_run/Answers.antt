-- `cut::put_run` meets its contract. Assumes nothing.
use Rattle.pages.proofs.Words.{stored-run}
use Rattle.pages.proofs.cut.put_run.Goals as goal

pub returns : goal.returns
returns c = stored-run _ _ c.requires

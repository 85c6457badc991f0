-- `cut::put_direct` meets its contract. Assumes nothing.
use Rattle.pages.proofs.Words.{stored-direct}
use Rattle.pages.proofs.cut.put_direct.Goals as goal

pub returns : goal.returns
returns c = stored-direct _ _ _ c.requires

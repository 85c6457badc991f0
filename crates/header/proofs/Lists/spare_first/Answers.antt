-- `header::Lists::spare_first` meets its contract. Assumes nothing.
use Rattle.header.proofs.Steps.{spare-front}
use Rattle.header.proofs.Lists.spare_first.Goals as goal

pub returns : goal.returns
returns c = spare-front c.args.self.now.legal c.checked_sub.ensures

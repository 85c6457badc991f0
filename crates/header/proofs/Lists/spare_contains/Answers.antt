-- `header::Lists::spare_contains` meets its contract. Assumes nothing.
use mathlib.Core.Path.{ap, ◌∙◌}
use lib.Dec.{ltb}
use Rattle.header.proofs.Steps.{spare-times}
use Rattle.header.proofs.Lists.spare_contains.Goals as goal

pub returns : goal.returns
returns c = ap (ltb 0) (c.count_between.ensures ∙ spare-times c.args.self.now.legal _)

-- `header::Lists::contains` meets its contract. Assumes nothing.
use mathlib.Core.Path.{ap, ◌∙◌}
use lib.Dec.{ltb}
use Rattle.header.proofs.Steps.{class-times}
use Rattle.header.proofs.Lists.contains.Goals as goal

pub returns : goal.returns
returns c =
    let header = c.args.self.now.legal in
    ap (ltb 0) (c.count_between.ensures ∙ class-times header _ c.requires.0 _ _ c.requires.1 c.key-low.ensures)

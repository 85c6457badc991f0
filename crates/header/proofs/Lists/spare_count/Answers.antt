-- `header::Lists::spare_count` meets its contract. Assumes nothing.
use mathlib.Core.Path.{◌∙◌}
use native.Mathlib.Omega.{arith}
use Rattle.header.proofs.Steps.{spare-most, spare-length}
use Rattle.header.proofs.Lists.spare_count.Goals as goal

pub overflow_cast-result : goal.overflow_cast-result
overflow_cast-result c = omega (arith, spare-most c.args.self.now.legal _ _ c.count_between.ensures)

pub returns : goal.returns
returns c = c.count_between.ensures ∙ spare-length c.args.self.now.legal

-- `header::Lists::listed` meets its contract. Assumes nothing.
use mathlib.Core.Path.{◌∙◌}
use native.Mathlib.Omega.{arith}
use Rattle.header.proofs.Steps.{lists-most, listed-count}
use Rattle.header.proofs.Lists.listed.Goals as goal

pub overflow_cast-result : goal.overflow_cast-result
overflow_cast-result c = omega (arith, lists-most c.args.self.now.legal _ _ c.count_between.ensures)

pub returns : goal.returns
returns c = c.count_between.ensures ∙ listed-count c.args.self.now.legal

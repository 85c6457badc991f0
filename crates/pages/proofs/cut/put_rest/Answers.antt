-- `cut::put_rest` meets its contract. Assumes nothing.
use Rattle.pages.proofs.Words.{zero-blank, rest-none, rest_some}
use mathlib.Core.Path.{◌∙◌}
use native.Mathlib.Omega.{arith}
use Rattle.pages.proofs.cut.put_rest.Goals as goal

pub returns-then-n-eq0 : goal.returns-then-n-eq0
returns-then-n-eq0 c = c.requires.0 ∙ rest-none _ c.if-n-eq0.true

pub put_run-requires : goal.put_run-requires
put_run-requires c = zero-blank _ 2 _ c.requires.0 (omega arith) c.requires.1

pub returns : goal.returns
returns c = c.put_run.ensures ∙ rest_some _ (omega arith)

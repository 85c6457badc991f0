-- `run_at` meets its contract. Assumes nothing.
use mathlib.Core.Path.{◌∙◌}
use Rattle.pages.proofs.Search.{run-pages}
use Rattle.steps.proofs.run_at.Goals as goal

pub returns : goal.returns
returns c = λ b x s. c.run_len.ensures ∙ run-pages x _ _ (c.kind_at.ensures b x s) (c.size_at.ensures b x s)

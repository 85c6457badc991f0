-- `find_pages` meets its contract. Assumes nothing.
use mathlib.Core.Path.{sym, ◌∙◌}
use Rattle.allocate.proofs.Sourced.{first_run}
use Rattle.allocate.proofs.find_pages.Goals as goal

pub returns-then-is_some : goal.returns-then-is_some
returns-then-is_some c = first_run c.requires _ c.find_run-choice.ensures (sym c.is_some.ensures ∙ c.if-is_some.true)

-- `find_again` meets its contract. Assumes nothing.
use mathlib.Core.Path.{sym, ◌∙◌}
use native.Mathlib.Omega.{arith}
use Rattle.allocate.proofs.Sourced.{few-looked, none-fits, second_run}
use Rattle.allocate.proofs.find_again.Goals as goal

pub overflow_add-both : goal.overflow_add-both
overflow_add-both c =
    let h = c.requires in
    let k = few-looked h.0 _ h.1 c.find_trimmed-run.ensures in omega arith

pub returns-then-is_some : goal.returns-then-is_some
returns-then-is_some c =
    let h = c.requires in second_run h.0 _ h.1 c.find_trimmed-run.ensures (sym c.is_some.ensures ∙ c.if-is_some.true) c.trim_all.ensures.1

pub returns-else-is_some : goal.returns-else-is_some
returns-else-is_some c =
    let h = c.requires in none-fits h.0 _ h.1 c.find_trimmed-run.ensures (sym c.is_some.ensures ∙ c.if-is_some.false)

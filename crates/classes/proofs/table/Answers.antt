-- `table` meets its contract: the constant is the table, all of it, which the checker computes. Assumes nothing.
use mathlib.Core.Path.{refl}
use Rattle.lemmas.specs.ListFrom.{list_from}
use Rattle.model.specs.Sizes.{step, rounded, class_of}
use Rattle.classes.specs.Table.{entry_at, class_table}
use Rattle.classes.proofs.table.Goals as goal

pub returns : goal.returns
unfolding class_table list_from entry_at class_of rounded step
returns c = refl

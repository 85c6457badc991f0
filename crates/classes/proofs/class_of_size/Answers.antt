-- `class_of_size` meets its contract: the constant is the table, all of it, which the checker computes. Assumes nothing.
use mathlib.Core.Path.{refl}
use Rattle.lemmas.specs.ListFrom.{list_from}
use Rattle.model.specs.Sizes.{step, rounded, class_of}
use Rattle.classes.specs.Table.{entry_at, class_table}
use Rattle.classes.proofs.class_of_size.Goals as goal

pub class_in-requires-clause-table_value : goal.class_in-requires-clause-table_value
unfolding class_table list_from entry_at class_of rounded step
class_in-requires-clause-table_value c = refl

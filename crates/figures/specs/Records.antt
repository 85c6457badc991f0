-- The groups' records as words have them, and a lent list once they are written to it (document 02, c). Assumes nothing.
use Rattle.std.specs.Prelude.{ℕ, cond, List, eqb, length}
use Rattle.lemmas.specs.ListFrom.{list_from}
use Rattle.model.specs.Numbers.{most_group}
use Rattle.model.specs.declared.Holding.{Holding}
use Rattle.figures.specs.Encoding.{record_in}

-- The record of each group, group 1 first.
unfoldable pub records_in : List ℕ → List Holding
records_in w = list_from (record_in w) 0 most_group

-- The list with the records in it, if it has as many as there are groups, else the list as it was.
unfoldable pub filled : List ℕ → List Holding → List Holding
filled w list = cond (eqb (length list) most_group) (records_in w) list

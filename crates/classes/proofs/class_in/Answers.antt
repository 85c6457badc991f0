-- `class_in` meets its contract: a size's entry is its class. Assumes nothing.
use mathlib.Core.Path.{ap, ◌∙◌}
use native.Mathlib.Omega.{arith}
use lib.ListN.{length, get_or}
use Rattle.classes.proofs.Rule.{table-length, entry-class}
use Rattle.classes.proofs.class_in.Goals as goal

pub bounds-table-place : goal.bounds-table-place
bounds-table-place c = omega (arith, ap length c.requires.table_value ∙ table-length)

pub returns : goal.returns
returns c =
    let n = c.args.size in
    c.from.ensures ∙ (λ j. get_or (c.requires.table_value j) (c.place.ensures.0 j) 0) ∙ entry-class n c.requires.chunk_sized.0 c.requires.chunk_sized.1

-- `count_rows` meets its contract. The loop's invariant: the rows so far and those of the segments left are all rows. Assumes nothing.
use Rattle.listing.proofs.Walks.{Counting}
use Rattle.pages.specs.Places.{kind_number}
use Prim.Native.Nat.{◌-◌}
use Rattle.listing.proofs.count_rows.Given as goal

abbrev pub invariant-loop-p : goal.invariant-loop-p
invariant-loop-p l = Counting (kind_number l.kind) l.pages.words.now l.pages.count l.rows l.p

abbrev pub decreases-loop-p : goal.decreases-loop-p
decreases-loop-p l = l.pages.count - l.p

-- `put_rows` meets its contract. The loop's invariant: the rows of the segments passed have been written. Assumes nothing.
use Rattle.listing.proofs.Walks.{Writing}
use Rattle.pages.specs.Places.{kind_number}
use Prim.Native.Nat.{◌-◌}
use Rattle.listing.proofs.put_rows.Given as goal

abbrev pub invariant-loop-p : goal.invariant-loop-p
invariant-loop-p l = Writing (kind_number l.kind) l.pages.words.now l.pages.count l.initial.out l.at l.next l.out l.p

abbrev pub decreases-loop-p : goal.decreases-loop-p
decreases-loop-p l = l.pages.count - l.p

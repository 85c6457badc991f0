-- `unlist` meets its contract. Assumes nothing.
use native.Mathlib.Omega.{arith}
use Rattle.trim.proofs.Words.{class_low, page-low}
use Rattle.trim.proofs.unlist.Goals as goal

pub overflow_cast-p : goal.overflow_cast-p
overflow_cast-p c = let h = c.requires in omega (arith, page-low h.0 _ h.1)

pub list_without-requires-clause-in_range : goal.list_without-requires-clause-in_range
list_without-requires-clause-in_range c = let h = c.requires in (omega (arith, class_low h.0 _ h.1, c.zone_class-class.ensures), page-low h.0 _ h.1)

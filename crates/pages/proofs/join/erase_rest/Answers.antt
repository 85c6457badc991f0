-- `join::erase_rest` meets its contract. Assumes nothing.
use Rattle.pages.proofs.Fused.{rest-long, rest-erased, nothing-erased}
use mathlib.Core.Path.{sym}
use borrow.Author.Tests.{eqb-true, eqb-false}
use lib.ListN.{length-set}
use native.Mathlib.Omega.{arith}
use Rattle.pages.proofs.join.erase_rest.Goals as goal

pub returns-then-is_empty : goal.returns-then-is_empty
returns-then-is_empty c = nothing-erased _ (eqb-true _ 0 (sym c.if-is_empty.ensures))

pub bounds-part-1 : goal.bounds-part-1
bounds-part-1 c = simp length-set (omega (arith, rest-long _ c.requires.0 c.requires.1 (eqb-false _ 0 (sym c.if-is_empty.ensures))))

pub returns : goal.returns
returns c = rest-erased _ c.requires.0 c.requires.1 (eqb-false _ 0 (sym c.if-is_empty.ensures))

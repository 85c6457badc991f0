-- `header::spare_pop` meets its contract. Assumes nothing.
use native.Mathlib.Omega.{arith}
use lib.ListN.{length-set}
use Rattle.header.proofs.Steps.{header_length, step-spare-pop}
use Rattle.header.proofs.spare_pop.Goals as goal

pub bounds-words-3 : goal.bounds-words-3
bounds-words-3 c = simp length-set (omega (arith, header_length c.requires))

pub returns : goal.returns
returns c = step-spare-pop c.requires

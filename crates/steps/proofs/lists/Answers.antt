-- `lists` meets its contract. Assumes nothing.
use mathlib.Core.Path.{refl}
use Rattle.metadata.specs.Decoding.{decode}
use Rattle.steps.proofs.Lent.{header-lent}
use Rattle.steps.proofs.lists.Goals as goal

pub invariant_of-result : goal.invariant_of-result
invariant_of-result c = record { legal = header-lent c.requires }

pub returns : goal.returns
unfolding decode
returns c = (refl, refl)

-- `spare_behind` meets its contract. Assumes nothing.
use Rattle.metadata.specs.Decoding.{decode}
use mathlib.Core.Path.{refl}
use Rattle.steps.proofs.Lent.{header-lent, header-put}
use Rattle.steps.proofs.spare_behind.Goals as goal

pub spare_pop-requires : goal.spare_pop-requires
unfolding decode
spare_pop-requires c = header-lent c.requires

pub returns : goal.returns
unfolding decode
returns c = header-put c.requires _ _ _ _ refl c.spare_pop.ensures

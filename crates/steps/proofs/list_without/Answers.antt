-- `list_without` meets its contract. Assumes nothing.
use Rattle.metadata.specs.Decoding.{decode}
use mathlib.Core.Path.{refl}
use Rattle.steps.proofs.Lent.{header-lent, header-put}
use Rattle.steps.proofs.list_without.Goals as goal

pub remove-requires : goal.remove-requires
unfolding decode
remove-requires c = let h = c.requires in (header-lent h.lent, h.in_range.0, h.in_range.1)

pub returns : goal.returns
unfolding decode
returns c = header-put c.requires.lent _ _ _ _ refl c.remove.ensures

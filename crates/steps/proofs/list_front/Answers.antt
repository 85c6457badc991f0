-- `list_front` meets its contract. Assumes nothing.
use Rattle.metadata.specs.Decoding.{decode}
use mathlib.Core.Path.{refl}
use Rattle.steps.proofs.Lent.{header-lent, header-put}
use Rattle.steps.proofs.list_front.Goals as goal

pub push-requires : goal.push-requires
unfolding decode
push-requires c = let h = c.requires in (header-lent h.lent, h.in_range.0, h.in_range.1, h.in_range.2)

pub returns : goal.returns
unfolding decode
returns c = header-put c.requires.lent _ _ _ _ refl c.push.ensures

-- `spare_front` meets its contract. Assumes nothing.
use Rattle.metadata.specs.Decoding.{decode}
use mathlib.Core.Path.{refl}
use Rattle.steps.proofs.Lent.{header-lent, header-put}
use Rattle.steps.proofs.spare_front.Goals as goal

pub spare_push-requires : goal.spare_push-requires
unfolding decode
spare_push-requires c = let h = c.requires in (header-lent h.lent, h.in_range.0, h.in_range.1)

pub returns : goal.returns
unfolding decode
returns c = header-put c.requires.lent _ _ _ _ refl c.spare_push.ensures

-- `zone_start` meets its contract. Assumes nothing.
use Rattle.steps.proofs.ZonePart.{part-page, part_end}
use Rattle.steps.proofs.zone_start.Goals as goal

pub words_for-requires : goal.words_for-requires
words_for-requires c = part-page c.requires.0 _ c.requires.1

pub returns : goal.returns
returns c = let e = c.words_for.ensures in let r = part_end c.requires.0 _ c.requires.1 _ e in (e, r.0, r.1)

-- `put_back` meets its contract: its stores make the encoding of the zone with the chunk put back. Assumes nothing.
use mathlib.Core.Path.{◌∙◌}
use Rattle.zone.proofs.Figures.{put-back-asks, put-back-words}
use Rattle.zone.proofs.put_back.Goals as goal

pub put_last-requires : goal.put_last-requires
put_last-requires c = put-back-asks _ c.requires.0 _ c.requires.1

pub returns : goal.returns
returns c =
    c.put_last.ensures ∙ put-back-words _ c.requires.0 _ c.requires.1

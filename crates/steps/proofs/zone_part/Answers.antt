-- `zone_part` meets its contract. Assumes nothing.
use Rattle.steps.proofs.ZonePart.{part-zone, part-is}
use Rattle.steps.proofs.zone_part.Goals as goal

pub invariant_of-result : goal.invariant_of-result
invariant_of-result c = let h = c.requires in record { valid = part-zone h.0 _ h.1 _ c.zone_start-a.ensures.0 }

pub returns : goal.returns
returns c = let h = c.requires in part-is h.0 _ h.1 _ c.zone_start-a.ensures.0

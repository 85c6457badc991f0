-- `zone_renew` meets its contract. Assumes nothing.
use Rattle.model.specs.Zone.{new_zone}
use Rattle.steps.proofs.ZonePart.{part-put}
use Rattle.steps.proofs.zone_renew.Goals as goal

pub returns : goal.returns
returns c =
    let h = c.requires in let a = c.zone_start-a.ensures.0 in part-put h.0 _ h.1 _ a (λ _. new_zone c.args.class c.args.group) _ c.set_up.ensures

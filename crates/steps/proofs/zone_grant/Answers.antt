-- `zone_grant` meets its contract. Assumes nothing.
use mathlib.Core.Path.{◌∙◌, ap}
use Rattle.model.specs.Zone.{full, next_chunk, granted}
use Rattle.steps.proofs.ZonePart.{part-zone, part-is, part-put}
use Rattle.steps.proofs.zone_grant.Goals as goal

pub grant-requires : goal.grant-requires
grant-requires c =
    let h = c.requires in
    let a = c.zone_start-a.ensures.0 in
    (part-zone h.0 _ h.1 _ a, ap (λ z. full z) (part-is h.0 _ h.1 _ a) ∙ h.2)

pub returns : goal.returns
returns c =
    let h = c.requires in
    let a = c.zone_start-a.ensures.0 in
    let e = c.grant.ensures in
    (e.0 ∙ ap (λ z. next_chunk z) (part-is h.0 _ h.1 _ a), part-put h.0 _ h.1 _ a (λ z. granted c.args.group.number z) _ e.1)

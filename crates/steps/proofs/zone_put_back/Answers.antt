-- `zone_put_back` meets its contract. Assumes nothing.
use Prim.Native.Nat.{◌<◌}
use mathlib.Core.Path.{sym, subst}
use lib.ListN.{get_or}
use Rattle.model.specs.Zone.{put_back}
use Rattle.steps.proofs.ZonePart.{part-zone, part-is, part-put}
use Rattle.steps.proofs.zone_put_back.Goals as goal

pub put_back-requires : goal.put_back-requires
put_back-requires c =
    let h = c.requires in
    let a = c.zone_start-a.ensures.0 in
    (part-zone h.0 _ h.1 _ a, subst (λ z. 0 < get_or z.owners c.args.chunk 0) (sym (part-is h.0 _ h.1 _ a)) h.2)

pub returns : goal.returns
returns c =
    let h = c.requires in let a = c.zone_start-a.ensures.0 in part-put h.0 _ h.1 _ a (λ z. put_back c.args.chunk z) _ c.put_back.ensures

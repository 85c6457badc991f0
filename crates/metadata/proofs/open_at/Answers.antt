-- `open_at` meets its contract. Assumes nothing.
use mathlib.Core.Path.{sym, ◌∙◌}
use Rattle.pages.proofs.Laws.{no_zone}
use Rattle.pages.proofs.Inverse.{stands-zone}
use Rattle.metadata.proofs.Here.{open-other, open-zone}
use Rattle.metadata.proofs.open_at.Goals as goal

pub zone-requires : goal.zone-requires
zone-requires c =
    let h = c.requires in
    let i = stands-zone h.2 (sym (c.kind.ensures _ _ h.2) ∙ c.in-Zone.is) in (_, i.0, i.2)

pub returns-in-Zone : goal.returns-in-Zone
returns-in-Zone c =
    λ b x s. let i = stands-zone s (sym (c.kind.ensures _ _ s) ∙ c.in-Zone.is) in c.zone_open.ensures ∙ open-zone (c.zone.ensures _ _ i.2) i.1

pub returns-in-Run : goal.returns-in-Run
returns-in-Run c = λ b x s. open-other x (no_zone x (c.kind.ensures _ _ s) c.in-Run.is)

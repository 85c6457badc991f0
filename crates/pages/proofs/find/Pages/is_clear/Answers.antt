-- `find::Pages::is_clear` meets its contract. Assumes nothing.
use mathlib.Core.Path.{sym, ◌∙◌, ap}
use Rattle.model.specs.PageMap.{idle_zone}
use Rattle.pages.specs.Places.{is_clear}
use Rattle.pages.proofs.Inverse.{stands-zone}
use Rattle.pages.proofs.Clear.{clear-run, clear-no}
use Rattle.pages.proofs.find.Pages.is_clear.Goals as goal

pub zone-requires : goal.zone-requires
zone-requires c = let z = stands-zone c.requires.2 (sym (c.kind.ensures _ _ c.requires.2) ∙ c.in-Zone.is) in (c.requires.0, z.0, z.2)

pub returns-in-Run : goal.returns-in-Run
returns-in-Run c = λ b x s. clear-run x (sym (c.kind.ensures b x s) ∙ c.in-Run.is)

pub returns-in-Direct : goal.returns-in-Direct
returns-in-Direct c = λ b x s. clear-no x (sym (c.kind.ensures b x s) ∙ c.in-Direct.is)

pub returns-in-Zone : goal.returns-in-Zone
returns-in-Zone c = λ b x s.
    let z = stands-zone s (sym (c.kind.ensures b x s) ∙ c.in-Zone.is) in
    c.is_idle.ensures ∙ ap idle_zone (c.zone.ensures b z.0 z.2) ∙ ap (λ y. is_clear y) (sym z.1)

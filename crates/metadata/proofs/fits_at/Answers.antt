-- `fits_at` meets its contract. Assumes nothing.
use native.Mathlib.Omega.{arith}
use mathlib.Core.Path.{sym, ◌∙◌}
use Rattle.pages.proofs.Walk.{read_at}
use Rattle.pages.proofs.Laws.{no_zone}
use Rattle.pages.proofs.Inverse.{stands-zone}
use Rattle.metadata.proofs.Here.{fits-other, fits-zone}
use Rattle.metadata.proofs.fits_at.Goals as goal

pub zone-requires : goal.zone-requires
zone-requires c =
    let h = c.requires in
    let i = stands-zone h.2 (sym (c.kind.ensures _ _ h.2) ∙ c.in-Zone.is) in (_, i.0, i.2)

pub overflow_cast-p : goal.overflow_cast-p
overflow_cast-p c = let r = read_at c.args.pages.now.held c.requires.2 in omega (arith, r.few, r.inside)

pub zone_fits-requires : goal.zone_fits-requires
zone_fits-requires c = let r = read_at c.args.pages.now.held c.requires.2 in omega (arith, r.ok.0)

pub returns-in-Zone : goal.returns-in-Zone
returns-in-Zone c =
    λ b x s. let i = stands-zone s (sym (c.kind.ensures _ _ s) ∙ c.in-Zone.is) in c.zone_fits.ensures ∙ fits-zone (c.zone.ensures _ _ i.2) i.1 _ _ _

pub returns-in-Run : goal.returns-in-Run
returns-in-Run c = λ b x s. fits-other _ _ _ x (no_zone x (c.kind.ensures _ _ s) c.in-Run.is)

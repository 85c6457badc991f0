-- `idle_at` meets its contract. Assumes nothing.
use mathlib.Core.Path.{sym, ◌∙◌}
use Rattle.trim.proofs.Words.{no-zone, kind-here, kind-idle}
use Rattle.trim.proofs.idle_at.Goals as goal

pub zone_idle-requires : goal.zone_idle-requires
zone_idle-requires c = let h = c.requires in (h.lent, kind-here h.placed.2 (sym (c.in-Zone.ensures _ _ h.placed.2)))

pub returns-in-Zone : goal.returns-in-Zone
returns-in-Zone c = λ b x s. c.zone_idle.ensures ∙ kind-idle s (sym (c.in-Zone.ensures b x s))

pub returns-in-Run : goal.returns-in-Run
returns-in-Run c = λ b x s. no-zone x (rw (c.kind_at.ensures b x s) at c.in-Run.is)

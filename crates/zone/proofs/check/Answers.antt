-- `check` meets its contract: the head, then the body. Assumes nothing.
use mathlib.Core.Path.{sym, ◌∙◌}
use Rattle.zone.proofs.Scans.{check-asks}
use Rattle.zone.proofs.check.Goals as goal

pub body_is_legal-requires : goal.body_is_legal-requires
body_is_legal-requires c = check-asks _ (sym c.head_is_legal.ensures ∙ c.if-head_is_legal.true)

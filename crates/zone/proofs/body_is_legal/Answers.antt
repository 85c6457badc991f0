-- `body_is_legal` meets its contract, part by part. Assumes nothing.
use mathlib.Core.Path.{sym, ◌∙◌}
use Rattle.lemmas.proofs.Cases.{true-false}
use Rattle.zone.proofs.Scans.{body-untouched}
use Rattle.zone.proofs.body_is_legal.Goals as goal
use Rattle.zone.proofs.body_is_legal.Goals.{then-is_zero, else-is_zero}

pub returns-then-are_legal : goal.returns-then-are_legal
returns-then-are_legal c =
    elim c.if-is_zero.branch [
      | then-is_zero w ↦ c.is_zero-then-are_legal.ensures ∙ body-untouched _ c.requires.0 c.requires.1 (sym c.is_zero.ensures ∙ w.if-is_zero.true) (sym w.are_legal.ensures ∙ sym w.value-is ∙ c.if-are_legal.true)
      | else-is_zero w ↦ true-false c.if-are_legal.true (w.value-is ∙ w.if-is_zero.false)
    ]

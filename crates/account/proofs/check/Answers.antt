-- `check` meets its contract. Assumes nothing.
use native.Mathlib.Omega.{arith}
use mathlib.Core.Path.{sym, ◌∙◌}
use lib.Seq.{length-take-le}
use Rattle.model.specs.Numbers.{figure_words}
use Rattle.account.proofs.Checked.{too_short, no-state, figures-decide}
use Rattle.account.proofs.check.Goals as goal

pub returns-then-words-lt-FIGURE_WORDS : goal.returns-then-words-lt-FIGURE_WORDS
returns-then-words-lt-FIGURE_WORDS c = too_short _ c.if-words-lt-FIGURE_WORDS.true

pub returns-then-not-check : goal.returns-then-not-check
returns-then-not-check c = no-state _ (sym c.check.ensures ∙ c.if-not-check.true)

pub figures_fit-requires : goal.figures_fit-requires
figures_fit-requires c =
    (length-take-le figure_words c.args.words.now (omega (arith, c.if-words-lt-FIGURE_WORDS.false)), sym c.check.ensures ∙ c.if-not-check.false)

pub returns : goal.returns
returns c =
    c.figures_fit.ensures ∙ figures-decide c.args.words.now (sym c.check.ensures ∙ c.if-not-check.false)

-- `kind_at` meets its contract. Assumes nothing.
use mathlib.Core.Path.{◌∙◌, ap}
use lib.ListN.{get_or}
use Rattle.pages.specs.Places.{kind_by}
use Rattle.pages.proofs.Laws.{kind-told}
use Rattle.steps.proofs.Segments.{here-inside, here-kind}
use native.Mathlib.Omega.{arith}
use Rattle.steps.proofs.kind_at.Goals as goal

pub words_for-at-requires : goal.words_for-at-requires
words_for-at-requires c = let h = c.requires in let r = here-inside h.lent h.placed.2 in omega arith

pub offset_bounds-words-at : goal.offset_bounds-words-at
offset_bounds-words-at c = let h = c.requires in let r = here-inside h.lent h.placed.2 in omega (arith, c.words_for-at.ensures)

pub bounds-words-at : goal.bounds-words-at
bounds-words-at c = let h = c.requires in let r = here-inside h.lent h.placed.2 in omega (arith, c.words_for-at.ensures)

pub returns : goal.returns
returns c =
    λ b x t. c.told_by.ensures ∙ ap (λ a. kind_by (get_or c.args.words.now a 0)) c.words_for-at.ensures ∙ ap (λ k. kind_by k) (here-kind c.requires.lent t) ∙ kind-told x

-- `figures_fit` meets its contract. Assumes nothing.
use native.Mathlib.Omega.{arith}
use mathlib.Core.Path.{refl, sym, ◌∙◌}
use Rattle.account.proofs.Checked.{state-most, state-inside, state-holds, no-figures, rest-decides}
use Rattle.account.proofs.figures_fit.Goals as goal

pub words_for-e-requires : goal.words_for-e-requires
words_for-e-requires c = omega (arith, c.pages-n.ensures, state-most _ c.requires.1)

pub slice_bounds-pages-end : goal.slice_bounds-pages-end
slice_bounds-pages-end c = state-inside _ c.requires.1 _ c.pages-n.ensures _ c.words_for-e.ensures

pub invariant_of-pages : goal.invariant_of-pages
invariant_of-pages c = record { held = state-holds _ c.requires.1 _ c.pages-n.ensures _ c.words_for-e.ensures }

pub overflow_cast-n : goal.overflow_cast-n
overflow_cast-n c = omega (arith, c.pages-n.ensures, state-most _ c.requires.1)

pub overflow_mul-n : goal.overflow_mul-n
overflow_mul-n c = omega (arith, c.pages-n.ensures, state-most _ c.requires.1)

pub returns-then-not-records_fit : goal.returns-then-not-records_fit
returns-then-not-records_fit c =
    no-figures c.args.state.now c.requires.1 _ c.pages-n.ensures _ c.words_for-e.ensures c.args.figures.now _ c.tally.ensures _ refl
    (sym c.records_fit.ensures ∙ c.if-not-records_fit.true)

pub returns : goal.returns
returns c =
    c.is_zero.ensures
    ∙ rest-decides c.args.state.now c.requires.1 _ c.pages-n.ensures _ c.words_for-e.ensures c.args.figures.now _ c.tally.ensures _ refl
    (sym c.records_fit.ensures ∙ c.if-not-records_fit.false)

-- `lists_fit` meets its contract. Assumes nothing.
use Rattle.metadata.proofs.Here.{open-most}
use Rattle.metadata.specs.Lists.{fit_from}
use Rattle.pages.specs.Decoding.{segments_of}
use native.Mathlib.Omega.{arith}
use mathlib.Core.Path.{sym, ap, ◌∙◌}
use Prim.Native.Nat.{◌+◌}
use Rattle.header.specs.Encoding.{spare_in, lists_in}
use Rattle.metadata.proofs.Fitting.{fit-start, fit_next, fit-no, fit-more, fit-end}
use Rattle.metadata.proofs.lists_fit.Goals as goal

pub loop-p-init : goal.loop-p-init
loop-p-init c =
    fit-start c.args.pages.now.held

pub fits_at-requires : goal.fits_at-requires
fits_at-requires c =
    let k = fit_next c.loop-p.invariant c.loop-p-test.true in (c.loop-p.invariant.b, k.x, k.stands)

pub returns-then-not-fits_at : goal.returns-then-not-fits_at
returns-then-not-fits_at c =
    let k = fit_next c.loop-p.invariant c.loop-p-test.true in
    fit-no c.loop-p.invariant c.loop-p-test.true (sym (c.fits_at.ensures _ _ k.stands) ∙ c.if-not-fits_at.true) ∙ ap
    (λ y. fit_from (spare_in c.args.lists.now.words.now) (lists_in c.args.lists.now.words.now) y 0 0 (segments_of c.args.pages.now.words.now)) (λ i. c.listed.ensures i + c.spare_count.ensures i)

pub open_at-open-requires : goal.open_at-open-requires
open_at-open-requires c =
    let k = fit_next c.loop-p.invariant c.loop-p-test.true in (c.loop-p.invariant.b, k.x, k.stands)

pub overflow_add-open : goal.overflow_add-open
overflow_add-open c =
    let i = c.loop-p.invariant in let k = fit_next i c.loop-p-test.true in omega (arith, open-most k.x, c.open_at-open.ensures _ _ k.stands, i.few, i.most)

pub size-p-requires : goal.size-p-requires
size-p-requires c =
    let k = fit_next c.loop-p.invariant c.loop-p-test.true in (c.loop-p.invariant.b, k.x, k.stands)

pub overflow_add-p : goal.overflow_add-p
overflow_add-p c =
    let i = c.loop-p.invariant in let k = fit_next i c.loop-p-test.true in omega (arith, c.size-p.ensures _ _ k.stands, k.read.inside, i.most)

pub loop-p-smaller : goal.loop-p-smaller
loop-p-smaller c =
    let i = c.loop-p.invariant in let k = fit_next i c.loop-p-test.true in omega (arith, c.size-p.ensures _ _ k.stands, k.read.inside, k.read.ok.0)

pub loop-p-preserved : goal.loop-p-preserved
loop-p-preserved c =
    let i = c.loop-p.invariant in
    let k = fit_next i c.loop-p-test.true in
    fit-more i c.loop-p-test.true (sym (c.fits_at.ensures _ _ k.stands) ∙ c.if-not-fits_at.false) _ _ (c.open_at-open.ensures _ _ k.stands)
    (c.size-p.ensures _ _ k.stands)

pub returns : goal.returns
returns c =
    fit-end c.loop-p.invariant c.loop-p-test.false ∙ ap (λ y. fit_from (spare_in c.args.lists.now.words.now) (lists_in c.args.lists.now.words.now) y 0 0 (segments_of c.args.pages.now.words.now))
    (λ i. c.listed.ensures i + c.spare_count.ensures i)

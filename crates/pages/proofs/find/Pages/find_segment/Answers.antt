-- `find::Pages::find_segment` meets its contract. Assumes nothing.
use Rattle.pages.proofs.Search.{spot_past, spot-here}
use Rattle.pages.proofs.Walk.{walk_start, next, walk_end}
use Rattle.pages.specs.Places.{spot_from}
use native.Mathlib.Omega.{arith}
use Rattle.pages.proofs.find.Pages.find_segment.Goals as goal

pub loop-at-init : goal.loop-at-init
loop-at-init c = walk_start 0 c.args.self.now.held

pub size-len-requires : goal.size-len-requires
size-len-requires c = let k = next c.loop-at.invariant c.loop-at-test.true in (_, k.x, k.stands)

pub kind-kind-requires : goal.kind-kind-requires
kind-kind-requires c = let k = next c.loop-at.invariant c.loop-at-test.true in (_, k.x, k.stands)

pub overflow_add-at : goal.overflow_add-at
overflow_add-at c = let k = next c.loop-at.invariant c.loop-at-test.true in let r = k.read in let z = c.size-len.ensures _ _ k.stands in omega arith

pub returns-then-page-at : goal.returns-then-page-at
returns-then-page-at c =
    let k = next c.loop-at.invariant c.loop-at-test.true in spot-here _ c.loop-at.invariant c.loop-at-test.true (c.size-len.ensures _ _ k.stands) (c.kind-kind.ensures _ _ k.stands) c.if-page-at.true

pub loop-at-smaller : goal.loop-at-smaller
loop-at-smaller c =
    let k = next c.loop-at.invariant c.loop-at-test.true in let r = k.read in let z = c.size-len.ensures _ _ k.stands in omega (arith, r.ok.0)

pub loop-at-preserved : goal.loop-at-preserved
loop-at-preserved c =
    let k = next c.loop-at.invariant c.loop-at-test.true in
    spot_past _ c.loop-at.invariant c.loop-at-test.true (c.size-len.ensures _ _ k.stands) (c.kind-kind.ensures _ _ k.stands) c.run_len-before.result c.run_len-before.ensures c.if-page-at.false

pub returns : goal.returns
unfolding spot_from
returns c = walk_end c.loop-at.invariant c.loop-at-test.false

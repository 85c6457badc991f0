-- `put_rows` meets its contract. The loop's invariant: the rows of the segments passed have been written. Assumes nothing.
use Rattle.listing.proofs.Walks.{write-start, write-next, write-bounded, write-more, write-end}
use native.Mathlib.Omega.{arith}
use Rattle.listing.proofs.put_rows.Goals as goal

pub loop-p-init : goal.loop-p-init
loop-p-init c = write-start _ _ c.args.pages.now.held

pub put_row-next-requires : goal.put_row-next-requires
put_row-next-requires c =
    let k = write-next c.loop-p.invariant c.loop-p-test.true in
    (c.loop-p.invariant.b, k.x, k.stands, write-bounded c.loop-p.invariant c.loop-p-test.true c.requires)

pub size-p-requires : goal.size-p-requires
size-p-requires c = let k = write-next c.loop-p.invariant c.loop-p-test.true in (c.loop-p.invariant.b, k.x, k.stands)

pub overflow_add-p : goal.overflow_add-p
overflow_add-p c =
    let k = write-next c.loop-p.invariant c.loop-p-test.true in omega (arith, c.size-p.ensures _ _ k.stands, k.read.inside, k.read.few)

pub loop-p-smaller : goal.loop-p-smaller
loop-p-smaller c =
    let k = write-next c.loop-p.invariant c.loop-p-test.true in omega (arith, c.size-p.ensures _ _ k.stands, k.read.inside, k.read.ok.0)

pub loop-p-preserved : goal.loop-p-preserved
loop-p-preserved c =
    let k = write-next c.loop-p.invariant c.loop-p-test.true in
    write-more c.loop-p.invariant c.loop-p-test.true _ (c.put_row-next.ensures _ _ k.stands) (c.size-p.ensures _ _ k.stands)

pub returns : goal.returns
returns c = write-end c.loop-p.invariant c.loop-p-test.false

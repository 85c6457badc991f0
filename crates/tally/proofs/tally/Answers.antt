-- `tally` meets its contract. The loop's invariant: with what stands from page p on, the figures are those of all pages. Assumes nothing.
use native.Mathlib.Omega.{arith}
use Rattle.tally.proofs.Segments.{Here, tally-start, tally-within, tally-here, tally-end}
use Rattle.tally.proofs.tally.Goals as goal
use Rattle.tally.proofs.tally.Goals.{In-loop-p}

-- The segment at the loop's page.
here : (c : In-loop-p) → Here c.args.pages.now.words.now c.args.pages.now.count c.loop-p.figures c.loop-p.p c.loop-p.invariant.b
here c = tally-here c.loop-p.invariant c.loop-p-test.true

pub loop-p-init : goal.loop-p-init
loop-p-init c = tally-start c.args.pages.now.held c.requires

pub add_segment-requires : goal.add_segment-requires
add_segment-requires c =
    let i = c.loop-p.invariant in record {
      within = tally-within i;
      placed = (i.b, (here (goal.at.add_segment-requires c).In-loop-p).x, (here (goal.at.add_segment-requires c).In-loop-p).stands);
    }

pub size-p-requires : goal.size-p-requires
size-p-requires c =
    let k = here (goal.at.size-p-requires c).In-loop-p in (c.loop-p.invariant.b, k.x, k.stands)

pub overflow_add-p : goal.overflow_add-p
overflow_add-p c =
    let k = here (goal.at.overflow_add-p c).In-loop-p in
    omega (arith, c.size-p.ensures _ _ k.stands, k.read.inside, k.read.few)

pub loop-p-smaller : goal.loop-p-smaller
loop-p-smaller c =
    let k = here (goal.at.loop-p-smaller c).In-loop-p in
    omega (arith, c.size-p.ensures _ _ k.stands, k.read.inside, k.read.ok.0)

pub loop-p-preserved : goal.loop-p-preserved
loop-p-preserved c =
    let k = here (goal.at.loop-p-preserved c).In-loop-p in
    k.more (c.add_segment.ensures _ _ k.stands) (c.size-p.ensures _ _ k.stands)

pub returns : goal.returns
returns c = tally-end c.loop-p.invariant c.loop-p-test.false

-- `find::Pages::next_run` meets its contract. The loop's invariant: whichever segments begin at the page, the first run of those left is theirs.
-- Assumes nothing.
use native.Mathlib.Omega.{arith}
use Rattle.pages.specs.Places.{found, first_run}
use Rattle.pages.proofs.Walk.{Next, next, walk_end}
use Rattle.pages.proofs.Search.{Seeking, seek-from, seek-past, seek_hit}
use Rattle.pages.proofs.find.Pages.next_run.Goals as goal
use Rattle.pages.proofs.find.Pages.next_run.Goals.{In-loop-p}

walk : (c : In-loop-p) → Seeking c.args.self.now.words.now c.args.self.now.count (found (first_run c.args.page c.requires.1)) c.loop-p.p
walk c = let q = c.requires in c.loop-p.invariant q.0 q.1 q.2

segment : (c : In-loop-p) → Next (walk c).1
segment c = next (walk c).1 c.loop-p-test.true

pub loop-p-init : goal.loop-p-init
loop-p-init c = λ b l q. seek-from c.args.self.now.held q

pub size-len-requires : goal.size-len-requires
size-len-requires c = ((walk c).0, (segment c).x, (segment c).stands)

pub kind-requires : goal.kind-requires
kind-requires c = let k = segment (goal.at.kind-requires c).In-loop-p in (_, k.x, k.stands)

pub returns-in-Run : goal.returns-in-Run
returns-in-Run c =
    λ b l q. let i = c.loop-p.invariant b l q in
    let there = (next i.1 c.loop-p-test.true).stands in
    seek_hit i c.loop-p-test.true (c.size-len.ensures _ _ there) (c.kind.ensures _ _ there) c.in-Run.is

pub overflow_add-p : goal.overflow_add-p
overflow_add-p c =
    let k = segment (goal.at.overflow_add-p c).In-loop-p in
    let r = k.read in let z = c.size-len.ensures _ _ k.stands in omega arith

pub loop-p-smaller : goal.loop-p-smaller
loop-p-smaller c =
    let k = segment (goal.at.loop-p-smaller c).In-loop-p in
    let r = k.read in let z = c.size-len.ensures _ _ k.stands in omega (arith, r.ok.0)

pub loop-p-preserved : goal.loop-p-preserved
loop-p-preserved c =
    λ b l q. let i = c.loop-p.invariant b l q in
    let there = (next i.1 c.loop-p-test.true).stands in
    seek-past i c.loop-p-test.true (c.size-len.ensures _ _ there) (c.kind.ensures _ _ there) c.in-Direct.is

pub returns : goal.returns
returns c = λ b l q. walk_end (c.loop-p.invariant b l q).1 c.loop-p-test.false

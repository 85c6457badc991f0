-- `sweep_zone` meets its contract. Assumes nothing.
use mathlib.Core.Path.{refl}
use Rattle.reset.proofs.Steps.{zone-begun, walk_start, walk_here, walk-good, walk-few, walk-done, walk-skip}
use Rattle.reset.proofs.Steps.{walk-live, walk-stays, walk-low, walk-gone-good, walk-run, walk-gone}
use native.Mathlib.Omega.{arith}
use Rattle.reset.proofs.sweep_zone.Goals as goal

pub zone_touched-chunk-end-requires : goal.zone_touched-chunk-end-requires
zone_touched-chunk-end-requires c = let h = c.requires in (h.3.good.lent, zone-begun h.3)

pub loop-chunk-init : goal.loop-chunk-init
loop-chunk-init c = let h = c.requires in walk_start h.3 _ c.zone_touched-chunk-end.ensures

pub zone_owner-requires : goal.zone_owner-requires
zone_owner-requires c =
    let h = c.requires in let a = c.loop-chunk.invariant in ((walk-good h.3 a).lent, walk_here h.3 a)

pub loop-chunk-preserved-then-zone_owner-group : goal.loop-chunk-preserved-then-zone_owner-group
loop-chunk-preserved-then-zone_owner-group c =
    let h = c.requires in let a = c.loop-chunk.invariant in walk-skip h.3 a _ c.zone_owner.ensures c.loop-chunk-test.true (omega (arith, c.args.group.least, c.if-zone_owner-group.true))

pub chunk_back-requires : goal.chunk_back-requires
chunk_back-requires c =
    let h = c.requires in let a = c.loop-chunk.invariant in (walk-good h.3 a, walk-live h.3 a _ c.zone_owner.ensures c.loop-chunk-test.true (omega (arith, c.args.group.least, c.if-zone_owner-group.false)))

pub loop-chunk-preserved : goal.loop-chunk-preserved
loop-chunk-preserved c =
    let h = c.requires in
    let a = c.loop-chunk.invariant in
    let e = c.zone_owner.ensures in
    let d = c.chunk_back.ensures in
    walk-stays h.3 a _ e c.loop-chunk-test.true c.args.group.least c.if-zone_owner-group.false d.words_after c.chunk_back.result c.if-not-chunk_back.false d.remains

pub overflow_sub-start : goal.overflow_sub-start
overflow_sub-start c =
    let h = c.requires in
    walk-low h.3 c.loop-chunk.invariant _ c.zone_owner.ensures c.loop-chunk-test.true c.args.group.least c.if-zone_owner-group.false c.chunk_back.ensures.words_after c.chunk_back.result c.if-not-chunk_back.true
    c.chunk_back.ensures.remains

pub behind_run-requires : goal.behind_run-requires
behind_run-requires c =
    let h = c.requires in
    let a = c.loop-chunk.invariant in
    let e = c.zone_owner.ensures in
    let d = c.chunk_back.ensures in record {
      good = walk-gone-good h.3 a _ e c.loop-chunk-test.true c.args.group.least c.if-zone_owner-group.false d.words_after c.chunk_back.result c.if-not-chunk_back.true d.remains;
      placed = walk-run
          h.3 a _ e c.loop-chunk-test.true c.args.group.least c.if-zone_owner-group.false d.words_after c.chunk_back.result c.if-not-chunk_back.true d.remains;
    }

pub returns-then-not-chunk_back : goal.returns-then-not-chunk_back
returns-then-not-chunk_back c =
    let h = c.requires in
    let a = c.loop-chunk.invariant in
    let e = c.zone_owner.ensures in
    let d = c.chunk_back.ensures in
    walk-gone h.3 a _ e c.loop-chunk-test.true c.args.group.least c.if-zone_owner-group.false d.words_after c.chunk_back.result c.if-not-chunk_back.true d.remains _ _ _ c.behind_run.ensures

pub overflow_add-next : goal.overflow_add-next
overflow_add-next c =
    let h = c.requires in omega (arith, walk-few h.3 c.loop-chunk.invariant)

pub returns : goal.returns
returns c =
    let h = c.requires in (λ t x k q. walk-done h.3 c.loop-chunk.invariant c.args.group.least c.loop-chunk-test.false _ refl t x k q, omega arith)

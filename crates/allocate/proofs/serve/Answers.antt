-- `serve` meets its contract. Assumes nothing.
use Rattle.allocate.proofs.Served.{serve-page, serve-zone, serve-open, serve-inside, serve-answer, granted-words, granted-zone, stays, leaves}
use Rattle.steps.proofs.Lent.{lent}
use native.Mathlib.Omega.{arith}
use Rattle.allocate.proofs.serve.Goals as goal

pub zone_grant-chunk-requires : goal.zone_grant-chunk-requires
zone_grant-chunk-requires c = let h = c.requires in (h.asked.good.lent, serve-zone c.args.group h.asked h.lists_told, serve-open c.args.group h.asked h.lists_told)

pub overflow_mul-offset : goal.overflow_mul-offset
overflow_mul-offset c =
    let h = c.requires in let k = serve-page c.args.group h.asked h.lists_told in omega arith

pub overflow_mul-offset-2 : goal.overflow_mul-offset-2
overflow_mul-offset-2 c =
    let h = c.requires in let k = serve-inside c.args.group h.asked h.lists_told c.zone_grant-chunk.ensures.0 c.room.ensures in omega arith

pub overflow_add-offset : goal.overflow_add-offset
overflow_add-offset c =
    let h = c.requires in let k = serve-inside c.args.group h.asked h.lists_told c.zone_grant-chunk.ensures.0 c.room.ensures in let p = serve-page c.args.group h.asked h.lists_told in omega arith

pub zone_full-requires : goal.zone_full-requires
zone_full-requires c =
    let h = c.requires in let e = c.zone_grant-chunk.ensures.1 in (lent (granted-words c.args.group h.asked h.lists_told e), granted-zone c.args.group h.asked h.lists_told e)

pub returns-else-zone_full : goal.returns-else-zone_full
returns-else-zone_full c =
    let h = c.requires in
    let e = c.zone_grant-chunk.ensures in
    (serve-answer c.args.group h.asked h.lists_told e.0 c.room.ensures, stays c.args.group h.asked h.lists_told e.1 c.zone_full.ensures (c.if-zone_full.false))

pub list_without-requires : goal.list_without-requires
list_without-requires c =
    let h = c.requires in record {
      lent = lent (granted-words c.args.group h.asked h.lists_told c.zone_grant-chunk.ensures.1);
      in_range = (omega (arith, h.asked.class), serve-page c.args.group h.asked h.lists_told);
    }

pub returns-then-zone_full : goal.returns-then-zone_full
returns-then-zone_full c =
    let h = c.requires in
    let e = c.zone_grant-chunk.ensures in
    (serve-answer c.args.group h.asked h.lists_told e.0 c.room.ensures, leaves c.args.group h.asked h.lists_told e.1 c.zone_full.ensures (c.if-zone_full.true) c.list_without.ensures)

-- `renew` meets its contract. Assumes nothing.
use Rattle.allocate.proofs.Opened.{renew-page, renew-answer, behind-words, behind-zone, renewed-words, renewed-room, renewed}
use Rattle.steps.proofs.Lent.{lent}
use native.Mathlib.Omega.{arith}
use Rattle.allocate.proofs.renew.Goals as goal

pub zone_renew-requires : goal.zone_renew-requires
zone_renew-requires c =
    let h = c.requires in let e = c.spare_behind.ensures in (lent (behind-words c.args.group h.asked h.lists_told.0 h.lists_told.1 e), behind-zone c.args.group h.asked h.lists_told.0 h.lists_told.1 e, c.args.group.least)

pub list_front-requires : goal.list_front-requires
list_front-requires c =
    let h = c.requires in
    let e = c.spare_behind.ensures in
    let f = c.zone_renew.ensures in record {
      lent = lent (renewed-words c.args.group h.asked h.lists_told.0 h.lists_told.1 e f);
      in_range = (omega (arith, h.asked.class), renew-page c.args.group h.asked h.lists_told.0 h.lists_told.1, renewed-room c.args.group h.asked h.lists_told.0 h.lists_told.1 e f);
    }

pub overflow_mul-result : goal.overflow_mul-result
overflow_mul-result c =
    let h = c.requires in let k = renew-page c.args.group h.asked h.lists_told.0 h.lists_told.1 in omega arith

pub returns : goal.returns
returns c =
    let h = c.requires in (renew-answer c.args.group h.asked h.lists_told.0 h.lists_told.1, renewed c.args.group h.asked h.lists_told.0 h.lists_told.1 c.spare_behind.ensures c.zone_renew.ensures c.list_front.ensures)

-- `open_zone` meets its contract. Assumes nothing.
use Rattle.allocate.proofs.Opened.{open-good, open_free, open-page, open-answer, open-words, open-room, opened-words}
use Rattle.steps.proofs.Lent.{lent}
use native.Mathlib.Omega.{arith}
use Rattle.allocate.proofs.open_zone.Goals as goal

pub take_zone-requires : goal.take_zone-requires
take_zone-requires c =
    let h = c.requires in
    let k = c.in-Some.is in
    let s = c.find_pages-run.ensures in
    let g = open-good c.args.group h.asked h.lists_told.0 h.lists_told.1 k s in
    let r = open_free c.args.group h.asked h.lists_told.0 h.lists_told.1 k s in record {
      lent = (g.lent, g.pages);
      placed = (r.behind, r.there, r.enough, c.args.group.least);
    }

pub overflow_cast-start : goal.overflow_cast-start
overflow_cast-start c =
    let h = c.requires in
    let p = open-page c.args.group h.asked h.lists_told.0 h.lists_told.1 c.in-Some.is c.find_pages-run.ensures in omega arith

pub list_front-requires : goal.list_front-requires
list_front-requires c =
    let h = c.requires in
    let k = c.in-Some.is in
    let s = c.find_pages-run.ensures in
    let e = c.take_zone.ensures in record {
      lent = lent (open-words c.args.group h.asked h.lists_told.0 h.lists_told.1 k s e);
      in_range = (omega (arith, h.asked.class), open-page c.args.group h.asked h.lists_told.0 h.lists_told.1 k s, open-room c.args.group h.asked h.lists_told.0 h.lists_told.1 k s e);
    }

pub overflow_mul-result : goal.overflow_mul-result
overflow_mul-result c =
    let h = c.requires in
    let p = open-page c.args.group h.asked h.lists_told.0 h.lists_told.1 c.in-Some.is c.find_pages-run.ensures in omega arith

pub returns : goal.returns
returns c =
    let h = c.requires in
    let k = c.in-Some.is in
    let s = c.find_pages-run.ensures in
    (open-answer c.args.group h.asked h.lists_told.0 h.lists_told.1 k s, opened-words c.args.group h.asked h.lists_told.0 h.lists_told.1 k s c.take_zone.ensures c.list_front.ensures)

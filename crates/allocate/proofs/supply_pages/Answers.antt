-- `supply_pages` meets its contract. Assumes nothing.
use Rattle.allocate.proofs.Requests.{pages-good, pages-free, pages-page, pages-taken}
use native.Mathlib.Omega.{arith}
use Rattle.allocate.proofs.supply_pages.Goals as goal

pub take_direct-requires : goal.take_direct-requires
take_direct-requires c =
    let h = c.requires in
    let k = c.in-Some.is in
    let s = c.find_pages-run.ensures in
    let g = pages-good h.0 h.1 0 k s in
    let r = pages-free h.0 h.1 0 k s in record {
      lent = (g.lent, g.pages);
      placed = (r.behind, r.there, h.1, r.enough);
    }

pub overflow_cast-result : goal.overflow_cast-result
overflow_cast-result c =
    let h = c.requires in
    let p = pages-page h.0 h.1 0 c.in-Some.is c.find_pages-run.ensures in omega arith

pub overflow_mul-result : goal.overflow_mul-result
overflow_mul-result c =
    let h = c.requires in
    let p = pages-page h.0 h.1 0 c.in-Some.is c.find_pages-run.ensures in omega arith

pub returns : goal.returns
returns c =
    let h = c.requires in
    pages-taken h.0 h.1 _ c.in-Some.is c.find_pages-run.ensures c.take_direct.ensures

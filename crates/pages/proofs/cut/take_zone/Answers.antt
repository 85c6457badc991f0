-- `cut::take_zone` meets its contract. Assumes nothing.
use Rattle.model.specs.Numbers.{zone_pages}
use Rattle.pages.proofs.Middle.{run_inside, run-part, run-put}
use Rattle.model.specs.Arena.{zone}
use native.Mathlib.Omega.{arith}
use Rattle.pages.proofs.cut.take_zone.Goals as goal

pub overflow_mul-a : goal.overflow_mul-a
overflow_mul-a c = let h = c.requires in let r = run_inside h.holds h.placed.1 in omega arith

pub overflow_mul-e : goal.overflow_mul-e
overflow_mul-e c = let h = c.requires in let r = run_inside h.holds h.placed.1 in omega arith

pub overflow_add-e : goal.overflow_add-e
overflow_add-e c = let h = c.requires in let r = run_inside h.holds h.placed.1 in omega arith

pub offset_bounds-words-a : goal.offset_bounds-words-a
offset_bounds-words-a c = let h = c.requires in let r = run_inside h.holds h.placed.1 in omega arith

pub slice_bounds-cut_zone-end : goal.slice_bounds-cut_zone-end
slice_bounds-cut_zone-end c = let h = c.requires in let r = run_inside h.holds h.placed.1 in omega arith

pub cut_zone-requires : goal.cut_zone-requires
cut_zone-requires c =
    let h = c.requires in
    let r = run_inside h.holds h.placed.1 in
    (run-part h.holds h.placed.1, h.placed.2, omega arith, h.placed.3)

pub returns : goal.returns
returns c = let h = c.requires in run-put h.holds h.placed.1 zone_pages (zone _) _ c.cut_zone.ensures

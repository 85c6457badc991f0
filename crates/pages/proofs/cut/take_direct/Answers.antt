-- `cut::take_direct` meets its contract. Assumes nothing.
use Rattle.pages.proofs.Middle.{run_inside, run-part, run-put}
use Rattle.model.specs.Arena.{direct}
use native.Mathlib.Omega.{arith}
use Rattle.pages.proofs.cut.take_direct.Goals as goal

pub overflow_mul-a : goal.overflow_mul-a
overflow_mul-a c = let h = c.requires in let r = run_inside h.holds h.placed.1 in omega arith

pub overflow_mul-e : goal.overflow_mul-e
overflow_mul-e c = let h = c.requires in let r = run_inside h.holds h.placed.1 in omega arith

pub overflow_add-e : goal.overflow_add-e
overflow_add-e c = let h = c.requires in let r = run_inside h.holds h.placed.1 in omega arith

pub offset_bounds-words-a : goal.offset_bounds-words-a
offset_bounds-words-a c = let h = c.requires in let r = run_inside h.holds h.placed.1 in omega arith

pub slice_bounds-cut_direct-end : goal.slice_bounds-cut_direct-end
slice_bounds-cut_direct-end c = let h = c.requires in let r = run_inside h.holds h.placed.1 in omega arith

pub cut_direct-requires : goal.cut_direct-requires
cut_direct-requires c =
    let h = c.requires in
    let r = run_inside h.holds h.placed.1 in
    (run-part h.holds h.placed.1, omega (arith, h.placed.2, h.placed.3), omega (arith, h.placed.3), omega arith)

pub returns : goal.returns
returns c =
    let h = c.requires in run-put h.holds h.placed.1 _ (direct _ _) _ c.cut_direct.ensures

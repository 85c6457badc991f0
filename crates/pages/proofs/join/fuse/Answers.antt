-- `join::fuse` meets its contract. Assumes nothing.
use Rattle.pages.proofs.Fused.{fuse-long, fuse-part, rest_part, fuse-blank}
use native.Mathlib.Omega.{arith}
use Rattle.pages.proofs.join.fuse.Goals as goal

pub slice_bounds-erase-end : goal.slice_bounds-erase-end
slice_bounds-erase-end c = let h = c.requires in let r = fuse-long _ _ _ _ h.0 h.1 h.2 h.3 h.4 in omega arith

pub erase-requires : goal.erase-requires
erase-requires c = let h = c.requires in (h.0, omega (arith, h.1, h.2), fuse-part _ _ _ _ h.0 h.1 h.2 h.3 h.4)

pub erase_rest-requires : goal.erase_rest-requires
erase_rest-requires c =
    let h = c.requires in (c.args.after, rest_part _ _ _ _ h.0 h.1 h.2 h.3 h.4 _ c.erase.ensures)

pub put_run-requires : goal.put_run-requires
put_run-requires c =
    let h = c.requires in fuse-blank _ _ _ _ h.0 h.1 h.2 h.3 h.4 _ c.erase.ensures _ c.erase_rest.ensures

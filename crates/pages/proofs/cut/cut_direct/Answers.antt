-- `cut::cut_direct` meets its contract. Assumes nothing.
use Rattle.pages.proofs.Cuts.{whole_length, rest-zero, cut-made, low-blank}
use Rattle.pages.proofs.Laws.{length-segment}
use Rattle.model.specs.Arena.{run, direct}
use lib.ListN.{length}
use mathlib.Core.Path.{sym, ap, refl}
use native.Mathlib.Omega.{arith}
use Rattle.pages.proofs.cut.cut_direct.Goals as goal

pub slice_bounds-put_direct-end : goal.slice_bounds-put_direct-end
slice_bounds-put_direct-end c = let h = c.requires in omega (arith, ap length h.0, length-segment (run c.args.len) (omega arith), h.1, h.2, h.3)

pub slice_bounds-put_direct-end-2 : goal.slice_bounds-put_direct-end-2
slice_bounds-put_direct-end-2 c = let h = c.requires in sym (low-blank _ _ _ h.0 h.1 h.2 h.3).long

pub put_direct-requires : goal.put_direct-requires
put_direct-requires c = let h = c.requires in low-blank _ _ _ h.0 h.1 h.2 h.3

pub slice_bounds-put_rest-count : goal.slice_bounds-put_rest-count
slice_bounds-put_rest-count c =
    let h = c.requires in omega (arith, h.2, whole_length _ _ _ _ (direct _ _) h.0 h.1 h.2 h.3 refl c.put_direct.ensures)

pub slice_bounds-put_rest-start : goal.slice_bounds-put_rest-start
slice_bounds-put_rest-start c =
    let h = c.requires in omega (arith, h.2, whole_length _ _ _ _ (direct _ _) h.0 h.1 h.2 h.3 refl c.put_direct.ensures)

pub put_rest-requires : goal.put_rest-requires
put_rest-requires c =
    let h = c.requires in (rest-zero _ _ _ _ (direct _ _) h.0 h.1 h.2 h.3 refl c.put_direct.ensures, omega (arith, h.3))

pub returns : goal.returns
returns c =
    let h = c.requires in cut-made _ _ _ _ (direct _ _) h.0 h.1 h.2 h.3 refl c.put_direct.ensures _ c.put_rest.ensures

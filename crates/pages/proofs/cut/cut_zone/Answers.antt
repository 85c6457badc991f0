-- `cut::cut_zone` meets its contract. Assumes nothing.
use Rattle.model.specs.Numbers.{zone_pages}
use Rattle.model.specs.Zone.{new_zone}
use Rattle.pages.proofs.Cuts.{zone-made, whole_length, rest-zero, cut-made, low-blank}
use Rattle.pages.proofs.Laws.{length-segment}
use Rattle.model.specs.Arena.{run, zone}
use lib.ListN.{length}
use mathlib.Core.Path.{sym, ap, refl}
use native.Mathlib.Omega.{arith}
use Rattle.pages.proofs.cut.cut_zone.Goals as goal

pub slice_bounds-set_up-end : goal.slice_bounds-set_up-end
slice_bounds-set_up-end c = let h = c.requires in omega (arith, ap length h.0, length-segment (run c.args.len) (omega (arith, h.1)), h.1, h.2)

pub slice_bounds-set_up-end-2 : goal.slice_bounds-set_up-end-2
slice_bounds-set_up-end-2 c = let h = c.requires in sym (low-blank _ _ zone_pages h.0 (omega arith) h.1 h.2).long

pub set_up-requires : goal.set_up-requires
set_up-requires c = let h = c.requires in ((low-blank _ _ zone_pages h.0 (omega arith) h.1 h.2).long, h.3)

pub slice_bounds-put_rest-count : goal.slice_bounds-put_rest-count
slice_bounds-put_rest-count c =
    let h = c.requires in
    omega (arith, h.1, whole_length _ _ _ zone_pages (zone (new_zone c.args.class c.args.group)) h.0 (omega arith) h.1 h.2 refl (zone-made (new_zone c.args.class c.args.group) c.set_up.ensures))

pub slice_bounds-put_rest-start : goal.slice_bounds-put_rest-start
slice_bounds-put_rest-start c =
    let h = c.requires in
    omega (arith, h.1, whole_length _ _ _ zone_pages (zone (new_zone c.args.class c.args.group)) h.0 (omega arith) h.1 h.2 refl (zone-made (new_zone c.args.class c.args.group) c.set_up.ensures))

pub put_rest-requires : goal.put_rest-requires
put_rest-requires c =
    let h = c.requires in
    (rest-zero _ _ _ zone_pages (zone (new_zone c.args.class c.args.group)) h.0 (omega arith) h.1 h.2 refl (zone-made (new_zone c.args.class c.args.group) c.set_up.ensures), omega (arith, h.2))

pub returns : goal.returns
returns c =
    let h = c.requires in
    cut-made _ _ _ zone_pages (zone (new_zone c.args.class c.args.group)) h.0 (omega arith) h.1 h.2 refl (zone-made (new_zone c.args.class c.args.group) c.set_up.ensures) _
    c.put_rest.ensures

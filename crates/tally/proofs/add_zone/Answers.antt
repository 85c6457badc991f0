-- `add_zone` meets its contract. Assumes nothing.
use Prim.Native.Nat.{◌<◌}
use mathlib.Core.Path.{sym, subst}
use Rattle.model.specs.Numbers.{class_count}
use Rattle.zone.proofs.Encoded.{zone-valid}
use Rattle.tally.proofs.Handed.{handed-inside, handed-asks, handed-added, idle-added}
use Rattle.tally.proofs.add_zone.Goals as goal

pub returns-then-is_idle : goal.returns-then-is_idle
returns-then-is_idle c = idle-added _ c.args.part.now.valid c.is_idle.ensures c.if-is_idle.true c.requires.long

pub room-room-requires : goal.room-room-requires
room-room-requires c = subst (λ k. k < class_count) (sym c.class.ensures) (zone-valid _ c.args.part.now.valid).class

pub slice_bounds-add_slots-end : goal.slice_bounds-add_slots-end
slice_bounds-add_slots-end c = handed-inside _ c.args.part.now.valid c.touched.ensures

pub add_slots-requires : goal.add_slots-requires
add_slots-requires c =
    let h = handed-asks _ c.args.part.now.valid c.touched.ensures c.class.ensures c.room-room.ensures in (h.0, h.1, h.2, c.requires)

pub returns : goal.returns
returns c = handed-added _ c.args.part.now.valid c.touched.ensures c.class.ensures c.room-room.ensures c.add_slots.ensures

-- `find_chunk` meets its contract. Assumes nothing.
use Rattle.metadata.specs.Decoding.{decode}
use native.Mathlib.Omega.{arith}
use mathlib.Core.Path.{ap}
use Rattle.model.proofs.Sizes.{room-pos}
use Rattle.steps.proofs.Zones.{zone-stands, zone-is, zone-valid}
use Rattle.blocks.proofs.Standing.{found-off, found-dead, found-live}
use Rattle.blocks.proofs.find_chunk.Goals as goal

pub zone_class-class-requires : goal.zone_class-class-requires
zone_class-class-requires c = let h = c.requires in (h.good.lent, zone-stands (decode c.args.words.now) _ _ h.inside_zone.0.0 h.inside_zone.0.1)

pub room-room-requires : goal.room-room-requires
room-room-requires c =
    let h = c.requires in
    let s = decode c.args.words.now in
    omega (arith, c.zone_class-class.ensures, ap (λ y. y.class) (zone-is s _ _ h.inside_zone.0.0 h.inside_zone.0.1), (zone-valid s _ _ h.inside_zone.0.0 h.inside_zone.0.1 h.good.valid).class)

pub returns-then-away-room-ne0 : goal.returns-then-away-room-ne0
returns-then-away-room-ne0 c =
    let h = c.requires in found-off _ h.good.valid h.inside_zone.0.0 h.inside_zone.0.1 _ h.inside_zone.1 _ _ c.zone_class-class.ensures c.room-room.ensures (omega (arith, c.if-away-room-ne0.true))

pub nonzero_rem-away : goal.nonzero_rem-away
nonzero_rem-away c = omega (arith, c.room-room.ensures, room-pos c.zone_class-class.result)

pub nonzero_div-chunk : goal.nonzero_div-chunk
nonzero_div-chunk c = omega (arith, c.room-room.ensures, room-pos c.zone_class-class.result)

pub zone_owner-group-requires : goal.zone_owner-group-requires
zone_owner-group-requires c =
    let h = c.requires in (h.good.lent, zone-stands (decode c.args.words.now) _ _ h.inside_zone.0.0 h.inside_zone.0.1)

pub returns-then-group-eq0 : goal.returns-then-group-eq0
returns-then-group-eq0 c =
    let h = c.requires in
    found-dead _ h.good.valid h.inside_zone.0.0 h.inside_zone.0.1 _ h.inside_zone.1 _ _ c.zone_class-class.ensures c.room-room.ensures _ c.zone_owner-group.ensures
    (omega (arith, c.if-group-eq0.true))

pub returns : goal.returns
returns c =
    let h = c.requires in
    found-live _ h.good.valid h.inside_zone.0.0 h.inside_zone.0.1 _ h.inside_zone.1 _ _ c.zone_class-class.ensures c.room-room.ensures _ c.zone_owner-group.ensures
    c.if-away-room-ne0.false c.if-group-eq0.false

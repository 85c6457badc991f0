-- `room_for` meets its contract. Assumes nothing.
use mathlib.Core.Path.{◌∙◌}
use native.Mathlib.Omega.{arith}
use Rattle.classes.proofs.Rule.{class_for-chunk}
use Rattle.model.proofs.Sizes.{classed}
use Rattle.allocate.proofs.room_for.Goals as goal

pub room-requires : goal.room-requires
room-requires c =
    let h = c.requires in
    let t = c.if-size-ge-LARGE_SIZE.false in omega (arith, h.2 ∙ class_for-chunk _ h.0 t, (classed c.args.size h.0 t).below)

-- `sizes::chunk_count` meets its contract: no room is zero, and none is below 8. Assumes nothing.
use Prim.Native.Nat.{◌/◌}
use mathlib.Core.Path.{ap}
use native.Mathlib.Omega.{arith}
use Rattle.model.proofs.Sizes.{room-pos}
use Rattle.model.specs.Numbers.{zone_bytes}
use Rattle.model.specs.Sizes.{chunks}
use Rattle.zone.proofs.Rooms.{chunks-most}
use Rattle.zone.proofs.sizes.chunk_count.Goals as goal

pub nonzero_div-result : goal.nonzero_div-result
nonzero_div-result c = omega (arith, c.room.ensures, room-pos c.args.class)

pub returns : goal.returns
unfolding chunks
returns c = let e = ap (λ n. zone_bytes / n) c.room.ensures in (e, omega (arith, e, chunks-most c.args.class))

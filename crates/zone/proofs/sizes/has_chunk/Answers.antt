-- `sizes::has_chunk` meets its contract: a zone's chunks are those that end inside it. Assumes nothing.
use Prim.Native.Nat.{◌+◌, ◌*◌}
use mathlib.Core.Path.{ap, ◌∙◌}
use native.Mathlib.Omega.{arith}
use lib.Dec.{leb}
use Rattle.model.specs.Numbers.{zone_bytes}
use Rattle.zone.proofs.Rooms.{chunk-fits, chunk-ends}
use Rattle.zone.proofs.sizes.has_chunk.Goals as goal

pub overflow_mul-result : goal.overflow_mul-result
overflow_mul-result c = rw c.room.ensures (omega (arith, chunk-ends c.args.class c.args.chunk c.requires.0 c.requires.1))

pub returns : goal.returns
returns c = let a = c.args in ap (λ r. leb ((a.chunk + 1) * r) zone_bytes) c.room.ensures ∙ chunk-fits a.class a.chunk

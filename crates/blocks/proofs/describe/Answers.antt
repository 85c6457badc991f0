-- `describe` meets its contract. Assumes nothing.
use native.Mathlib.Omega.{arith}
use Rattle.blocks.proofs.Spots.{whole-few, class-few}
use Rattle.blocks.proofs.describe.Goals as goal

pub overflow_cast-result : goal.overflow_cast-result
overflow_cast-result c = omega (arith, whole-few c.requires.valid _ c.in-Some-Whole.ensures c.in-Some-Whole.field-0-is)

pub overflow_mul-result : goal.overflow_mul-result
overflow_mul-result c = omega (arith, whole-few c.requires.valid _ c.in-Some-Whole.ensures c.in-Some-Whole.field-0-is)

pub room-requires : goal.room-requires
room-requires c = class-few c.requires.valid _ c.in-Some-Chunk.ensures c.in-Some-Chunk.field-0-is

-- `rows::class_of_size` meets its contract: each arm is a row of the table of sizes. Assumes nothing.
use Rattle.std.proofs.Common.{ℕ, ◌<◌, arith}
use Rattle.classes.proofs.Rule.{Rows, rows}
use Rattle.model.specs.Numbers.{large_size}
use Rattle.model.specs.Sizes.{class_of}
use Rattle.measure.proofs.rows.class_of_size.Goals as goal

-- The class in each row, of a size that takes a chunk.
of : (n : ℕ) → (0 < n) × (n < large_size) → Rows n (class_of n)
of n h = rows n h.0 (omega arith)

pub returns-in-0-to-127 : goal.returns-in-0-to-127
returns-in-0-to-127 c = omega (arith, c.div_ceil.ensures, (of c.args.size c.requires).by8 (omega arith))

pub returns-in-128-to-255 : goal.returns-in-128-to-255
returns-in-128-to-255 c = omega (arith, c.div_ceil-in-128-to-255.ensures, (of c.args.size c.requires).by16 (omega arith) (omega arith))

pub returns-in-256-to-511 : goal.returns-in-256-to-511
returns-in-256-to-511 c = omega (arith, c.div_ceil-in-256-to-511.ensures, (of c.args.size c.requires).by32 (omega arith) (omega arith))

pub returns-in-512-to-1023 : goal.returns-in-512-to-1023
returns-in-512-to-1023 c = omega (arith, c.div_ceil-in-512-to-1023.ensures, (of c.args.size c.requires).by64 (omega arith) (omega arith))

pub returns-in-1024-to-2047 : goal.returns-in-1024-to-2047
returns-in-1024-to-2047 c = omega (arith, c.div_ceil-in-1024-to-2047.ensures, (of c.args.size c.requires).by128 (omega arith) (omega arith))

pub returns-in-2048-to-4095 : goal.returns-in-2048-to-4095
returns-in-2048-to-4095 c = omega (arith, c.div_ceil-in-2048-to-4095.ensures, (of c.args.size c.requires).by256 (omega arith) (omega arith))

pub returns-in_default : goal.returns-in_default
returns-in_default c = omega (arith, c.div_ceil-in_default.ensures, (of c.args.size c.requires).by512 (omega arith))

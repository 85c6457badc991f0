-- `Part::class` meets its contract. Assumes nothing.
use native.Mathlib.Omega.{arith}
use Rattle.zone.proofs.Figures.{zone-size, class-read}
use Rattle.zone.proofs.Part.class.Goals as goal

pub bounds-self-1 : goal.bounds-self-1
bounds-self-1 c = omega (arith, zone-size _ c.args.self.valid)

pub returns : goal.returns
returns c = class-read _ c.args.self.valid

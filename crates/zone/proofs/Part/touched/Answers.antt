-- `Part::touched` meets its contract. Assumes nothing.
use native.Mathlib.Omega.{arith}
use Rattle.zone.proofs.Figures.{zone-size, touched-read}
use Rattle.zone.proofs.Part.touched.Goals as goal

pub bounds-self-2 : goal.bounds-self-2
bounds-self-2 c = omega (arith, zone-size _ c.args.self.valid)

pub returns : goal.returns
returns c = touched-read _ c.args.self.valid

-- `Part::live_count` meets its contract: the chain holds all chunks handed out that are not live. Assumes nothing.
use native.Mathlib.Omega.{arith}
use Rattle.zone.proofs.Figures.{zone-size, touched-read, chain-within, live-read}
use Rattle.zone.proofs.Part.live_count.Goals as goal

pub bounds-self-3 : goal.bounds-self-3
bounds-self-3 c = omega (arith, zone-size _ c.args.self.valid)

pub overflow_sub-result : goal.overflow_sub-result
overflow_sub-result c = rw (c.touched.ensures, ← touched-read _ c.args.self.valid) (chain-within _ c.args.self.valid)

pub returns : goal.returns
returns c = rw (c.touched.ensures, ← touched-read _ c.args.self.valid) (live-read _ c.args.self.valid)

-- `Part::is_idle` meets its contract. Assumes nothing.
use Rattle.zone.proofs.Figures.{idle-read}
use Rattle.zone.proofs.Part.is_idle.Goals as goal

pub returns : goal.returns
returns c = rw c.live_count.ensures (idle-read _ c.args.self.valid)

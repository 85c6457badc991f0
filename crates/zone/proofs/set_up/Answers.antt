-- `set_up` meets its contract: cleared words and five stores are the new zone's encoding. Assumes nothing.
use Rattle.zone.proofs.Figures.{set-up-encoding}
use Rattle.zone.proofs.set_up.Goals as goal

pub returns : goal.returns
returns c =
    set-up-encoding c.args.part.now _ _ _ c.requires.0 c.requires.1 c.clear.ensures

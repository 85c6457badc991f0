-- `clear` meets its contract: a clone of 0 is 0. Assumes nothing.
use Rattle.std.proofs.Common.{rules}
use Rattle.lemmas.specs.Zeros.{zeros}
use Rattle.scan.proofs.clear.Goals as goal

pub returns : goal.returns
unfolding zeros
returns c = search rules

-- `set_up` meets its contract. Assumes nothing.
use Rattle.model.specs.Numbers.{header_words}
use Rattle.metadata.proofs.Fresh.{fresh-set-up}
use lib.Seq.{length-take-le}
use native.Mathlib.Omega.{arith}
use mathlib.Core.Path.{sym}
use Rattle.metadata.proofs.set_up.Goals as goal

pub slice_bounds-set_up-end-2 : goal.slice_bounds-set_up-end-2
slice_bounds-set_up-end-2 c = sym (length-take-le header_words c.args.words.now (omega arith))

pub set_up-requires : goal.set_up-requires
set_up-requires c = length-take-le header_words c.args.words.now (omega arith)

pub returns : goal.returns
returns c =
    fresh-set-up c.args.pages c.args.words.now _ _ c.set_up.ensures c.set_up-2.ensures

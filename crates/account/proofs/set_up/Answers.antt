-- `set_up` meets its contract. Assumes nothing.
use native.Mathlib.Omega.{arith}
use mathlib.Core.Path.{sym}
use lib.Seq.{length-take-le}
use Rattle.model.specs.Numbers.{figure_words}
use Rattle.account.proofs.Checked.{fresh-set-up}
use Rattle.account.proofs.set_up.Goals as goal

pub slice_bounds-set_up-end-2 : goal.slice_bounds-set_up-end-2
slice_bounds-set_up-end-2 c = sym (length-take-le figure_words c.args.words.now (omega (arith, c.requires.0)))

pub set_up-requires : goal.set_up-requires
set_up-requires c = length-take-le figure_words c.args.words.now (omega (arith, c.requires.0))

pub returns : goal.returns
returns c =
    fresh-set-up c.args.pages c.args.words.now _ _ c.set_up.ensures c.set_up-2.ensures

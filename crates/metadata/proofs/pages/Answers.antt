-- `pages` meets its contract. Assumes nothing.
use Rattle.model.specs.Numbers.{header_words}
use Rattle.metadata.proofs.States.{state-read, state-pages}
use lib.Seq.{length-take-le}
use native.Mathlib.Omega.{arith}
use mathlib.Core.Path.{sym, ◌∙◌}
use Rattle.metadata.proofs.pages.Goals as goal

pub slice_bounds-lists-end : goal.slice_bounds-lists-end
slice_bounds-lists-end c = sym (length-take-le header_words c.args.words.now (omega (arith, (state-read _ c.requires).long)))

pub invariant_of-lists : goal.invariant_of-lists
invariant_of-lists c = record { legal = (state-read _ c.requires).header }

pub returns : goal.returns
returns c = c.pages.ensures ∙ sym (state-pages _ c.requires)

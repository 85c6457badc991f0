-- `cut::set_up` meets its contract. Assumes nothing.
use Rattle.lemmas.specs.Zeros.{zeros}
use mathlib.Core.Path.{◌∙◌, sym, ap}
use Rattle.pages.proofs.Laws.{encoding-one}
use Rattle.pages.proofs.Words.{zero-blank}
use Rattle.pages.proofs.cut.set_up.Goals as goal

pub put_run-requires : goal.put_run-requires
put_run-requires c =
    zero-blank _ 2 _ (c.clear.ensures ∙ ap zeros c.requires.0) c.requires.1 c.requires.2

pub returns : goal.returns
returns c = c.put_run.ensures ∙ sym (encoding-one _)

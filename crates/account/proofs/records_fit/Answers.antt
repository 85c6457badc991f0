-- `records_fit` meets its contract. Assumes nothing.
use Rattle.std.proofs.Common.{refl, ◌∙◌, rules}
use Rattle.std.proofs.lemmas.Iterator.{YieldsList-from_range}
use Rattle.std.proofs.lemmas.Iterator.Search.{all_from_yields_List}
use Rattle.model.specs.Numbers.{most_group}
use Rattle.account.specs.Decoding.{tally_fits}
use Rattle.account.proofs.Checked.{tested-in-order}
use Rattle.account.proofs.records_fit.Goals as goal

pub returns : goal.returns
returns c =
    let test = tally_fits c.args.figures.now c.args.tally.now c.args.most in
    all_from_yields_List test _ _ _ c.all.ensures.ran (YieldsList-from_range 0 most_group most_group refl refl) (λ x b q k. search rules)
    ∙ tested-in-order test most_group

-- `all_pages` meets its contract. Assumes nothing.
use Rattle.steps.proofs.Body.{body-holds, segments-body}
use Rattle.steps.proofs.all_pages.Goals as goal

pub invariant_of-result : goal.invariant_of-result
invariant_of-result c = record { held = body-holds c.requires.0 _ c.requires.1 }

pub returns : goal.returns
returns c = segments-body c.requires.0

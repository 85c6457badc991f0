-- `pages` meets its contract. Assumes nothing.
use native.Mathlib.Omega.{arith}
use mathlib.Core.Path.{◌∙◌, ap}
use Rattle.metadata.specs.Decoding.{is_state}
use Rattle.account.proofs.Accounts.{passed, has-figures}
use Rattle.account.proofs.Checked.{behind-is, pages-behind}
use Rattle.account.proofs.pages.Goals as goal

pub slice_bounds-pages-count : goal.slice_bounds-pages-count
slice_bounds-pages-count c = omega (arith, has-figures _ c.requires)

pub slice_bounds-pages-start : goal.slice_bounds-pages-start
slice_bounds-pages-start c = omega (arith, has-figures _ c.requires)

pub pages-requires : goal.pages-requires
pages-requires c = ap is_state (behind-is c.args.words.now) ∙ (passed c.args.words.now c.requires).0

pub returns : goal.returns
returns c = c.pages.ensures ∙ pages-behind c.args.words.now

-- `arena_pages` meets its contract. Assumes nothing.
use mathlib.Core.Path.{◌≡◌, sym, ◌∙◌}
use mathlib.Core.Bool.{true, false}
use Rattle.account.specs.Decoding.{is_account}
use Rattle.calls.proofs.Acting.{never_true, never-false, pages-none, pages-some}
use Rattle.calls.proofs.arena_pages.Goals as goal

-- `search`, with `never_true`, takes a test that cannot come out so as well: so a check that always fails is refused where it fails, and not
-- at the return that never comes.
pub returns-then-not-check : goal.returns-then-not-check
returns-then-not-check c =
    let t = sym c.check.ensures ∙ c.if-not-check.true in
    let fails : is_account c.args.meta.now ≡ false = search never-false in
    pages-none _ fails

pub returns : goal.returns
returns c =
    let t = sym c.check.ensures ∙ c.if-not-check.false in
    let passes : is_account c.args.meta.now ≡ true = search never_true in
    pages-some _ passes _ c.pages.ensures

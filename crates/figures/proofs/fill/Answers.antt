-- `fill` meets its contract. Assumes nothing.
use mathlib.Core.Path.{◌≡◌, ap, ◌∙◌}
use native.Mathlib.Omega.{arith}
use borrow.Author.Tests.{ne_eqb}
use Rattle.model.specs.Numbers.{most_group}
use Rattle.figures.proofs.Stores.{begun, begun-none, begun_more, begun_all, filled-other}
use Rattle.figures.proofs.fill.Goals as goal

pub returns-then-list-ne-GROUPS-clause-list_after : goal.returns-then-list-ne-GROUPS-clause-list_after
returns-then-list-ne-GROUPS-clause-list_after c = filled-other _ _ (ne_eqb _ _ c.if-list-ne-GROUPS.true)

pub loop-i-init : goal.loop-i-init
loop-i-init c = begun-none _ _

pub loop-i-preserved : goal.loop-i-preserved
loop-i-preserved c = let l = c.loop-i in cc (begun_more c.args.words.now l.i c.args.list.now)

pub returns-clause-list_after : goal.returns-clause-list_after
returns-clause-list_after c =
    let all : c.loop-i.i ≡ most_group = omega arith in
    c.loop-i.invariant ∙ ap (λ k. begun c.args.words.now 0 k c.args.list.now) all ∙ begun_all _ _ c.if-list-ne-GROUPS.false

-- `count_rows` meets its contract. The loop's invariant: the rows so far and those of the segments left are all rows. Assumes nothing.
use Rattle.listing.proofs.Walks.{count-start, count_next, count-here, count_none, count-end}
use Rattle.pages.specs.contracts.Kind.{the_type}
use denote.Enum.Bare.{same_true, same_false}
use mathlib.Core.Path.{sym, ◌∙◌}
use native.Mathlib.Omega.{arith}
use Rattle.listing.proofs.count_rows.Goals as goal
use Rattle.listing.proofs.count_rows.Goals.{then-eq, else-eq}

pub loop-p-init : goal.loop-p-init
loop-p-init c = count-start c.args.pages.now.held

pub kind-requires : goal.kind-requires
kind-requires c = let k = count_next c.loop-p.invariant c.loop-p-test.true in (c.loop-p.invariant.b, k.x, k.stands)

pub size-p-requires : goal.size-p-requires
size-p-requires c = let k = count_next c.loop-p.invariant c.loop-p-test.true in (c.loop-p.invariant.b, k.x, k.stands)

pub overflow_add-p : goal.overflow_add-p
overflow_add-p c =
    let k = count_next c.loop-p.invariant c.loop-p-test.true in omega (arith, c.size-p.ensures _ _ k.stands, k.read.inside, k.read.few)

pub loop-p-smaller : goal.loop-p-smaller
loop-p-smaller c =
    let k = count_next c.loop-p.invariant c.loop-p-test.true in omega (arith, c.size-p.ensures _ _ k.stands, k.read.inside, k.read.ok.0)

pub loop-p-preserved : goal.loop-p-preserved
loop-p-preserved c =
    let k = count_next c.loop-p.invariant c.loop-p-test.true in
    let told = c.kind.ensures _ _ k.stands in
    let size = c.size-p.ensures _ _ k.stands in
    elim c.if-eq.branch [
      | then-eq w ↦ rw w.rows-is (count-here c.loop-p.invariant c.loop-p-test.true (sym told ∙ same_true the_type tt _ _ (sym w.if-eq.ensures)) _ size)
      | else-eq w ↦ rw w.rows-is (count_none c.loop-p.invariant c.loop-p-test.true (λ e. same_false the_type _ _ (sym w.if-eq.ensures) (told ∙ e)) _ size)
    ]

pub returns : goal.returns
returns c = count-end c.loop-p.invariant c.loop-p-test.false

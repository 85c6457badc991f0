-- `find::Pages::find_run` meets its contract: run by run, up to one that is long enough. Assumes nothing.
use mathlib.Core.Path.{◌≡◌}
use native.Mathlib.Omega.{arith}
use Rattle.pages.specs.Places.{found, first_run}
use Rattle.pages.proofs.Search.{search-start, search-none, run_inside, search-hit, search-past}
use Rattle.pages.proofs.find.Pages.find_run.Goals as goal
use Rattle.pages.proofs.find.Pages.find_run.Goals.{After-next_run}

next-is : (c : After-next_run) → c.next_run.result ≡ found (first_run c.loop-run.p c.loop-run.invariant.walk.left)
next-is c = c.next_run.ensures _ _ c.loop-run.invariant.walk.passed

pub loop-run-init : goal.loop-run-init
loop-run-init c = search-start _ _ _ c.args.self.now.held

pub overflow_add-looked : goal.overflow_add-looked
overflow_add-looked c = let i = c.loop-run.invariant in let r = run_inside i (next-is (goal.at.overflow_add-looked c).After-next_run) c.in-Some.is in omega (arith, i.few)

pub overflow_add-p : goal.overflow_add-p
overflow_add-p c = let r = run_inside c.loop-run.invariant (next-is (goal.at.overflow_add-p c).After-next_run) c.in-Some.is in omega arith

pub loop-run-smaller : goal.loop-run-smaller
loop-run-smaller c = let r = run_inside c.loop-run.invariant (next-is (goal.at.loop-run-smaller c).After-next_run) c.in-Some.is in omega arith

pub loop-run-preserved : goal.loop-run-preserved
loop-run-preserved c = search-past c.loop-run.invariant (next-is (goal.at.loop-run-preserved c).After-next_run) c.in-Some.is c.if-need-run.false

pub returns-then-need-run : goal.returns-then-need-run
returns-then-need-run c = search-hit c.loop-run.invariant (next-is (goal.at.returns-then-need-run c).After-next_run) c.in-Some.is c.if-need-run.true

pub returns-in_default : goal.returns-in_default
returns-in_default c = search-none c.loop-run.invariant (next-is (goal.at.returns-in_default c).After-next_run) c.in_default.is

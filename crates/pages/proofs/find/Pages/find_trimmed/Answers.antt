-- `find::Pages::find_trimmed` meets its contract. Assumes nothing.
use mathlib.Core.Path.{◌≡◌, sym, ◌∙◌}
use native.Mathlib.Omega.{arith}
use Rattle.model.specs.Arena.{pages}
use Rattle.pages.specs.Places.{is_clear}
use Rattle.pages.proofs.Walk.{Next}
use Rattle.pages.proofs.Clear.{trim_start, here, trim-clear, trim-hit, trim-past, trim-inside, trim_end}
use Rattle.pages.proofs.find.Pages.find_trimmed.Goals as goal
use Rattle.pages.proofs.find.Pages.find_trimmed.Goals.{After-is_clear}

-- The segment at the page, its pages, and whether they would be free.
abbrev segment : (c : After-is_clear) → Next c.loop-p.invariant.walk
segment c = here c.loop-p.invariant c.loop-p-test.true

size_is : (c : After-is_clear) → c.size-len.result ≡ pages (segment c).x
size_is c = c.size-len.ensures _ _ (segment c).stands

clear-is : (c : After-is_clear) → c.is_clear.result ≡ is_clear (segment c).x
clear-is c = c.is_clear.ensures _ _ (segment c).stands

pub loop-p-init : goal.loop-p-init
loop-p-init c = trim_start c.args.self.now.held

pub size-len-requires : goal.size-len-requires
size-len-requires c = let k = here c.loop-p.invariant c.loop-p-test.true in (_, k.x, k.stands)

pub is_clear-requires : goal.is_clear-requires
is_clear-requires c = let k = here c.loop-p.invariant c.loop-p-test.true in (_, k.x, k.stands)

pub overflow_add-free : goal.overflow_add-free
overflow_add-free c = let r = (segment (goal.at.overflow_add-free c).After-is_clear).read in omega (arith, size_is (goal.at.overflow_add-free c).After-is_clear, c.loop-p.invariant.inside)

pub overflow_add-p : goal.overflow_add-p
overflow_add-p c = let r = (segment (goal.at.overflow_add-p c).After-is_clear).read in omega (arith, size_is (goal.at.overflow_add-p c).After-is_clear)

pub loop-p-smaller-then-is_clear : goal.loop-p-smaller-then-is_clear
loop-p-smaller-then-is_clear c = let r = (segment (goal.at.loop-p-smaller-then-is_clear c).After-is_clear).read in omega (arith, size_is (goal.at.loop-p-smaller-then-is_clear c).After-is_clear, r.ok.0)

pub loop-p-preserved-then-is_clear : goal.loop-p-preserved-then-is_clear
loop-p-preserved-then-is_clear c = trim-clear c.loop-p.invariant c.loop-p-test.true _ (size_is (goal.at.loop-p-preserved-then-is_clear c).After-is_clear) (sym (clear-is (goal.at.loop-p-preserved-then-is_clear c).After-is_clear) ∙ c.if-is_clear.true)

pub returns-then-is_some : goal.returns-then-is_some
returns-then-is_some c =
    trim-hit c.loop-p.invariant c.loop-p-test.true _ (size_is (goal.at.returns-then-is_some c).After-is_clear) (sym (clear-is (goal.at.returns-then-is_some c).After-is_clear) ∙ c.if-is_clear.false) c.look_at-choice.ensures (sym c.is_some.ensures ∙ c.if-is_some.true)

pub overflow_add-p-in-loop-p : goal.overflow_add-p-in-loop-p
overflow_add-p-in-loop-p c =
    let r = (segment (goal.at.overflow_add-p-in-loop-p c).After-is_clear).read in omega (arith, size_is (goal.at.overflow_add-p-in-loop-p c).After-is_clear)

pub loop-p-smaller : goal.loop-p-smaller
loop-p-smaller c =
    let r = (segment (goal.at.loop-p-smaller c).After-is_clear).read in omega (arith, size_is (goal.at.loop-p-smaller c).After-is_clear, r.ok.0)

pub loop-p-preserved : goal.loop-p-preserved
loop-p-preserved c =
    trim-past c.loop-p.invariant c.loop-p-test.true _ (size_is (goal.at.loop-p-preserved c).After-is_clear) (sym (clear-is (goal.at.loop-p-preserved c).After-is_clear) ∙ c.if-is_clear.false) c.look_at-choice.ensures (sym c.is_some.ensures ∙ c.if-is_some.false)

pub look_at-requires : goal.look_at-requires
look_at-requires c = trim-inside c.loop-p.invariant

pub returns : goal.returns
returns c = c.look_at.ensures ∙ trim_end c.loop-p.invariant c.loop-p-test.false

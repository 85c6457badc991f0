-- `find::Pages::size` meets its contract. Assumes nothing.
use mathlib.Core.Path.{sym, ◌∙◌}
use native.Mathlib.Omega.{arith}
use Rattle.pages.proofs.Laws.{zone-size, no_zone}
use Rattle.pages.proofs.Walk.{read_at}
use Rattle.pages.proofs.find.Pages.size.Goals as goal

pub overflow_mul-result : goal.overflow_mul-result
overflow_mul-result c = let r = read_at c.args.self.now.held c.requires.2 in omega arith

pub overflow_add-result : goal.overflow_add-result
overflow_add-result c = let r = read_at c.args.self.now.held c.requires.2 in omega arith

pub offset_bounds-self-p : goal.offset_bounds-self-p
offset_bounds-self-p c = let r = read_at c.args.self.now.held c.requires.2 in omega arith

pub bounds-self-p : goal.bounds-self-p
bounds-self-p c = let r = read_at c.args.self.now.held c.requires.2 in omega (arith, r.ok.0)

pub returns-in-Zone : goal.returns-in-Zone
returns-in-Zone c = λ b x s. sym (zone-size x (sym (c.kind.ensures _ _ s) ∙ c.in-Zone.is))

pub returns-in-Run : goal.returns-in-Run
returns-in-Run c = λ b x s. (read_at c.args.self.now.held s).size (no_zone x (c.kind.ensures _ _ s) c.in-Run.is)

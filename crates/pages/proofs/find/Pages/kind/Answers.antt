-- `find::Pages::kind` meets its contract. Assumes nothing.
use mathlib.Core.Path.{◌∙◌, ap}
use native.Mathlib.Omega.{arith}
use Rattle.pages.specs.Places.{kind_by}
use Rattle.pages.proofs.Laws.{kind-told}
use Rattle.pages.proofs.Walk.{read_at}
use Rattle.pages.proofs.find.Pages.kind.Goals as goal

pub overflow_mul-p : goal.overflow_mul-p
overflow_mul-p c = let r = read_at c.args.self.now.held c.requires.2 in omega arith

pub offset_bounds-self-p : goal.offset_bounds-self-p
offset_bounds-self-p c = let r = read_at c.args.self.now.held c.requires.2 in omega arith

pub bounds-self-p : goal.bounds-self-p
bounds-self-p c = let r = read_at c.args.self.now.held c.requires.2 in omega (arith, r.ok.0)

pub returns : goal.returns
returns c = λ b x s. c.told_by.ensures ∙ ap kind_by (read_at c.args.self.now.held s).kind ∙ kind-told x

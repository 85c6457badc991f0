-- `find::Pages::run_behind` meets its contract. Assumes nothing.
use mathlib.Core.Path.{◌∙◌}
use native.Mathlib.Omega.{arith}
use Rattle.pages.proofs.Search.{run-pages}
use Rattle.pages.proofs.Walk.{read_at, none-behind, stands-behind as behind}
use Rattle.pages.proofs.find.Pages.run_behind.Goals as goal

pub overflow_add-next : goal.overflow_add-next
overflow_add-next c = let r = read_at c.args.self.now.held c.requires.2 in omega (arith, c.requires.3)

pub returns-then-self-next : goal.returns-then-self-next
returns-then-self-next c = λ b x s e. none-behind c.args.self.now.held s (omega (arith, e, c.if-self-next.true))

pub kind-requires : goal.kind-requires
kind-requires c = let y = behind c.args.self.now.held c.requires.2 c.requires.3 c.if-self-next.false in (_, y.0, y.1)

pub size-requires : goal.size-requires
size-requires c = let y = behind c.args.self.now.held c.requires.2 c.requires.3 c.if-self-next.false in (_, y.0, y.1)

pub returns : goal.returns
returns c = λ b x s e. let y = behind c.args.self.now.held s e c.if-self-next.false in c.run_len.ensures ∙ run-pages y.0 _ _ (c.kind.ensures _ _ y.1) (c.size.ensures _ _ y.1) ∙ y.2

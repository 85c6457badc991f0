-- `find::Pages::group` meets its contract. Assumes nothing.
use native.Mathlib.Omega.{arith}
use Rattle.pages.proofs.Spots.{group-read}
use Rattle.pages.proofs.Walk.{read_at}
use Rattle.pages.proofs.find.Pages.group.Goals as goal

pub overflow_mul-result : goal.overflow_mul-result
overflow_mul-result c = let r = read_at c.args.self.now.held c.requires.3 in omega arith

pub overflow_add-result : goal.overflow_add-result
overflow_add-result c = let r = read_at c.args.self.now.held c.requires.3 in omega arith

pub offset_bounds-self-p : goal.offset_bounds-self-p
offset_bounds-self-p c = let r = read_at c.args.self.now.held c.requires.3 in omega arith

pub bounds-self-p : goal.bounds-self-p
bounds-self-p c = let r = read_at c.args.self.now.held c.requires.3 in omega (arith, r.ok.0)

pub returns : goal.returns
returns c = λ b k g s. group-read (read_at c.args.self.now.held s)

-- `find::Pages::zone` meets its contract. Assumes nothing.
use native.Mathlib.Omega.{arith}
use Rattle.pages.proofs.Walk.{read_at}
use Rattle.pages.proofs.Inverse.{zone-lent}
use Rattle.pages.proofs.find.Pages.zone.Goals as goal

pub overflow_mul-a : goal.overflow_mul-a
overflow_mul-a c = let r = read_at c.args.self.now.held c.requires.2 in omega arith

pub overflow_add-e : goal.overflow_add-e
overflow_add-e c = let r = read_at c.args.self.now.held c.requires.2 in omega arith

pub offset_bounds-self-a : goal.offset_bounds-self-a
offset_bounds-self-a c = let r = read_at c.args.self.now.held c.requires.2 in omega arith

pub slice_bounds-result-end : goal.slice_bounds-result-end
slice_bounds-result-end c = let r = read_at c.args.self.now.held c.requires.2 in omega arith

pub invariant_of-result : goal.invariant_of-result
invariant_of-result c = record { valid = (zone-lent (read_at c.args.self.now.held c.requires.2)).0 }

pub returns : goal.returns
returns c = λ b z s. (zone-lent (read_at c.args.self.now.held s)).1

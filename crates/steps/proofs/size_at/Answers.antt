-- `size_at` meets its contract. Assumes nothing.
use Prim.Native.Nat.{ℕ}
use mathlib.Core.Path.{sym, subst}
use Rattle.model.specs.Arena.{Segment}
use Rattle.model.specs.Zone.{Zone}
use Rattle.pages.specs.Places.{Stands}
use Rattle.steps.proofs.size_at.Goals as goal

pub size-requires : goal.size-requires
size-requires c = subst (λ m. (b : ℕ) × (x : Segment Zone) × Stands m c.args.p b x) (sym c.all_pages.ensures) c.requires.placed

pub returns : goal.returns
returns c = λ b x s. c.size.ensures b x (subst (λ m. Stands m c.args.p b x) (sym c.all_pages.ensures) s)

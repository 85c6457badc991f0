-- `group_at` meets its contract. Assumes nothing.
use Prim.Native.Nat.{ℕ}
use mathlib.Core.Path.{sym, subst}
use Rattle.model.specs.Arena.{direct}
use Rattle.pages.specs.Places.{Stands}
use Rattle.steps.proofs.group_at.Goals as goal

pub group-requires : goal.group-requires
group-requires c = subst (λ m. (b : ℕ) × (k g : ℕ) × Stands m c.args.p b (direct k g)) (sym c.all_pages.ensures) c.requires.placed

pub returns : goal.returns
returns c = λ b k g s. c.group.ensures b k g (subst (λ m. Stands m c.args.p b (direct k g)) (sym c.all_pages.ensures) s)

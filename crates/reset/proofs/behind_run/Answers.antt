-- `behind_run` meets its contract. Assumes nothing.
use native.Mathlib.Omega.{arith}
use Prim.Native.Nat.{◌+◌}
use mathlib.Core.Path.{refl, ap}
use Rattle.steps.proofs.Segments.{here-inside}
use Rattle.reset.proofs.behind_run.Goals as goal

pub overflow_add-next : goal.overflow_add-next
overflow_add-next c = let h = c.requires in let r = here-inside h.good.lent h.placed.2 in omega (arith, c.size_at-len.ensures _ _ h.placed.2)

pub returns : goal.returns
returns c = λ b k s. let e = c.size_at-len.ensures b _ s in (ap (λ y. c.args.first + y) e, e, refl)

-- `text::put_bytes` meets its contract. The loop's invariant: the bytes from the index on are left to be written, at `next`.
-- Assumes nothing.
use mathlib.Core.List.{[], ◌∷◌}
use mathlib.Core.Path.{◌≡◌}
use lib.ListN.{length, drop}
use Rattle.text.proofs.Left.{Left}
use Rattle.text.proofs.put_bytes.Given as goal

abbrev pub invariant-loop-b : goal.invariant-loop-b
invariant-loop-b l = (length l.out ≡ length l.initial.out) × Left l.initial.out l.at l.s l.next l.out (drop l.b-index l.s ∷ [])

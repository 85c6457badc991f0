-- `text::put_line` meets its contract. The loop's invariant: the fields of the numbers from i on are left to be written, at
-- `next`. Assumes nothing.
use mathlib.Core.List.{[], ◌∷◌}
use mathlib.Core.Path.{◌≡◌}
use lib.ListN.{length, drop}
use Rattle.model.specs.Text.{line}
use Rattle.text.proofs.Lines.{fields}
use Rattle.text.proofs.Left.{Left}
use Rattle.text.proofs.put_line.Given as goal

abbrev pub invariant-loop-i : goal.invariant-loop-i
invariant-loop-i l = (length l.out ≡ length l.initial.out) × Left l.initial.out l.at (line l.numbers) l.next l.out (fields (drop l.i l.numbers) ∷ [])

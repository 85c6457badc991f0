-- `text::read_number` meets its contract. The loop's invariant: v fits 32 bits, and what is read behind digits of the value v,
-- from the i-th byte behind the first digit on, is what is read at `at`. Assumes nothing.
use Prim.Native.Nat.{◌+◌, ◌≤◌}
use mathlib.Core.Path.{◌≡◌}
use lib.ListN.{drop}
use Rattle.text.specs.Numbers.{largest, number_at}
use Rattle.text.proofs.Scan.{number_on}
use Rattle.text.proofs.read_number.Given as goal

abbrev pub invariant-loop-i : goal.invariant-loop-i
invariant-loop-i l = record {
  fits : l.v ≤ largest;
  read : number_on l.v (l.at + 1 + l.i) (drop l.i l.b-items) ≡ number_at l.s l.at;
}

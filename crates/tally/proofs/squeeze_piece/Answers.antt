-- `squeeze_piece` meets its contract. Assumes nothing.
use Prim.Native.Nat.{ℕ, ◌-◌}
use mathlib.Core.Path.{◌≡◌}
use native.Mathlib.Omega.{arith}
use lib.ListN.{length}
use Rattle.tally.specs.Figures.{piece}
use Rattle.tally.proofs.Squeezed.{piece-squeezed}
use Rattle.tally.proofs.squeeze_piece.Goals as goal

pub returns : goal.returns
returns c =
    let k : ℕ = length c.args.slots.now in
    let all : k - 0 ≡ k = omega arith in
    piece-squeezed c.args.slots.now _ _ _ _ piece all c.requires.0 c.take_states.ensures c.narrow.ensures

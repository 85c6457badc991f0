-- The stores of each step, on the words alone. That they make the figures of what the group then holds is shown in proofs/Stepped.antt.
-- Assumes nothing.
use Rattle.std.specs.Prelude.{ℕ, ◌+◌, ◌-◌, max, List, set}
use Rattle.figures.specs.Encoding.{at_held, at_greatest, at_ceiling, record_in}

-- A block more of the group at the index, of r bytes.
abbrev pub added : ℕ → ℕ → List ℕ → List ℕ
added i r w =
    let h = record_in w i in
    set (set (set w i (h.blocks + 1)) (at_held + i) (h.held + r)) (at_greatest + i) (max h.greatest (h.held + r))

-- A block less.
abbrev pub taken : ℕ → ℕ → List ℕ → List ℕ
taken i r w = let h = record_in w i in set (set w i (h.blocks - 1)) (at_held + i) (h.held - r)

-- None left.
abbrev pub cleared : ℕ → List ℕ → List ℕ
cleared i w = set (set w i 0) (at_held + i) 0

-- Another ceiling.
abbrev pub capped : ℕ → ℕ → List ℕ → List ℕ
capped i c w = set w (at_ceiling + i) c

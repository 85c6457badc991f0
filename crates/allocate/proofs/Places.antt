-- A run that the search finds stands at its page. Assumes nothing.
use Prim.Native.Nat.{ℕ, ◌+◌, ◌≤◌, ◌<◌}
use mathlib.Core.Path.{◌≡◌}
use mathlib.Core.List.{List}
use mathlib.Core.Option.{some}
use Rattle.model.specs.Arena.{Segment, run, total}
use Rattle.model.specs.Zone.{Zone}
use Rattle.model.specs.Pages.{claim}
use Rattle.model.proofs.Claim.{claim-found}
use Rattle.pages.specs.Places.{Stands}
use Rattle.steps.proofs.Zones.{begins-stands, stands-inside}

-- The run that the search finds.
pub record Free (m : List (Segment Zone)) (need p k : ℕ) : Type 0 where
  pub behind : ℕ
  pub there : Stands m p behind (run k)
  pub enough : need ≤ k
  pub inside : p + k ≤ total m

pub free : (m : List (Segment Zone)) (need p k : ℕ) → 0 < need → (claim need m).chosen ≡ some (record { page = p; size = k }) → Free m need p k
free m need p k pos e =
    let f = claim-found need m (record { page = p; size = k }) pos e in
    let s = begins-stands m p (run k) f.0 in
    record { behind = s.0; there = s.1; enough = f.1; inside = stands-inside s.1 }

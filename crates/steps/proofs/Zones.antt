-- Zones and other segments that begin at a page, by page, by byte and as the code names them. Assumes nothing.
use Prim.Native.Nat.{ℕ, ◌+◌, ◌*◌, ◌≤◌}
use mathlib.Core.Path.{◌≡◌, refl, sym, ap, subst}
use mathlib.Core.List.{List}
use native.Mathlib.Omega.{arith}
use Rattle.model.specs.Numbers.{page_bytes}
use Rattle.model.specs.Arena.{Segment, zone, pages, total}
use Rattle.model.specs.Zone.{Zone}
use Rattle.model.specs.State.{State, Begins, ZoneAt, zone_in, zone_at}
use Rattle.model.specs.Valid.{ValidZone, ValidSegment, Valid}
use Rattle.model.proofs.Arena.{split, each-locate}
use Rattle.pages.specs.Places.{run_at_end, Stands}
use Rattle.pages.proofs.Laws.{pages-most}
use Rattle.steps.specs.Lent.{ZoneHere}
use Rattle.steps.proofs.Body.{stands-begins}

-- A segment that begins at a page's first byte stands there, inside the arena.
pub begins-stands : (m : List (Segment Zone)) (p : ℕ) (x : Segment Zone) → Begins (p * page_bytes) m x → (b : ℕ) × Stands m p b x
begins-stands m p x e =
    let S = split (p * page_bytes) m e in
    (run_at_end 0 S.before, record { before = S.before; behind = S.behind; whole = S.whole; starts = omega (arith, S.at); ends = refl })

pub stands-inside : {m : List (Segment Zone)} {p b : ℕ} {x : Segment Zone} → Stands m p b x → p + pages x ≤ total m
stands-inside {m} {p} {b} {x} s = omega (arith, s.starts, pages-most x s.before s.behind m s.whole)

-- The zone at a page is the one that begins there.
pub zone-at : (m : List (Segment Zone)) (p : ℕ) (z : Zone) → ZoneAt m p z → zone_at p m ≡ z
zone-at m p z e = ap zone_in e

pub zone-there : (m : List (Segment Zone)) (p : ℕ) (z : Zone) → ZoneAt m p z → ZoneAt m p (zone_at p m)
zone-there m p z e = subst (ZoneAt m p) (sym (zone-at m p z e)) e

-- The zone that stands at a page.
module _ (s : State) (p b : ℕ) (z : Zone) (t : Stands s.segments p b (zone z)) where
  pub zone-begins : ZoneAt s.segments p z
  zone-begins = stands-begins t (omega arith)

  pub zone-is : zone_at p s.segments ≡ z
  zone-is = zone-at s.segments p z zone-begins

  pub zone-stands : ZoneHere s p
  zone-stands = zone-there s.segments p z zone-begins

  pub zone-valid : Valid s → ValidZone z
  zone-valid v = each-locate ValidSegment s.segments (p * page_bytes) v.sound zone-begins

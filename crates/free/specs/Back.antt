-- A chunk's return in the two halves in which the code does it. Assumes nothing.
use Rattle.std.specs.Prelude.{ℕ, ◌*◌, ◌<◌, ◌≡◌, List, ◌∷◌, Bool, true, false, cond, get_or, set}
use Rattle.model.specs.Numbers.{page_bytes}
use Rattle.model.specs.Arena.{zone}
use Rattle.model.specs.Zone.{Zone, full, put_back}
use Rattle.model.specs.State.{State, list_of, arranged, put_zone}
use Rattle.model.specs.PageMap.{idle_zone}
use Rattle.model.specs.Pages.{release}
use Rattle.pages.specs.Places.{Stands}

-- The list of the class c once the zone z at page p has a chunk that is not live: a zone that was full goes to its front.
abbrev pub relisted : ℕ → ℕ → Zone → State → List ℕ
relisted c p z s = cond (full z) (p ∷ list_of s c) (list_of s c)

-- Chunk i of the zone z at page p is on the zone's chain, and the zone on the list of its class c.
abbrev pub chained : ℕ → ℕ → ℕ → Zone → State → State
chained c i p z s = arranged s (put_zone p (put_back i z) s.segments) (set s.lists c (relisted c p z s)) s.spare

-- Chunk i of the zone that begins at page p, behind a run of b pages, is live.
pub record LiveChunk (s : State) (p b i : ℕ) : Type 0 where
  pub z : Zone
  pub stands : Stands s.segments p b (zone z)
  pub live : 0 < get_or z.owners i 0

-- The zone at page p still stands (true), or its pages have gone back to the runs (false).
abbrev pub Remains : Bool → ℕ → ℕ → Zone → State → State → Type 0
Remains true i p z s t = t.segments ≡ put_zone p (put_back i z) s.segments
Remains false i p z s t = (t.segments ≡ release (p * page_bytes) (put_zone p (put_back i z) s.segments)) × (idle_zone (put_back i z) ≡ true)

-- A reset on its way: the blocks of the group that are still to come back are those that begin from some page on. Assumes nothing.
use Rattle.std.specs.Prelude.{ℕ, ◌+◌, ◌*◌, ◌≡◌, List, ◌++◌, length, drop}
use Rattle.model.specs.Numbers.{page_bytes, zone_pages}
use Rattle.model.specs.Sizes.{room}
use Rattle.model.specs.Arena.{Segment, zone, total}
use Rattle.model.specs.Zone.{Zone}
use Rattle.model.specs.State.{State}
use Rattle.model.specs.PageMap.{occupancy, shown}
use Rattle.model.specs.Free.{chunk_offsets, offsets_from, freed_all}
use Rattle.pages.specs.Places.{run_at_end, Stands}
use Rattle.metadata.specs.Decoding.{decode}
use Rattle.steps.specs.Lent.{Good}

-- The offsets of the group's blocks in these segments, which begin at page p.
abbrev pub offsets_at : ℕ → ℕ → List (Segment Zone) → List ℕ
offsets_at g p l = offsets_from g (p * page_bytes) (shown l)

-- The walk stands at page p, behind a run of b pages (0: none), with k blocks given back so far. Once the others are, the state is t,
-- and there were c.
pub record Sweep (g : ℕ) (t : State) (c : ℕ) (w : List ℕ) (n p b k : ℕ) : Type 0 where
  pub good : Good w n
  pub before : List (Segment Zone)
  pub left : List (Segment Zone)
  pub whole : (decode w).segments ≡ before ++ left
  pub starts : total before ≡ p
  pub ends : run_at_end 0 before ≡ b
  pub rest : freed_all (offsets_at g p left) (decode w) ≡ t
  pub counted : k + length (offsets_at g p left) ≡ c

-- The offsets of the group's chunks from chunk i on of the zone z at page p.
abbrev pub offsets_in : ℕ → ℕ → ℕ → Zone → List ℕ
offsets_in g p i z = chunk_offsets g (p * page_bytes + i * room z.class) (room z.class) (drop i (occupancy z).groups)

-- The walk stands at chunk i of the zone at page p.
pub record InZone (g : ℕ) (t : State) (c : ℕ) (w : List ℕ) (n p b i k : ℕ) : Type 0 where
  pub good : Good w n
  pub z : Zone
  pub stands : Stands (decode w).segments p b (zone z)
  pub rest : freed_all (offsets_in g p i z ++ offsets_at g (p + zone_pages) stands.behind) (decode w) ≡ t
  pub counted : k + length (offsets_in g p i z ++ offsets_at g (p + zone_pages) stands.behind) ≡ c

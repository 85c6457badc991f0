-- The page map of a state and its live blocks (document 01, "The books" and "Calls"). Assumes nothing.
use Rattle.std.specs.Prelude.{ℕ, zero, suc, ◌*◌, ◌/◌, ◌%◌, List, [], ◌∷◌, map, Bool, true, false, cond, eqb, get_or}
use Rattle.std.proofs.Math.Option.{Option, none, some}
use Rattle.model.specs.Numbers.{page_bytes}
use Rattle.model.specs.Sizes.{room, chunks}
use Rattle.model.specs.Arena.{Segment, run, direct, zone, Place, locate, retold}
use Rattle.model.specs.Zone.{Zone}
use Rattle.model.specs.State.{State}

-- A zone as the page map shows it: its class, and for each of its chunks the group, 0 where the chunk is not live.
pub record Occupancy : Type 0 where
  pub class : ℕ
  pub groups : List ℕ

-- n entries: those of the list, then zeros.
abbrev pub padded : ℕ → List ℕ → List ℕ
padded zero l = []
padded (suc n) [] = 0 ∷ padded n []
padded (suc n) (x ∷ l) = x ∷ padded n l

abbrev pub occupancy : Zone → Occupancy
occupancy z = record { class = z.class; groups = padded (chunks z.class) z.owners }

-- The page map: runs, direct blocks with their groups, zones with class and live chunks. Untouched counts, chains and lists
-- are not part of it.
abbrev pub PageMap : Type 0
PageMap = List (Segment Occupancy)

abbrev pub shown : List (Segment Zone) → PageMap
shown m = map (retold occupancy) m

abbrev pub page_map : State → PageMap
page_map s = shown s.segments

-- Whether no chunk of a zone is live.
abbrev pub all_zero : List ℕ → Bool
all_zero [] = true
all_zero (zero ∷ r) = all_zero r
all_zero (suc g ∷ r) = false

abbrev pub idle : Occupancy → Bool
idle l = all_zero l.groups

abbrev pub idle_zone : Zone → Bool
idle_zone z = idle (occupancy z)

-- A live block, wherever it lies: a direct block (pages, group) or a chunk (class, number in its zone, group).
pub data Block : Type 0 where
  whole : ℕ → ℕ → Block
  chunk : ℕ → ℕ → ℕ → Block

abbrev pub group_of : Block → ℕ
group_of (whole n g) = g
group_of (chunk c i g) = g

-- Its room: the chunk size, or the pages' bytes.
abbrev pub room_of : Block → ℕ
room_of (whole n g) = n * page_bytes
room_of (chunk c i g) = room c

-- Chunk i of a zone of class c with the entry g in its groups.
abbrev pub chunk_of : ℕ → ℕ → ℕ → Option Block
chunk_of c i zero = none
chunk_of c i (suc g) = some (chunk c i (suc g))

-- The live block that begins o bytes behind a segment's start.
abbrev pub block_in : ℕ → Segment Occupancy → Option Block
block_in o (run n) = none
block_in o (direct n g) = cond (eqb o 0) (some (whole n g)) none
block_in o (zone l) = cond (eqb (o % room l.class) 0) (chunk_of l.class (o / room l.class) (get_or l.groups (o / room l.class) 0)) none

abbrev pub block_there : Option (Place Occupancy) → Option Block
block_there none = none
block_there (some a) = block_in a.away a.segment

-- The live block that begins at the byte o of the arena.
abbrev pub block_at : PageMap → ℕ → Option Block
block_at m o = block_there (locate o m)

-- The figures of the twelve groups: their live blocks, group 1 first, then their held bytes. Assumes nothing.
use Rattle.std.specs.Prelude.{ℕ, suc, min, ◌+◌, ◌*◌, ◌≤◌, ◌<◌, ◌≡◌, List, length, get_or}
use Rattle.model.specs.Numbers.{page_bytes, most_group, most_pages}
use Rattle.model.specs.Arena.{Segment, retold}
use Rattle.model.specs.Zone.{Zone}
use Rattle.model.specs.PageMap.{PageMap, occupancy}
use Rattle.model.specs.Holdings.{blocks_in, room_in, blocks_of, held_of}
use Rattle.zone.specs.Encoding.{position_base}
use Rattle.zone.specs.Decoding.{state_in}

-- The slots whose groups are counted at once: fewer than a byte counts, and whole vectors of bytes.
abbrev pub stretch : ℕ
stretch = 192

-- The slots that become bytes at once: whole vectors of bytes, and few, since their states take stack.
abbrev pub piece : ℕ
piece = 32

-- The byte of a chunk's state: a live one's group, 0 for an untouched one, and for every returned one a number above all groups.
abbrev pub owner_byte : ℕ → ℕ
owner_byte x = min x position_base

-- .. and of a slot, by its state.
abbrev pub slot_byte : ℕ → ℕ
slot_byte x = owner_byte (state_in x)

-- The figures t are those of the page map m.
pub record Tallied (t : List ℕ) (m : PageMap) : Type 0 where
  pub long : length t ≡ most_group + most_group
  pub blocks : (i : ℕ) → i < most_group → get_or t i 0 ≡ blocks_of (suc i) m
  pub held : (i : ℕ) → i < most_group → get_or t (most_group + i) 0 ≡ held_of (suc i) m

-- The figures u are t and, for each group g, n g more blocks of r bytes each.
pub record Added (n : ℕ → ℕ) (r : ℕ) (t u : List ℕ) : Type 0 where
  pub long : length u ≡ most_group + most_group
  pub blocks : (i : ℕ) → i < most_group → get_or u i 0 ≡ get_or t i 0 + n (suc i)
  pub held : (i : ℕ) → i < most_group → get_or u (most_group + i) 0 ≡ get_or t (most_group + i) 0 + n (suc i) * r

-- .. and what the segment x holds.
abbrev pub Adds : Segment Zone → List ℕ → List ℕ → Type 0
Adds x t u = let y = retold occupancy x in Added (λ g. blocks_in g y) (room_in y) t u

-- The bytes of k arenas with as many pages as one may have.
abbrev pub arenas : ℕ → ℕ
arenas k = k * (most_pages * page_bytes)

-- None of the figures t is above the bytes of k arenas.
pub record Within (k : ℕ) (t : List ℕ) : Type 0 where
  pub long : length t ≡ most_group + most_group
  pub blocks : (i : ℕ) → i < most_group → get_or t i 0 ≤ arenas k
  pub held : (i : ℕ) → i < most_group → get_or t (most_group + i) 0 ≤ arenas k

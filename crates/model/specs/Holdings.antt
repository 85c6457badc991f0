-- What each group holds (document 02, c): its live blocks, its held bytes, which are the rooms of its live blocks, and the greatest held
-- bytes since the start. The first two are told by the page map; the third is kept beside the state, in its account, and so is the
-- group's ceiling (document 02, e). Assumes nothing.
use Rattle.std.specs.Prelude.{ℕ, suc, ◌+◌, ◌-◌, ◌*◌, max, List, [], ◌∷◌, cond, eqb, get_or, replicate}
use Rattle.lemmas.specs.ListFrom.{list_from}
use Rattle.lemmas.specs.Times.{times}
use Rattle.model.specs.Numbers.{page_bytes, most_bytes, most_group}
use Rattle.model.specs.declared.Holding.{Holding}
use Rattle.model.specs.Sizes.{room}
use Rattle.model.specs.Arena.{Segment, run, direct, zone}
use Rattle.model.specs.PageMap.{Occupancy, PageMap, page_map}
use Rattle.model.specs.State.{State, fresh_state}

-- The group's live blocks in a segment, and the room of a block there.
abbrev pub blocks_in : ℕ → Segment Occupancy → ℕ
blocks_in g (run n) = 0
blocks_in g (direct n h) = cond (eqb h g) 1 0
blocks_in g (zone l) = times g l.groups

abbrev pub room_in : Segment Occupancy → ℕ
room_in (run n) = 0
room_in (direct n h) = n * page_bytes
room_in (zone l) = room l.class

-- The sum over the group's live blocks of what `each` tells of a block's segment; so its live blocks and its held bytes.
abbrev pub figure_of : (Segment Occupancy → ℕ) → ℕ → PageMap → ℕ
figure_of each g [] = 0
figure_of each g (x ∷ r) = blocks_in g x * each x + figure_of each g r

abbrev pub one : Segment Occupancy → ℕ
one x = 1

abbrev pub blocks_of : ℕ → PageMap → ℕ
blocks_of g m = figure_of one g m

abbrev pub held_of : ℕ → PageMap → ℕ
held_of g m = figure_of room_in g m

-- A state, and for each group, group 1 first, the greatest bytes that it has held since the start, and its ceiling: the most bytes that a
-- request may bring it to hold. The group of an entry is its index + 1.
pub record Account : Type 0 where
  pub state : State
  pub greatest : List ℕ
  pub ceilings : List ℕ

-- The greatest of the group at an index, once the state is s: what it was or what the group holds now, whichever is more.
abbrev pub raised : Account → State → ℕ → ℕ
raised a s i = max (get_or a.greatest i 0) (held_of (suc i) (page_map s))

-- The one place where an account is made from another and a next state. What a group holds is the state's to tell, so no call can leave it
-- wrong.
abbrev pub accounted : Account → State → Account
accounted a s = record { state = s; greatest = list_from (raised a s) 0 most_group; ceilings = a.ceilings }

-- The account of a start: nobody holds anything, or has, and every ceiling is the largest.
abbrev pub fresh_account : ℕ → Account
fresh_account n = record { state = fresh_state n; greatest = replicate most_group 0; ceilings = replicate most_group most_bytes }

-- The ceiling of the group at an index; so that of a group.
abbrev pub ceiling_at : Account → ℕ → ℕ
ceiling_at a i = get_or a.ceilings i 0

abbrev pub ceiling_of : Account → ℕ → ℕ
ceiling_of a g = ceiling_at a (g - 1)

-- The twelve records, group 1 first.
abbrev pub holding_of : Account → ℕ → Holding
holding_of a i = let m = page_map a.state in record { blocks = blocks_of (suc i) m; held = held_of (suc i) m; greatest = get_or a.greatest i 0 }

abbrev pub holdings_of : Account → List Holding
holdings_of a = list_from (holding_of a) 0 most_group

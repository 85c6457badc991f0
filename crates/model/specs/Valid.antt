-- Valid states (document 01: a legal state is ..), clause by clause. Valid is not the same as reachable: a direct block of one
-- page, a zone that was set up and never granted, or several idle zones on one list are valid, though no call makes them.
-- Assumes nothing.
use Rattle.std.specs.Prelude.{ℕ, zero, suc, ◌*◌, ◌≤◌, ◌<◌, ◌≡◌, ◌⊎◌, Bool, true, false, length, get_or}
use mathlib.Core.List.{List, [], ◌∷◌, Memᴰ}
use Rattle.lemmas.specs.Times.{times, Distinct}
use Rattle.model.specs.Numbers.{page_bytes, most_bytes, most_group, class_count, most_pages, most_spare}
use Rattle.model.specs.Sizes.{chunks}
use Rattle.model.specs.Arena.{Segment, run, direct, zone, total, Each}
use Rattle.model.specs.Zone.{Zone, touched, full}
use Rattle.model.specs.State.{State, list_of, ZoneAt}
use Rattle.model.specs.PageMap.{page_map, idle_zone}
use Rattle.model.specs.Holdings.{held_of, Account, ceiling_at}

-- Free runs have pages, and no two of them touch. (b: a run stands just before.)
abbrev pub Apart : {Z : Type 0} → Bool → List (Segment Z) → Type 0
Apart b [] = Unit {0}
Apart b (run n ∷ r) = (b ≡ false) × (0 < n) × Apart true r
Apart b (direct n g ∷ r) = Apart false r
Apart b (zone z ∷ r) = Apart false r

-- 1 where chunk i was handed out and is not live, else 0.
abbrev pub returned_at : List ℕ → ℕ → ℕ
returned_at [] i = 0
returned_at (zero ∷ r) zero = 1
returned_at (suc g ∷ r) zero = 0
returned_at (g ∷ r) (suc i) = returned_at r i

-- A valid zone.
pub record ValidZone (z : Zone) : Type 0 where
  -- a class, and a count k of chunks handed out that is at most its chunk count
  pub class : z.class < class_count
  pub fits : touched z ≤ chunks z.class
  -- chunks below k are each live with a group 1 to 12, or once on the chain; nothing else stands on the chain
  pub groups : (i : ℕ) → get_or z.owners i 0 ≤ most_group
  pub chained : (i : ℕ) → times i z.chain ≡ returned_at z.owners i

-- Direct blocks have at least one page and a group 1 to 12; zones are valid.
abbrev pub ValidSegment : Segment Zone → Type 0
ValidSegment (run n) = Unit {0}
ValidSegment (direct n g) = (0 < n) × (0 < g) × (g ≤ most_group)
ValidSegment (zone z) = ValidZone z

-- A zone of class c that has a chunk not live begins at page p; an idle zone does.
abbrev pub OpenAt : List (Segment Zone) → ℕ → ℕ → Type 0
OpenAt m c p = (z : Zone) × ZoneAt m p z × (z.class ≡ c) × (full z ≡ false)

abbrev pub IdleAt : List (Segment Zone) → ℕ → Type 0
IdleAt m p = (z : Zone) × ZoneAt m p z × (idle_zone z ≡ true)

-- A valid state.
pub record Valid (s : State) : Type 0 where
  -- N from 1 to 256
  pub least : 0 < total s.segments
  pub most : total s.segments ≤ most_pages
  -- free runs in ascending order, no two overlapping or touching (that all is covered once is in the list's form)
  pub apart : Apart false s.segments
  -- direct blocks and zones
  pub sound : Each ValidSegment s.segments
  -- one list per class, ..
  pub classes : length s.lists ≡ class_count
  -- .. holding zones of that class that have a chunk not live, ..
  pub listed : (c p : ℕ) → Memᴰ p (list_of s c) → OpenAt s.segments c p
  -- .. and each of them, unless it is on the empty list
  pub complete : (p : ℕ) (z : Zone) → ZoneAt s.segments p z → full z ≡ false → Memᴰ p (list_of s z.class) ⊎ Memᴰ p s.spare
  -- the empty list holds at most 2 zones, none with a live chunk
  pub few : length s.spare ≤ most_spare
  pub spared : (p : ℕ) → Memᴰ p s.spare → IdleAt s.segments p
  -- no zone stands twice: not on a class's list, not on the empty list, not on both (two classes' lists differ by `listed`)
  pub once : (c : ℕ) → Distinct (list_of s c)
  pub once-spare : Distinct s.spare
  pub not-both : (c p : ℕ) → Memᴰ p (list_of s c) → Memᴰ p s.spare → ⊥

-- A valid account (document 02, c and e). What a group holds is told by the state, so that nothing is left to say of it here.
pub record ValidAccount (a : Account) : Type 0 where
  -- the state is valid
  pub state : Valid a.state
  -- there is a greatest figure for each group, ..
  pub groups : length a.greatest ≡ most_group
  -- .. not below what the group holds, ..
  pub least : (i : ℕ) → i < most_group → held_of (suc i) (page_map a.state) ≤ get_or a.greatest i 0
  -- .. and not above N × 4,096
  pub most : (i : ℕ) → i < most_group → get_or a.greatest i 0 ≤ total a.state.segments * page_bytes
  -- there is a ceiling for each group, ..
  pub limits : length a.ceilings ≡ most_group
  -- .. and none is above 1,048,576. It may be below what the group holds.
  pub ceiling : (i : ℕ) → i < most_group → ceiling_at a i ≤ most_bytes

-- Allocation (document 01: a request): a direct block, or a chunk by the rules of "Zones"; where the pages that one of them needs come
-- from (document 02, a), with the runs that were looked at for them (document 02, b); and what is refused before (document 02, e).
-- Assumes nothing.
use Rattle.std.specs.Prelude.{ℕ, ◌+◌, ◌*◌, List, [], ◌∷◌, cond, ltb, set}
use Rattle.std.proofs.Math.Option.{Option, none, some, map}
use Rattle.model.specs.Numbers.{page_bytes, zone_pages, large_size}
use Rattle.model.specs.declared.Refusal.TheVariants.{BadGroup, BadSize, OverCeiling, NoRoom}
use Rattle.model.specs.declared.Answer.TheVariants.{Granted, Denied}
use Rattle.model.specs.Sizes.{room, class_of, pages_for}
use Rattle.model.specs.Arena.{Segment, direct, zone}
use Rattle.model.specs.Zone.{Zone, new_zone, full, next_chunk, granted}
use Rattle.model.specs.State.{State, list_of, arranged, zone_at, put_zone}
use Rattle.model.specs.PageMap.{page_map}
use Rattle.model.specs.Pages.{FreeRun, Search, followed, claim, carve}
use Rattle.model.specs.Calls.{Outcome, answers, denies, provided, group_ok, size_ok}
use Rattle.model.specs.Ceilings.{within}
use Rattle.model.specs.Trim.{trimmed}

-- Where pages are taken from: a state, and the free run of it that a search found.
pub record Source : Type 0 where
  pub state : State
  pub free : FreeRun

-- One search for n pages, through the runs of a state.
abbrev pub found_in : State → FreeRun → Source
found_in s h = record { state = s; free = h }

abbrev pub searched : ℕ → State → Search Source
searched n s = let l = claim n s.segments in record { chosen = map (found_in s) l.chosen; looked = l.looked }

-- n pages are needed, for a direct block or for a zone. The search goes through the runs as they are; if none suffices, every zone
-- without a live chunk is given back as trim does, and the search is made once more on what that leaves.
unfoldable pub sought : ℕ → State → Search Source
sought n s = let l = searched n s in followed l.chosen l.looked (searched n (trimmed s))

-- n whole pages for the group, if they were found, after k runs were looked at. If not, nothing has been given back.
abbrev pub direct_from : ℕ → ℕ → State → ℕ → Option Source → Outcome State
direct_from n g s k none = denies s NoRoom k
direct_from n g s k (some f) =
    let t = f.state in answers (arranged t (carve f.free n (direct n g) t.segments) t.lists t.spare) (Granted (f.free.page * page_bytes) k)

abbrev pub whole_pages : ℕ → ℕ → State → Outcome State
whole_pages n g s = let l = sought n s in direct_from n g s l.looked l.chosen

-- A new zone at page p for the class, now standing in the segments m: it grants chunk 0 and goes to the front of its class's
-- list, which is empty. k runs were looked at.
abbrev pub opened : ℕ → State → List (Segment Zone) → ℕ → List ℕ → ℕ → Outcome State
opened c s m p sp k = answers (arranged s m (set s.lists c (p ∷ [])) sp) (Granted (p * page_bytes) k)

-- No zone of the class has a chunk left: 8 pages are taken from the runs and set up ..
abbrev pub zone_from : ℕ → ℕ → State → ℕ → Option Source → Outcome State
zone_from c g s k none = denies s NoRoom k
zone_from c g s k (some f) = let t = f.state in opened c t (carve f.free zone_pages (zone (new_zone c g)) t.segments) f.free.page t.spare k

-- .. unless the empty list has a zone: then its first is set up anew, and no run is looked at.
abbrev pub from_spare : ℕ → ℕ → State → List ℕ → Outcome State
from_spare c g s [] = let l = sought zone_pages s in zone_from c g s l.looked l.chosen
from_spare c g s (p ∷ ps) = opened c s (put_zone p (new_zone c g) s.segments) p ps 0

-- The first zone on the class's list serves; once its last chunk goes, it leaves the list. No run is looked at.
abbrev pub served : ℕ → ℕ → ℕ → List ℕ → State → Zone → Outcome State
served c g p ps s z =
    answers
    (arranged s (put_zone p (granted g z) s.segments) (set s.lists c (cond (full (granted g z)) ps (p ∷ ps))) s.spare)
    (Granted (p * page_bytes + next_chunk z * room c) 0)

abbrev pub chunk_from : ℕ → ℕ → State → List ℕ → Outcome State
chunk_from c g s [] = from_spare c g s s.spare
chunk_from c g s (p ∷ ps) = served c g p ps s (zone_at p s.segments)

-- A request of n bytes by the group: a chunk below 8,192 bytes, whole pages from there.
abbrev pub supplied : ℕ → ℕ → State → Outcome State
supplied g n s =
    cond (ltb n large_size) (chunk_from (class_of n) g s (list_of s (class_of n))) (whole_pages (pages_for n) g s)

-- A request by the group whose ceiling is c. Refusals in document 01's order, with document 02's between them: 4, 5, 10, 6. Before 6 no run
-- is looked at.
abbrev pub allocate : ℕ → ℕ → ℕ → State → Outcome State
allocate c g n s =
    provided (group_ok g) (Denied BadGroup 0) s
    (provided (size_ok n) (Denied BadSize 0) s
    (provided (within c g n (page_map s)) (Denied OverCeiling 0) s (supplied g n s)))

-- The pages that a request of n bytes needs, if it needs any: a chunk needs those of a zone only where its class's list and the empty
-- list are both empty. (`no_room` says when they are refused.)
abbrev pub zone_needed : List ℕ → List ℕ → Option ℕ
zone_needed [] [] = some zone_pages
zone_needed [] (p ∷ ps) = none
zone_needed (p ∷ ps) l = none

abbrev pub needed : ℕ → State → Option ℕ
needed n s = cond (ltb n large_size) (zone_needed (list_of s (class_of n)) s.spare) (some (pages_for n))

-- The runs that are looked at for the pages that are needed, if any are. (`counted`: that is a request's count.)
abbrev pub looks_for : Option ℕ → State → ℕ
looks_for none s = 0
looks_for (some k) s = (sought k s).looked

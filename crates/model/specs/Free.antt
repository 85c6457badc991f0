-- Freeing (document 01: a return; chunk return under "Zones") and reset. Assumes nothing.
use Rattle.std.specs.Prelude.{ℕ, ◌+◌, ◌-◌, ◌*◌, ◌/◌, List, [], ◌∷◌, ◌++◌, cond, ◌&&◌, ltb, eqb, length, set}
use Rattle.std.proofs.Math.Option.{Option, none, some}
use Rattle.lemmas.specs.Keep.{put_if}
use Rattle.lemmas.specs.Times.{remove}
use Rattle.model.specs.Numbers.{page_bytes, most_spare}
use Rattle.model.specs.declared.Refusal.TheVariants.{BadGroup, NoBlock, OtherGroup}
use Rattle.model.specs.declared.Answer.TheVariants.{Refused, Done, Counted}
use Rattle.model.specs.Sizes.{room}
use Rattle.model.specs.Arena.{Segment, run, direct, zone, bytes}
use Rattle.model.specs.Zone.{Zone, full, put_back}
use Rattle.model.specs.State.{State, list_of, arranged, zone_at, put_zone}
use Rattle.model.specs.PageMap.{Occupancy, PageMap, page_map, Block, whole, chunk, group_of, idle_zone, block_at}
use Rattle.model.specs.Pages.{release}
use Rattle.model.specs.Calls.{Outcome, answers, refuses, provided, group_ok}

-- The zone at page p of class c, now without a live chunk and not the only one on the list l, moves to the front of the empty
-- list; if that makes three, it is the front one that is given back to the runs.
abbrev pub retired : ℕ → ℕ → List ℕ → State → State
retired c p l s =
    cond (ltb (length s.spare) most_spare) (arranged s s.segments (set s.lists c (remove p l)) (p ∷ s.spare))
    (arranged s (release (p * page_bytes) s.segments) (set s.lists c (remove p l)) s.spare)

-- A chunk of the zone z at page p came back, and z stands in the segments; l is now the list of its class c.
abbrev pub settled : ℕ → ℕ → List ℕ → Zone → State → State
settled c p l z s =
    cond (idle_zone z && ltb 1 (length l)) (retired c p l s) (arranged s s.segments (set s.lists c l) s.spare)

-- Chunk i of the zone z at page p comes back. A zone that was full goes to the front of its class's list.
abbrev pub chunk_back : ℕ → ℕ → ℕ → Zone → State → State
chunk_back c i p z s =
    settled c p (cond (full z) (p ∷ list_of s c) (list_of s c)) (put_back i z)
    (arranged s (put_zone p (put_back i z) s.segments) s.lists s.spare)

-- The block that begins at o comes back.
abbrev pub freed : ℕ → Block → State → State
freed o (whole n g) s = arranged s (release o s.segments) s.lists s.spare
freed o (chunk c i g) s = let p = (o - i * room c) / page_bytes in chunk_back c i p (zone_at p s.segments) s

-- Refusals in document 01's order: 4, 7, 8.
abbrev pub free_block : ℕ → ℕ → State → Option Block → Outcome State
free_block g o s none = refuses s NoBlock
free_block g o s (some b) = provided (eqb (group_of b) g) (Refused OtherGroup) s (answers (freed o b s) Done)

abbrev pub free : ℕ → ℕ → State → Outcome State
free g o s = provided (group_ok g) (Refused BadGroup) s (free_block g o s (block_at (page_map s) o))

-- The offsets, ascending, at which a block of the group begins: in a zone's groups from o on, every r bytes; in a segment at
-- o; in segments from o on.
abbrev pub chunk_offsets : ℕ → ℕ → ℕ → List ℕ → List ℕ
chunk_offsets g o r [] = []
chunk_offsets g o r (x ∷ l) = put_if (eqb x g) o (chunk_offsets g (o + r) r l)

abbrev pub offsets_in : ℕ → ℕ → Segment Occupancy → List ℕ
offsets_in g o (run n) = []
offsets_in g o (direct n h) = put_if (eqb h g) o []
offsets_in g o (zone l) = chunk_offsets g o (room l.class) l.groups

abbrev pub offsets_from : ℕ → ℕ → PageMap → List ℕ
offsets_from g o [] = []
offsets_from g o (x ∷ r) = offsets_in g o x ++ offsets_from g (o + bytes x) r

abbrev pub offsets_of : ℕ → State → List ℕ
offsets_of g s = offsets_from g 0 (page_map s)

-- The blocks at these offsets come back, one after another, each as a return would.
abbrev pub freed_if : ℕ → Option Block → State → State
freed_if o none s = s
freed_if o (some b) s = freed o b s

abbrev pub freed_all : List ℕ → State → State
freed_all [] s = s
freed_all (o ∷ r) s = freed_all r (freed_if o (block_at (page_map s) o) s)

-- Reset: the group's live blocks in ascending offset, and how many there were. Refusal 4.
abbrev pub reset : ℕ → State → Outcome State
reset g s = provided (group_ok g) (Refused BadGroup) s (answers (freed_all (offsets_of g s) s) (Counted (length (offsets_of g s))))

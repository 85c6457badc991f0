-- Trim (document 01: tidy) and query (ask). Assumes nothing.
use Rattle.std.specs.Prelude.{ℕ, suc, List, [], ◌∷◌, map, cond, not}
use Rattle.std.proofs.Math.Option.{Option, none, some}
use Rattle.lemmas.specs.Keep.{keep}
use Rattle.model.specs.declared.Refusal.TheVariants.{NoBlock}
use Rattle.model.specs.declared.Answer.{Answer}
use Rattle.model.specs.declared.Answer.TheVariants.{Refused, Counted, Block}
use Rattle.model.specs.Arena.{Segment, run, direct, zone}
use Rattle.model.specs.Zone.{Zone}
use Rattle.model.specs.State.{State, arranged, zone_at}
use Rattle.model.specs.PageMap as map
use Rattle.model.specs.PageMap.{page_map, group_of, room_of, idle_zone, block_at}
use Rattle.model.specs.Pages.{joined}
use Rattle.model.specs.Calls.{Outcome, answers}

-- A list without the zones that have no live chunk; the others keep their order.
abbrev pub busy : List (Segment Zone) → List ℕ → List ℕ
busy m l = keep (λ p. not (idle_zone (zone_at p m))) l

-- How many zones have no live chunk.
abbrev pub idle_count : List (Segment Zone) → ℕ
idle_count [] = 0
idle_count (run n ∷ r) = idle_count r
idle_count (direct n g ∷ r) = idle_count r
idle_count (zone z ∷ r) = let k = idle_count r in cond (idle_zone z) (suc k) k

-- Every zone without a live chunk is given back, whichever list it is on. (The ascending order of document 01 cannot be seen:
-- the pages join to the same runs in any order.)
abbrev pub trimmed : State → State
trimmed s = arranged s (joined idle_zone 0 s.segments) (map (busy s.segments) s.lists) []

abbrev pub trim_all : State → Outcome State
trim_all s = answers (trimmed s) (Counted (idle_count s.segments))

-- A live block's group and room. Refusal 7.
abbrev pub described : Option map.Block → Answer
described none = Refused NoBlock
described (some b) = Block (group_of b) (room_of b)

abbrev pub query_at : ℕ → State → Outcome State
query_at o s = answers s (described (block_at (page_map s) o))

-- The test of the lists: every zone that has a chunk not live stands on its class's list, or on the empty list and is idle; and there
-- are as many entries as such zones. Assumes nothing.
use Rattle.std.specs.Prelude.{ℕ, ◌+◌, Bool, true, cond, ◌&&◌, List, [], ◌∷◌, eqb, length, get_or}
use Rattle.model.specs.Arena.{Segment, run, direct, zone, pages}
use Rattle.model.specs.Zone.{Zone, full}
use Rattle.model.specs.State.{State}
use Rattle.model.specs.PageMap.{idle_zone}
use Rattle.header.specs.Keys.{keys_of}
use Rattle.header.specs.Front.{stands}

-- The zone z at page p stands where it should.
abbrev pub zone_fits : List ℕ → List (List ℕ) → ℕ → Zone → Bool
zone_fits spare lists p z = cond (full z) true (cond (stands p spare) (idle_zone z) (stands p (get_or lists z.class [])))

abbrev pub segment_fits : List ℕ → List (List ℕ) → ℕ → Segment Zone → Bool
segment_fits spare lists p (run n) = true
segment_fits spare lists p (direct n g) = true
segment_fits spare lists p (zone z) = zone_fits spare lists p z

-- 1 for a zone that has a chunk not live, else 0.
abbrev pub is_open : Segment Zone → ℕ
is_open (run n) = 0
is_open (direct n g) = 0
is_open (zone z) = cond (full z) 0 1

-- From page p on, with a such zones before: all segments fit, and there are k of those zones in all.
unfoldable pub fit_from : List ℕ → List (List ℕ) → ℕ → ℕ → ℕ → List (Segment Zone) → Bool
fit_from spare lists k a p [] = eqb a k
fit_from spare lists k a p (x ∷ r) = let rest = fit_from spare lists k (a + is_open x) (p + pages x) r in segment_fits spare lists p x && rest

unfoldable pub lists_legal : State → Bool
lists_legal s = fit_from s.spare s.lists (length (keys_of s.lists) + length s.spare) 0 0 s.segments

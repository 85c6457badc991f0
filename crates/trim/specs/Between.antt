-- Where trim stands among the segments: at an idle zone between runs. Assumes nothing.
use Rattle.std.specs.Prelude.{ℕ, ◌+◌, ◌≡◌, List, ◌∷◌, ◌++◌, Bool, true, false}
use Rattle.model.specs.Arena.{Segment, run, direct, zone, total}
use Rattle.model.specs.Zone.{Zone}
use Rattle.model.specs.PageMap.{idle_zone}
use Rattle.model.specs.Pages.{with_run}
use Rattle.model.specs.Valid.{Apart}
use Rattle.pages.specs.Places.{run_at_end}

-- Whether a segment is a zone without a live chunk.
abbrev pub idle_segment : Segment Zone → Bool
idle_segment (run n) = false
idle_segment (direct n g) = false
idle_segment (zone z) = idle_zone z

-- The zone z begins at the page p, behind a run of b pages and before one of a pages (0: none).
pub record Between (m : List (Segment Zone)) (p b a : ℕ) (z : Zone) : Type 0 where
  pub before : List (Segment Zone)
  pub behind : List (Segment Zone)
  pub whole : m ≡ before ++ with_run b (zone z ∷ with_run a behind)
  pub starts : total before + b ≡ p
  pub no_run : run_at_end 0 before ≡ 0
  pub apart : Apart true behind

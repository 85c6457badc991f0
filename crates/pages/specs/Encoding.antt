-- The words of the arena's pages: 520 for each page, and a segment owns those of its pages, from its first page's on.
--   a free run       1, its pages, then zeros
--   a direct block   2, its pages, its group, then zeros
--   a zone           3, .. (crate zone)
-- So the words of the segments stand one behind another, and every step replaces a part in the middle by one as long.
-- Assumes nothing.
use Rattle.std.specs.Prelude.{ℕ, ◌-◌, ◌*◌, ◌<◌, List, [], ◌∷◌, ◌++◌}
use Rattle.lemmas.specs.Zeros.{zeros}
use Rattle.model.specs.Numbers.{page_words}
use Rattle.model.specs.Arena.{Segment, run, direct, zone, pages}
use Rattle.model.specs.Zone.{Zone}
use Rattle.model.specs.Valid.{ValidSegment}
use Rattle.zone.specs.Encoding.{kind_zone, zone_encoding}

-- What stands in a segment's first word.
abbrev pub kind_run : ℕ
kind_run = 1

abbrev pub kind_direct : ℕ
kind_direct = 2

abbrev pub kind_of : Segment Zone → ℕ
kind_of (run n) = kind_run
kind_of (direct n g) = kind_direct
kind_of (zone z) = kind_zone

-- The words of a segment, and of segments in page order.
unfoldable pub segment_encoding : Segment Zone → List ℕ
segment_encoding (run n) = kind_run ∷ n ∷ zeros (page_words * n - 2)
segment_encoding (direct n g) = kind_direct ∷ n ∷ g ∷ zeros (page_words * n - 3)
segment_encoding (zone z) = zone_encoding z

unfoldable pub segments_encoding : List (Segment Zone) → List ℕ
segments_encoding [] = []
segments_encoding (x ∷ r) = segment_encoding x ++ segments_encoding r

-- A segment that has words: it is valid, and has pages.
abbrev pub Writable : Segment Zone → Type 0
Writable x = (0 < pages x) × ValidSegment x

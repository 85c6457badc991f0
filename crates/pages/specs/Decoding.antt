-- The segments whose words these are. The decoder is total and tests nothing; `segments-decoded` says that it gives back what was
-- encoded. Assumes nothing.
use Rattle.std.specs.Prelude.{ℕ, zero, suc, ◌*◌, ◌≤◌, ◌≡◌, List, [], ◌∷◌, length, get_or, take, drop}
use Rattle.model.specs.Numbers.{most_pages, page_words}
use Rattle.model.specs.Arena.{Segment, run, direct, zone, pages, total, Each}
use Rattle.model.specs.Zone.{Zone}
use Rattle.zone.specs.Encoding.{zone_words}
use Rattle.zone.specs.Decoding.{zone_of}
use Rattle.pages.specs.Encoding.{segments_encoding, Writable}

-- The segment with which words begin, by the first of them.
unfoldable pub first_segment : ℕ → List ℕ → Segment Zone
first_segment zero w = zone (zone_of (take zone_words w))
first_segment (suc zero) w = run (get_or w 1 0)
first_segment (suc (suc zero)) w = direct (get_or w 1 0) (get_or w 2 0)
first_segment (suc (suc (suc k))) w = zone (zone_of (take zone_words w))

-- The segments, at most as many as the first argument says.
unfoldable pub some_segments : ℕ → List ℕ → List (Segment Zone)
some_segments zero w = []
some_segments (suc f) [] = []
some_segments (suc f) (x ∷ w) =
    let s = first_segment x (x ∷ w) in
    s ∷ some_segments f (drop (page_words * pages s) (x ∷ w))

unfoldable pub segments_of : List ℕ → List (Segment Zone)
segments_of w = some_segments (length w) w

-- The words w are those of the segments m, which are n pages.
pub record Encodes (w : List ℕ) (m : List (Segment Zone)) (n : ℕ) : Type 0 where
  pub words : w ≡ segments_encoding m
  pub sound : Each Writable m
  pub covers : total m ≡ n
  pub most : n ≤ most_pages

-- The words are those of some segments of n pages.
abbrev pub Holds : List ℕ → ℕ → Type 0
Holds w n = Encodes w (segments_of w) n

-- The listing's sections by the kind of their segments: the code walks over the segments once for a section's count and once for
-- its lines, whichever kind it is. `listing-sections` says that the three make the listing of the rules. Assumes nothing.
use Rattle.std.specs.Prelude.{ℕ, ◌+◌, cond, List, [], ◌∷◌, ◌++◌, eqb, length}
use Rattle.model.specs.Arena.{Segment, run, direct, zone, pages}
use Rattle.model.specs.Zone.{Zone}
use Rattle.model.specs.Text.{lines}
use Rattle.zone.specs.Live.{live_chunks}
use Rattle.pages.specs.Encoding.{kind_of}
use Rattle.text.specs.Writing.{named}

-- The row of a segment that begins at page p.
abbrev pub row_of : ℕ → Segment Zone → List ℕ
row_of p (run n) = p ∷ n ∷ []
row_of p (direct n g) = p ∷ n ∷ g ∷ []
row_of p (zone z) = p ∷ z.class ∷ live_chunks z ∷ []

-- Its rows in the section of the kind k: one if it is of that kind, else none.
unfoldable pub rows_at : ℕ → ℕ → Segment Zone → List (List ℕ)
rows_at k p x = cond (eqb (kind_of x) k) (row_of p x ∷ []) []

-- The rows of that section, for segments from page p on.
unfoldable pub rows_of : ℕ → ℕ → List (Segment Zone) → List (List ℕ)
rows_of k p [] = []
rows_of k p (x ∷ r) = rows_at k p x ++ rows_of k (p + pages x) r

-- A section: its name and the count of its rows, and the rows.
abbrev pub section_text : List ℕ → List (List ℕ) → List ℕ
section_text name rows = named name (length rows) ++ lines rows

-- The arena as a list of segments in page order: that every page is covered once is in its form. (Document 01: free runs,
-- direct blocks and zones cover every page once.) A segment is polymorphic in what it tells of a zone, so that the page map
-- is the same list with less said. Assumes nothing.
use Rattle.std.specs.Prelude.{ℕ, ◌+◌, ◌-◌, ◌*◌, List, [], ◌∷◌, ◌++◌, cond, ltb}
use Rattle.std.proofs.Math.Option.{Option, none, some}
use Rattle.model.specs.Numbers.{page_bytes, zone_pages}

-- A free run (pages), a direct block (pages, group), or a zone.
pub data Segment (Z : Type 0) : Type 0 where
  run : ℕ → Segment Z
  direct : ℕ → ℕ → Segment Z
  zone : Z → Segment Z

-- Its pages and its bytes.
abbrev pub pages : {Z : Type 0} → Segment Z → ℕ
pages (run n) = n
pages (direct n g) = n
pages (zone z) = zone_pages

abbrev pub bytes : {Z : Type 0} → Segment Z → ℕ
bytes x = pages x * page_bytes

-- The pages of a list of segments: of the whole arena, document 01's N.
abbrev pub total : {Z : Type 0} → List (Segment Z) → ℕ
total [] = 0
total (x ∷ r) = pages x + total r

-- The same segment, with its zone told another way.
abbrev pub retold : {A B : Type 0} → (A → B) → Segment A → Segment B
retold f (run n) = run n
retold f (direct n g) = direct n g
retold f (zone z) = zone (f z)

-- The segment that holds a byte, and how far behind its start the byte is.
pub record Place (Z : Type 0) : Type 0 where
  pub away : ℕ
  pub segment : Segment Z

abbrev pub locate : {Z : Type 0} → ℕ → List (Segment Z) → Option (Place Z)
locate o [] = none
locate o (x ∷ r) = cond (ltb o (bytes x)) (some (record { away = o; segment = x })) (locate (o - bytes x) r)

-- The segments, with the one that holds the byte o replaced.
abbrev pub edit : {Z : Type 0} → ℕ → (Segment Z → List (Segment Z)) → List (Segment Z) → List (Segment Z)
edit o f [] = []
edit o f (x ∷ r) = cond (ltb o (bytes x)) (f x ++ r) (x ∷ edit (o - bytes x) f r)

-- What holds of every segment.
abbrev pub Each : {Z : Type 0} → (Segment Z → Type 0) → List (Segment Z) → Type 0
Each P [] = Unit {0}
Each P (x ∷ r) = P x × Each P r

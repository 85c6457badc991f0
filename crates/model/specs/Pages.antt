-- Pages out and in (document 01) and how far the search for them looks (document 02, b), over any kind of zone. Assumes nothing.
use Rattle.std.specs.Prelude.{ℕ, zero, suc, ◌+◌, ◌-◌, ◌*◌, ◌/◌, List, [], ◌∷◌, Bool, false, cond, ◌||◌, leb}
use Rattle.std.proofs.Math.Option.{Option, none, some}
use Rattle.model.specs.Numbers.{page_bytes, zone_pages}
use Rattle.model.specs.Arena.{Segment, run, direct, zone, pages, edit}

-- A free run: its first page and its pages.
pub record FreeRun : Type 0 where
  pub page : ℕ
  pub size : ℕ

-- What a search comes to: what it chose, if anything, and how many runs it looked at.
pub record Search (A : Type 0) : Type 0 where
  pub chosen : Option A
  pub looked : ℕ

-- A search that goes on after k runs were looked at.
abbrev pub onward : {A : Type 0} → ℕ → Search A → Search A
onward k l = record { chosen = l.chosen; looked = k + l.looked }

-- The search l behind one that looked at k runs and chose as told: it is made if that chose nothing, and then both have looked.
abbrev pub followed : {A : Type 0} → Option A → ℕ → Search A → Search A
followed none k l = onward k l
followed (some a) k l = record { chosen = some a; looked = k }

-- The first run, in ascending order, that has n pages; every run up to it is looked at, or all if there is none. p pages stand before.
abbrev pub first_fit : {Z : Type 0} → ℕ → ℕ → List (Segment Z) → Search FreeRun
first_fit p n [] = record { chosen = none; looked = 0 }
first_fit p n (run m ∷ r) = cond (leb n m) (record { chosen = some (record { page = p; size = m }); looked = 1 }) (onward 1 (first_fit (p + m) n r))
first_fit p n (direct m g ∷ r) = first_fit (p + m) n r
first_fit p n (zone z ∷ r) = first_fit (p + zone_pages) n r

-- The search through the runs. Proofs use its laws and not its text: `claim-found`, `claim-none`, `claim-line`, `claim-all`,
-- `claim-bounded`, `claim-retold`.
unfoldable pub claim : {Z : Type 0} → ℕ → List (Segment Z) → Search FreeRun
claim n m = first_fit 0 n m

-- The most runs that one search looks at in an arena of n pages: half of them, rounded up. (`claim-bounded`: runs do not touch.)
abbrev pub most_looked : ℕ → ℕ
most_looked n = (n + 1) / 2

-- Whether some run has n pages: `claim-has` says that the search finds one just then.
abbrev pub has_run : {Z : Type 0} → ℕ → List (Segment Z) → Bool
has_run n [] = false
has_run n (run m ∷ r) = leb n m || has_run n r
has_run n (direct m g ∷ r) = has_run n r
has_run n (zone z ∷ r) = has_run n r

-- A run of n pages in front, unless n is 0.
abbrev pub with_run : {Z : Type 0} → ℕ → List (Segment Z) → List (Segment Z)
with_run zero r = r
with_run (suc n) r = run (suc n) ∷ r

-- The low pages of a free run go to the segment x of n pages; an exact run goes whole, of a longer one the rest stays.
abbrev pub carve : {Z : Type 0} → FreeRun → ℕ → Segment Z → List (Segment Z) → List (Segment Z)
carve h n x m = edit (h.page * page_bytes) (λ _. x ∷ with_run (h.size - n) []) m

-- Every zone that `gone` names becomes free pages, and free pages that touch become one run. n free pages stand before.
abbrev pub joined : {Z : Type 0} → (Z → Bool) → ℕ → List (Segment Z) → List (Segment Z)
joined gone n [] = with_run n []
joined gone n (run m ∷ r) = joined gone (n + m) r
joined gone n (direct m g ∷ r) = with_run n (direct m g ∷ joined gone 0 r)
joined gone n (zone z ∷ r) = cond (gone z) (joined gone (n + zone_pages) r) (with_run n (zone z ∷ joined gone 0 r))

-- The pages of the segment that holds the byte o come back, and are joined with what is free before and behind them.
-- (`joined-local`: with a run that ends where they begin and with one that begins where they end, both if both exist.)
abbrev pub free_pages : {Z : Type 0} → Segment Z → List (Segment Z)
free_pages x = run (pages x) ∷ []

abbrev pub release : {Z : Type 0} → ℕ → List (Segment Z) → List (Segment Z)
release o m = joined (λ _. false) 0 (edit o free_pages m)

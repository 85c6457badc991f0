-- Places among the segments, as the code names them: by page, and with the free run that ends there. Assumes nothing.
use Rattle.std.specs.Prelude.{ℕ, ◌+◌, ◌*◌, ◌<◌, ◌≤◌, ◌≡◌, List, [], ◌∷◌, ◌++◌, Bool, true, false, cond, ltb, eqb, length, Option, Some, None}
use Rattle.std.proofs.Math.Option as maybe
use Rattle.lemmas.specs.Zeros.{Zero}
use Rattle.model.specs.Numbers.{most_pages, page_words}
use Rattle.model.specs.Arena.{Segment, run, direct, zone, pages, total}
use Rattle.model.specs.Zone.{Zone}
use Rattle.model.specs.PageMap.{idle_zone}
use Rattle.model.specs.Pages.{FreeRun, Search, first_fit}
use Rattle.zone.specs.Encoding.{kind_zone}
use Rattle.pages.specs.Encoding.{kind_run, kind_direct}
use Rattle.pages.specs.declared.Kind.{Kind}
use Rattle.pages.specs.declared.Kind.TheVariants as kind
use Rattle.pages.specs.declared.Run.{Run}
use Rattle.pages.specs.declared.Choice.{Choice}
use Rattle.pages.specs.declared.Spot.{Spot}

-- The kind of a segment, as the code has it; and by the first of its words.
abbrev pub kind_in : Segment Zone → Kind
kind_in (run n) = kind.Run
kind_in (direct n g) = kind.Direct
kind_in (zone z) = kind.Zone

abbrev pub kind_by : ℕ → Kind
kind_by w = cond (eqb w kind_run) kind.Run (cond (eqb w kind_direct) kind.Direct kind.Zone)

-- The number that stands for a kind.
abbrev pub kind_number : Kind → ℕ
kind_number kind.Run = kind_run
kind_number kind.Direct = kind_direct
kind_number kind.Zone = kind_zone

-- The pages that are a run's, of so many of a segment of a kind.
abbrev pub run_len : Kind → ℕ → ℕ
run_len kind.Run n = n
run_len kind.Direct n = 0
run_len kind.Zone n = 0

-- A free run, or none, as the code has it.
abbrev pub found : maybe.Option FreeRun → Option Run
found maybe.none = None
found (maybe.some h) = Some (record { at = h.page; len = h.size })

-- What a search for pages came to.
abbrev pub choice_of : ℕ → maybe.Option FreeRun → Choice
choice_of k r = record { run = found r; looked = k }

abbrev pub choice : Search FreeRun → Choice
choice l = choice_of l.looked l.chosen

-- The pages of a segment that is a run, else 0.
abbrev pub run_pages : Segment Zone → ℕ
run_pages (run n) = n
run_pages (direct n g) = 0
run_pages (zone z) = 0

-- Whether the pages of a segment are free once trim has been there.
abbrev pub is_clear : Segment Zone → Bool
is_clear (run n) = true
is_clear (direct n g) = false
is_clear (zone z) = idle_zone z

-- The pages of the run that ends a list of segments, else 0. (b: for no segments.)
abbrev pub run_at_end : ℕ → List (Segment Zone) → ℕ
run_at_end b [] = b
run_at_end b (x ∷ r) = run_at_end (run_pages x) r

-- The pages of the run that begins a list of segments, else 0.
abbrev pub run_at_start : List (Segment Zone) → ℕ
run_at_start [] = 0
run_at_start (x ∷ r) = run_pages x

-- The segment x begins at the page p, and a run of b pages (0: none) ends there.
pub record Stands (m : List (Segment Zone)) (p b : ℕ) (x : Segment Zone) : Type 0 where
  pub before : List (Segment Zone)
  pub behind : List (Segment Zone)
  pub whole : m ≡ before ++ (x ∷ behind)
  pub starts : total before ≡ p
  pub ends : run_at_end 0 before ≡ b

-- The segments l are those from the page p on, and a run of b pages (0: none) ends there.
pub record Passed (m : List (Segment Zone)) (p b : ℕ) (l : List (Segment Zone)) : Type 0 where
  pub pre : List (Segment Zone)
  pub whole : m ≡ pre ++ l
  pub starts : total pre ≡ p
  pub ends : run_at_end 0 pre ≡ b

-- The first run of segments that begin at the page p: the first that has no pages or more.
abbrev pub first_run : ℕ → List (Segment Zone) → maybe.Option FreeRun
first_run p l = (first_fit p 0 l).chosen

-- The segment that holds the page q: its first page, its kind, its pages, and the pages of the run that ends where it begins. The
-- list begins at page p, behind a run of b pages.
unfoldable pub spot_from : ℕ → ℕ → ℕ → List (Segment Zone) → Option Spot
spot_from q b p [] = None
spot_from q b p (x ∷ r) =
    let rest = spot_from q (run_pages x) (p + pages x) r in
    cond (ltb q (p + pages x)) (Some (record { start = record { at = p; before = b }; kind = kind_in x; len = pages x })) rest

-- Words of n pages that are zero from word k on.
pub record Blank (w : List ℕ) (k n : ℕ) : Type 0 where
  pub long : length w ≡ page_words * n
  pub some : 0 < n
  pub most : n ≤ most_pages
  pub zero : Zero w k (page_words * n)

-- The listing (document 01, "The bench program and one whole session"): three sections, each after its count and ascending by
-- start, every line ended by LF. Assumes nothing.
use Rattle.std.specs.Prelude.{ℕ, zero, suc, ◌+◌, List, [], ◌∷◌, ◌++◌, leb, length}
use Prim.Native.String.{String}
use Rattle.model.specs.Numbers.{zone_pages}
use Rattle.model.specs.declared.Refusal.TheVariants.{ShortBuffer}
use Rattle.model.specs.declared.Answer.TheVariants.{Refused, Counted}
use Rattle.model.specs.Arena.{run, direct, zone}
use Rattle.model.specs.State.{State}
use Rattle.model.specs.PageMap.{PageMap, page_map}
use Rattle.model.specs.Ascii.{ascii}
use Rattle.model.specs.Text.{line, lines}
use Rattle.model.specs.Calls.{Outcome, answers, provided}

-- A section: its name, the count of its lines, and the lines.
unfoldable pub section : String → List (List ℕ) → List ℕ
section name rows = ascii name ++ (32 ∷ (line (length rows ∷ []) ++ lines rows))

-- How many chunks are live.
abbrev pub live_count : List ℕ → ℕ
live_count [] = 0
live_count (zero ∷ r) = live_count r
live_count (suc g ∷ r) = suc (live_count r)

-- The lines of the sections, for segments from page p on: runs (start, pages), direct blocks (start, pages, group), zones
-- (start, class, live chunks).
abbrev pub run_lines : ℕ → PageMap → List (List ℕ)
run_lines p [] = []
run_lines p (run n ∷ r) = (p ∷ n ∷ []) ∷ run_lines (p + n) r
run_lines p (direct n g ∷ r) = run_lines (p + n) r
run_lines p (zone l ∷ r) = run_lines (p + zone_pages) r

abbrev pub direct_lines : ℕ → PageMap → List (List ℕ)
direct_lines p [] = []
direct_lines p (run n ∷ r) = direct_lines (p + n) r
direct_lines p (direct n g ∷ r) = (p ∷ n ∷ g ∷ []) ∷ direct_lines (p + n) r
direct_lines p (zone l ∷ r) = direct_lines (p + zone_pages) r

abbrev pub zone_lines : ℕ → PageMap → List (List ℕ)
zone_lines p [] = []
zone_lines p (run n ∷ r) = zone_lines (p + n) r
zone_lines p (direct n g ∷ r) = zone_lines (p + n) r
zone_lines p (zone l ∷ r) = (p ∷ l.class ∷ live_count l.groups ∷ []) ∷ zone_lines (p + zone_pages) r

unfoldable pub listing_text : PageMap → List ℕ
listing_text m = section "runs" (run_lines 0 m) ++ (section "direct" (direct_lines 0 m) ++ section "zones" (zone_lines 0 m))

-- The listing into a buffer of so many bytes: its length. Refusal 12.
abbrev pub list_into : ℕ → State → Outcome State
list_into n s = let k = length (listing_text (page_map s)) in provided (leb k n) (Refused ShortBuffer) s (answers s (Counted k))

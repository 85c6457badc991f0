-- Rows of clear pages (document 01, "Demand 3, word by word"). Assumes nothing.
use Rattle.std.specs.Prelude.{ℕ, ◌+◌, ◌*◌, ◌≤◌, ◌<◌, ◌≡◌, Bool, true, false}
use Rattle.std.proofs.Math.Option.{Option, none, some}
use Rattle.model.specs.Numbers.{page_bytes}
use Rattle.model.specs.Arena.{Segment, run, direct, zone, Place, locate}
use Rattle.model.specs.PageMap.{Occupancy, PageMap, idle}

abbrev pub is_clear : Segment Occupancy → Bool
is_clear (run n) = true
is_clear (direct n g) = false
is_clear (zone l) = idle l

abbrev pub clear_there : Option (Place Occupancy) → Bool
clear_there none = false
clear_there (some a) = is_clear a.segment

-- Page q is one of the arena's, and is in no direct block and in no zone with a live chunk.
abbrev pub Clear : PageMap → ℕ → Type 0
Clear m q = clear_there (locate (q * page_bytes) m) ≡ true

-- Some n pages of the arena that follow each other are clear.
abbrev pub Row : ℕ → PageMap → Type 0
Row n m = (p : ℕ) × ((q : ℕ) → p ≤ q → q < p + n → Clear m q)

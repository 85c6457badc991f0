-- The bound on a listing's length is met: by the state of direct blocks of one page each, of group 12. Assumes nothing.
use Prim.Native.Nat.{ℕ, zero, suc, ◌*◌, ◌≤◌, ◌<◌}
use mathlib.Core.Path.{◌≡◌, refl}
use mathlib.Core.Bool.{false}
use mathlib.Core.List.{[]}
use native.Mathlib.Omega.{arith}
use lib.ListN.{length, replicate}
use Rattle.model.specs.Numbers.{most_group, class_count, most_pages, page_bytes}
use Rattle.model.specs.Arena.{Segment, run, direct, zone, total, Each}
use Rattle.model.specs.Zone.{Zone}
use Rattle.model.specs.State.{State, ZoneAt}
use Rattle.model.specs.PageMap.{shown, page_map}
use Rattle.model.specs.Valid.{Apart, ValidSegment, Valid}
use Rattle.model.specs.Listing.{listing_text}
use Rattle.model.proofs.Arena.{each-locate}
use Rattle.model.proofs.Validity.{bare-valid}
use Rattle.listing.specs.Longest.{singles, longest}

singles-total : (n : ℕ) → total {Z = Zone} (singles n) ≡ n
singles-total zero = refl
singles-total (suc n) = omega (arith, singles-total n)

singles-apart : (n : ℕ) → Apart {Z = Zone} false (singles n)
singles-apart zero = tt
singles-apart (suc n) = singles-apart n

singles-shown : (n : ℕ) → shown (singles n) ≡ singles n
singles-shown zero = refl
singles-shown (suc n) = cc (singles-shown n)

singles-each : (P : Segment Zone → Type 0) → P (direct 1 most_group) → (n : ℕ) → Each P (singles n)
singles-each P h zero = tt
singles-each P h (suc n) = (h, singles-each P h n)

-- No zone stands among them.
abbrev NoZone : Segment Zone → Type 0
NoZone (run n) = Unit {0}
NoZone (direct n g) = Unit {0}
NoZone (zone z) = ⊥

singles-bare : (n p : ℕ) (z : Zone) → ZoneAt (singles n) p z → ⊥
singles-bare n p z e = each-locate NoZone (singles n) (p * page_bytes) (singles-each NoZone tt n) e

-- A valid state of n pages has a listing of `longest n` bytes.
pub longest-met : (n : ℕ) → 0 < n → n ≤ most_pages → (s : State) × Valid s × (total s.segments ≡ n) × (length (listing_text (page_map s)) ≡ longest n)
unfolding longest
longest-met n least most =
    let all = singles-total n in
    let sound = singles-each ValidSegment (omega arith) n in (
      record { segments = singles n; lists = replicate class_count []; spare = [] },
      bare-valid (singles n) (omega arith) (omega arith) (singles-apart n) sound (singles-bare n),
      all,
      cc (singles-shown n),
    )

-- The longest listing of an arena of n pages: that of n direct blocks of one page each, of group 12. `listing-longest` says that no
-- valid state of n pages has a longer one, and `longest-met` that one has it. Assumes nothing.
use Rattle.std.specs.Prelude.{ℕ, List, length, replicate}
use Rattle.model.specs.Numbers.{most_group}
use Rattle.model.specs.Arena.{Segment, direct}
use Rattle.model.specs.Listing.{listing_text}

-- n such blocks.
abbrev pub singles : {Z : Type 0} → ℕ → List (Segment Z)
singles n = replicate n (direct 1 most_group)

-- The bytes of their listing.
unfoldable pub longest : ℕ → ℕ
longest n = length (listing_text (singles n))

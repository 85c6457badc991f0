-- All the words of a state, and no others, as every step is lent them. Between the steps of one call the state need not be valid: a
-- zone has changed already, its list not yet. Assumes nothing.
use Rattle.std.specs.Prelude.{ℕ, ◌≡◌, List}
use Rattle.model.specs.Arena.{total, Each}
use Rattle.model.specs.State.{State, ZoneAt, zone_at}
use Rattle.model.specs.Valid.{Valid}
use Rattle.header.specs.Encoding.{Fits}
use Rattle.pages.specs.Encoding.{Writable}
use Rattle.metadata.specs.Encoding.{encode}
use Rattle.metadata.specs.Decoding.{decode}

-- The words w are those of the state s, which has words.
pub record Encodes (w : List ℕ) (s : State) : Type 0 where
  pub words : w ≡ encode s
  pub fits : Fits (total s.segments) s.spare s.lists
  pub sound : Each Writable s.segments

-- The words are those of some state.
abbrev pub Lent : List ℕ → Type 0
Lent w = Encodes w (decode w)

-- A zone begins at the page p.
abbrev pub ZoneHere : State → ℕ → Type 0
ZoneHere s p = ZoneAt s.segments p (zone_at p s.segments)

-- The words are those of a valid state of n pages.
pub record Good (w : List ℕ) (n : ℕ) : Type 0 where
  pub lent : Lent w
  pub pages : n ≡ total (decode w).segments
  pub valid : Valid (decode w)

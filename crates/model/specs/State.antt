-- States (document 01, "The books"): the segments, one list of zones per class, and the empty list. A zone is named by its
-- start page. Assumes nothing.
use Rattle.std.specs.Prelude.{ℕ, ◌*◌, ◌≡◌, List, [], ◌∷◌, get_or, replicate}
use Rattle.std.proofs.Math.Option.{Option, none, some}
use Rattle.model.specs.Numbers.{page_bytes, class_count}
use Rattle.model.specs.Arena.{Segment, run, direct, zone, Place, locate, edit}
use Rattle.model.specs.Zone.{Zone}

-- lists: by class, its zones that have a chunk not live, front first. spare: the empty list, front first.
pub record State : Type 0 where
  pub segments : List (Segment Zone)
  pub lists : List (List ℕ)
  pub spare : List ℕ

-- The list of a class.
abbrev pub list_of : State → ℕ → List ℕ
list_of s c = get_or s.lists c []

-- The one place where a next state is made from a state.
abbrev pub arranged : State → List (Segment Zone) → List (List ℕ) → List ℕ → State
arranged s m ls sp = record { segments = m; lists = ls; spare = sp }

-- The fresh state of n pages: one run, nothing else.
abbrev pub fresh_state : ℕ → State
fresh_state n = record { segments = run n ∷ []; lists = replicate class_count []; spare = [] }

-- The segment x begins at the byte q; the zone z begins at the page p.
abbrev pub Begins : {Z : Type 0} → ℕ → List (Segment Z) → Segment Z → Type 0
Begins q m x = locate q m ≡ some (record { away = 0; segment = x })

abbrev pub ZoneAt : List (Segment Zone) → ℕ → Zone → Type 0
ZoneAt m p z = Begins (p * page_bytes) m (zone z)

-- The zone at a page. (The lists name zones only, so the other cases are never met.)
abbrev pub blank_zone : Zone
blank_zone = record { class = 0; owners = []; chain = [] }

abbrev pub zone_in : Option (Place Zone) → Zone
zone_in none = blank_zone
zone_in (some a) = elim a.segment [ run n ↦ blank_zone | direct n g ↦ blank_zone | zone z ↦ z ]

abbrev pub zone_at : ℕ → List (Segment Zone) → Zone
zone_at p m = zone_in (locate (p * page_bytes) m)

-- The segments with the zone at a page replaced.
abbrev pub put_zone : ℕ → Zone → List (Segment Zone) → List (Segment Zone)
put_zone p z m = edit (p * page_bytes) (λ _. zone z ∷ []) m

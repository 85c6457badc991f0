-- What each step makes of a state. The rules of the model are made of these. Assumes nothing.
use Rattle.std.specs.Prelude.{ℕ, ◌*◌, List, ◌∷◌, set}
use Rattle.lemmas.specs.Times.{remove}
use Rattle.model.specs.Numbers.{page_bytes}
use Rattle.model.specs.Arena.{Segment}
use Rattle.model.specs.Zone.{Zone}
use Rattle.model.specs.Pages.{FreeRun, carve, release}
use Rattle.model.specs.State.{State, list_of, arranged, put_zone}

-- The class's list is now l.
abbrev pub listed : ℕ → List ℕ → State → State
listed c l s = arranged s s.segments (set s.lists c l) s.spare

-- Page p goes to the front of the class's list, or leaves it.
abbrev pub fronted : ℕ → ℕ → State → State
fronted c p s = listed c (p ∷ list_of s c) s

abbrev pub unlisted : ℕ → ℕ → State → State
unlisted c p s = listed c (remove p (list_of s c)) s

-- The empty list is now l.
abbrev pub spared : List ℕ → State → State
spared l s = arranged s s.segments s.lists l

-- The segments are now m.
abbrev pub laid : List (Segment Zone) → State → State
laid m s = arranged s m s.lists s.spare

-- The zone at page p is now z; the run h gives its low n pages to the segment x; the pages of the segment at page p come back.
abbrev pub rezoned : ℕ → Zone → State → State
rezoned p z s = laid (put_zone p z s.segments) s

abbrev pub carved : FreeRun → ℕ → Segment Zone → State → State
carved h n x s = laid (carve h n x s.segments) s

abbrev pub released : ℕ → State → State
released p s = laid (release (p * page_bytes) s.segments) s

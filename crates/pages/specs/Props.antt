-- That the words are those of segments is one fact and no choice: so a value can carry it. Assumes nothing.
use Rattle.std.specs.Prelude.{ℕ, List, [], ◌∷◌}
use Rattle.model.specs.Arena.{Segment, run, direct, zone, Each}
use Rattle.model.specs.Zone.{Zone}
use Rattle.model.specs.Valid.{ValidSegment}
use Rattle.pages.specs.Encoding.{Writable}
use Rattle.pages.specs.Decoding.{Holds}
use Rattle.std.proofs.Props.{props}

valid-segment-prop : (x : Segment Zone) → IsProp (ValidSegment x)
valid-segment-prop (run n) = Prim.hlevel props
valid-segment-prop (direct n g) = Prim.hlevel props
valid-segment-prop (zone z) = Prim.hlevel props

each-prop : (m : List (Segment Zone)) → IsProp (Each Writable m)
each-prop [] = Prim.hlevel props
each-prop (x ∷ r) = let a = valid-segment-prop x in let b = each-prop r in Prim.hlevel (props, a, b)

pub holds-prop : (w : List ℕ) (n : ℕ) → IsProp (Holds w n)
holds-prop w n = Prim.hlevel (props, each-prop)

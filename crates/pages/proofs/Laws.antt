-- Laws of the segments' words: their lengths, what their first words say, and what stands behind a segment. Assumes nothing.
use Prim.Native.Nat.{ℕ, ◌+◌, ◌-◌, ◌*◌, ◌≤◌, ◌<◌}
use mathlib.Core.Path.{◌≡◌, refl, ap}
use mathlib.Core.List.{List, [], ◌∷◌, ◌++◌, append_assoc, append-nil}
use mathlib.Core.Bool.{Bool, true, false}
use Rattle.std.proofs.Common.{◌⊎◌, inl, inr}
use native.Mathlib.Omega.{arith}
use lib.ListN.{length, get_or, drop, length-append}
use lib.Seq.{drop_at}
use Rattle.lemmas.proofs.Cases.{clash}
use Rattle.lemmas.proofs.Zeros.{length-zeros}
use Rattle.model.specs.Numbers.{page_words, zone_pages}
use Rattle.model.specs.Arena.{Segment, run, direct, zone, pages, total, Each}
use Rattle.model.specs.Zone.{Zone}
use Rattle.model.specs.Valid.{ValidSegment}
use Rattle.model.proofs.Arena.{total-append}
use Rattle.zone.specs.Encoding.{zone_encoding, kind_zone}
use Rattle.zone.proofs.Words.{length-encoding}
use Rattle.pages.specs.declared.Kind.{Kind}
use Rattle.pages.specs.declared.Kind.TheVariants as kind
use Rattle.pages.specs.Places.{kind_in, kind_by, kind_number}
use Rattle.pages.specs.Encoding.{kind_of, segment_encoding, segments_encoding, Writable}

pub length-segment : (x : Segment Zone) → 0 < pages x → length (segment_encoding x) ≡ page_words * pages x
unfolding segment_encoding
length-segment (run n) h = omega (arith, length-zeros (page_words * n - 2))
length-segment (direct n g) h = omega (arith, length-zeros (page_words * n - 3))
length-segment (zone z) h = length-encoding z

pub length-segments : (m : List (Segment Zone)) → Each Writable m → length (segments_encoding m) ≡ page_words * total m
unfolding segments_encoding
length-segments [] h = refl
length-segments (x ∷ r) h = omega (arith, length-append (segment_encoding x) (segments_encoding r), length-segment x h.0.0, length-segments r h.1)

pub encoding-append : (a b : List (Segment Zone)) → segments_encoding (a ++ b) ≡ segments_encoding a ++ segments_encoding b
unfolding segments_encoding
encoding-append [] b = refl
encoding-append (x ∷ a) b = cc (encoding-append a b, append_assoc (segment_encoding x) (segments_encoding a) (segments_encoding b))

pub encoding-one : (x : Segment Zone) → segments_encoding (x ∷ []) ≡ segment_encoding x
unfolding segments_encoding
encoding-one x = append-nil _

-- The kind, and the number that stands for it.
pub kind-told : (x : Segment Zone) → kind_by (kind_of x) ≡ kind_in x
kind-told (run n) = refl
kind-told (direct n g) = refl
kind-told (zone z) = refl

pub kind-number : (x : Segment Zone) → kind_number (kind_in x) ≡ kind_of x
kind-number (run n) = refl
kind-number (direct n g) = refl
kind-number (zone z) = refl

-- A segment of one of two kinds is none of the third.
pub no_run : (x : Segment Zone) {k : Kind} → k ≡ kind_in x → (k ≡ kind.Direct) ⊎ (k ≡ kind.Zone) → kind_in x ≡ kind.Run → ⊥
no_run x e (inl d) f = clash (cc)
no_run x e (inr z) f = clash (cc)

pub no_zone : (x : Segment Zone) {k : Kind} → k ≡ kind_in x → (k ≡ kind.Run) ⊎ (k ≡ kind.Direct) → kind_of x ≡ kind_zone → ⊥
no_zone (run n) e f q = omega arith
no_zone (direct n g) e f q = omega arith
no_zone (zone z) e (inl r) q = clash (cc)
no_zone (zone z) e (inr d) q = clash (cc)

-- The first words.
pub kind-is : (x : Segment Zone) (w : List ℕ) → get_or (segment_encoding x ++ w) 0 0 ≡ kind_of x
unfolding segment_encoding zone_encoding
kind-is (run n) w = refl
kind-is (direct n g) w = refl
kind-is (zone z) w = refl

abbrev pub is_run : Segment Zone → Bool
is_run (run n) = true
is_run (direct n g) = false
is_run (zone z) = false

pub size_is : (x : Segment Zone) (w : List ℕ) → (kind_of x ≡ kind_zone → ⊥) → get_or (segment_encoding x ++ w) 1 0 ≡ pages x
unfolding segment_encoding
size_is (run n) w h = refl
size_is (direct n g) w h = refl
size_is (zone z) w h = absurd (h refl)

pub group-is : (n g : ℕ) (w : List ℕ) → get_or (segment_encoding (direct n g) ++ w) 2 0 ≡ g
unfolding segment_encoding
group-is n g w = refl

pub zone-size : (x : Segment Zone) → kind_in x ≡ kind.Zone → pages x ≡ zone_pages
zone-size (run n) h = clash (cc)
zone-size (direct n g) h = clash (cc)
zone-size (zone z) h = refl

pub pages-most : (x : Segment Zone) (a b : List (Segment Zone)) (m : List (Segment Zone)) → m ≡ a ++ (x ∷ b) → total a + pages x ≤ total m
pages-most x a b m e = omega (arith, ap (λ l. total l) e, total-append a (x ∷ b))

-- What stands behind a segment.
pub drop-segment : (x : Segment Zone) (w : List ℕ) → 0 < pages x → drop (page_words * pages x) (segment_encoding x ++ w) ≡ w
drop-segment x w h = drop_at (segment_encoding x) w _ (length-segment x h)

-- Segments that have words are valid.
pub all_valid : (m : List (Segment Zone)) → Each Writable m → Each ValidSegment m
all_valid [] h = tt
all_valid (x ∷ r) h = (h.0.1, all_valid r h.1)

-- The parts of a sound list.
pub each_left : (a b : List (Segment Zone)) → Each Writable (a ++ b) → Each Writable a
each_left [] b h = tt
each_left (x ∷ a) b h = (h.0, each_left a b h.1)

pub each_right : (a b : List (Segment Zone)) → Each Writable (a ++ b) → Each Writable b
each_right [] b h = h
each_right (x ∷ a) b h = each_right a b h.1

pub zone-first : (z : Zone) → get_or (zone_encoding z) 0 0 ≡ 3
unfolding zone_encoding
zone-first z = refl

-- The decoder gives back the segments that were encoded. Assumes nothing.
use Prim.Native.Nat.{ℕ, zero, suc, ◌≤◌}
use mathlib.Core.Path.{◌≡◌, refl, ap, ◌∙◌}
use mathlib.Core.List.{List, [], ◌∷◌, ◌++◌}
use native.Mathlib.Omega.{arith}
use native.Mathlib.Nat.{le_refl}
use lib.ListN.{length, get_or, take, drop, length-append}
use lib.Seq.{take_at, drop_at}
use Rattle.model.specs.Arena.{Segment, run, direct, zone, Each}
use Rattle.model.specs.Zone.{Zone}
use Rattle.model.specs.Valid.{ValidZone}
use Rattle.zone.specs.Encoding.{zone_encoding, zone_words}
use Rattle.zone.specs.Decoding.{zone_of}
use Rattle.zone.proofs.Words.{length-encoding}
use Rattle.zone.proofs.Encoded.{zone-decoded}
use Rattle.pages.specs.Encoding.{segment_encoding, segments_encoding, Writable}
use Rattle.pages.specs.Decoding.{first_segment, some_segments, segments_of, Encodes, Holds}
use Rattle.pages.proofs.Laws.{length-segment, drop-segment}

first-zone : (f : ℕ) (l : List ℕ) → get_or l 0 0 ≡ 3 → some_segments (suc f) l ≡ zone (zone_of (take zone_words l)) ∷ some_segments f (drop zone_words l)
unfolding some_segments first_segment
first-zone f [] e = absurd (omega arith)
first-zone f (x ∷ l) e = cc

zone-kind : (z : Zone) (w : List ℕ) → get_or (zone_encoding z ++ w) 0 0 ≡ 3
unfolding zone_encoding
zone-kind z w = refl

zone-first : (f : ℕ) (z : Zone) (w : List ℕ) → ValidZone z → zone (zone_of (take zone_words (zone_encoding z ++ w))) ∷ some_segments f (drop zone_words (zone_encoding z ++ w)) ≡ zone z ∷ some_segments f w
zone-first f z w h =
    cc (take_at (zone_encoding z) w zone_words (length-encoding z), zone-decoded z h, drop_at (zone_encoding z) w zone_words (length-encoding z))

one-decoded : (f : ℕ) (x : Segment Zone) (w : List ℕ) → Writable x → some_segments (suc f) (segment_encoding x ++ w) ≡ x ∷ some_segments f w
unfolding some_segments first_segment segment_encoding
one-decoded f (run n) w h = cc (drop-segment (run n) w h.0)
one-decoded f (direct n g) w h = cc (drop-segment (direct n g) w h.0)
one-decoded f (zone z) w h = first-zone f (zone_encoding z ++ w) (zone-kind z w) ∙ zone-first f z w h.1

some-decoded : (f : ℕ) (m : List (Segment Zone)) → Each Writable m → length (segments_encoding m) ≤ f → some_segments f (segments_encoding m) ≡ m
unfolding some_segments segments_encoding
some-decoded zero [] h k = refl
some-decoded (suc f) [] h k = refl
some-decoded zero (x ∷ r) h k = absurd (omega (arith, length-append (segment_encoding x) (segments_encoding r), length-segment x h.0.0))
some-decoded (suc f) (x ∷ r) h k =
    one-decoded f x _ h.0
    ∙ ap (λ l. x ∷ l) (some-decoded f r h.1 (omega (arith, length-append (segment_encoding x) (segments_encoding r), length-segment x h.0.0)))

pub segments-decoded : (m : List (Segment Zone)) → Each Writable m → segments_of (segments_encoding m) ≡ m
unfolding segments_of
segments-decoded m h = some-decoded _ m h (le_refl _)

-- Words that are those of some segments hold them, and decode to them.
pub decodes-to : {w : List ℕ} {m : List (Segment Zone)} {n : ℕ} → Encodes w m n → segments_of w ≡ m
decodes-to {w} {m} {n} h = cc (segments-decoded m h.sound)

pub holds : {w : List ℕ} {m : List (Segment Zone)} {n : ℕ} → Encodes w m n → Holds w n
holds {w} {m} {n} h = rw (decodes-to h) h

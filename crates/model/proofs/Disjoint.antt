-- Live blocks of a valid state lie inside the arena and never share a byte. Assumes nothing.
use Prim.Native.Nat.{ℕ, ◌+◌, ◌*◌, ◌≤◌, ◌<◌}
use mathlib.Core.Path.{◌≡◌, sym, ◌∙◌, ap}
use mathlib.Core.List.{List, [], ◌∷◌, map}
use mathlib.Core.Option.{some}
use native.Mathlib.Omega.{arith}
use native.Mathlib.Nat.{mul-le-mul_right}
use lib.Dec.{ltb}
use lib.ListN.{length}
use borrow.Author.Tests.{ltb-true, ltb-false}
use Rattle.lemmas.proofs.Cases.{bool, some_inj, clash, none-some, by-eq}
use Rattle.model.specs.Numbers.{page_bytes}
use Rattle.model.specs.Sizes.{room, chunks}
use Rattle.model.specs.Arena.{Segment, run, direct, zone, bytes, total, retold, Each}
use Rattle.model.specs.Zone.{Zone}
use Rattle.model.specs.State.{State}
use Rattle.model.specs.PageMap.{Occupancy, occupancy, PageMap, page_map, Block, whole, chunk, room_of, block_in, block_at}
use Rattle.model.specs.Valid.{ValidSegment, Valid}
use Rattle.model.proofs.Sizes.{chunk_inside}
use Rattle.model.proofs.Arena.{total-retold}
use Rattle.model.proofs.Zones.{owned-touched}
use Rattle.model.proofs.Blocks.{Sized, padded-length}
use Rattle.model.proofs.Released.{whole-there, ChunkThere, chunk-there}

-- The page map of valid segments has the sizes that it says.
all-sized : (m : List (Segment Zone)) → Each ValidSegment m → Each Sized (map (retold occupancy) m)
all-sized [] h = tt
all-sized (run n ∷ r) h = (tt, all-sized r h.1)
all-sized (direct n g ∷ r) h = (h.0.0, all-sized r h.1)
all-sized (zone z ∷ r) h = (padded-length _ z.owners, all-sized r h.1)

pub sized-map : (s : State) → Valid s → Each Sized (page_map s)
sized-map s v = all-sized s.segments v.sound

-- In one segment ---------------------------------------------------------------------------------------------------------

zone-sized : (c : ℕ) (l : List ℕ) (x : Segment Occupancy) → Sized x → x ≡ zone (record { class = c; groups = l }) → length l ≡ chunks c
zone-sized c l x h e = rw e at h

segment-inside : (x : Segment Occupancy) → Sized x → (d : ℕ) (b : Block) → block_in d x ≡ some b → d + room_of b ≤ bytes x
segment-inside x h d (whole n g) e = let W = whole-there n g d x e in omega (arith, ap (λ y. bytes y) W.0)
segment-inside x h d (chunk c i g) e =
    let C = chunk-there c i g d x e in
    let i-in : i < length C.groups = owned-touched C.groups i (omega arith) in
    omega (arith, chunk_inside c i (omega (arith, zone-sized c C.groups x h C.is-zone)), ap (λ y. bytes y) C.is-zone)

segment-apart : (x : Segment Occupancy) (d e : ℕ) (b c : Block) → block_in d x ≡ some b → block_in e x ≡ some c → d < e → d + room_of b ≤ e
segment-apart x d e (whole n g) (whole k j) p q l = absurd (omega (arith, (whole-there k j e x q).1))
segment-apart x d e (whole n g) (chunk c i j) p q l = absurd (not-both (whole-there n g d x p).0 (chunk-there c i j e x q).is-zone)
  where
    not-both : {l : Occupancy} → x ≡ direct n g → x ≡ zone l → ⊥
    not-both u v = clash (cc)
segment-apart x d e (chunk c i j) (whole n g) p q l = absurd (not-both (whole-there n g e x q).0 (chunk-there c i j d x p).is-zone)
  where
    not-both : {l : Occupancy} → x ≡ direct n g → x ≡ zone l → ⊥
    not-both u v = clash (cc)
segment-apart x d e (chunk c i g) (chunk k j h) p q l = go (chunk-there c i g d x p) (chunk-there k j h e x q)
  where
    class_of : Segment Occupancy → ℕ
    class_of (run n) = 0
    class_of (direct n g) = 0
    class_of (zone l) = l.class

    go : ChunkThere c i g d x → ChunkThere k j h e x → d + room c ≤ e
    go C D =
        let same : k ≡ c = ap class_of (sym D.is-zone ∙ C.is-zone) in
        let e-at : e ≡ j * room c = cc in
        bool (ltb i j)
        (λ t. omega (arith, mul-le-mul_right (room c) (ltb-true i j t)))
        (λ t. absurd (omega (arith, mul-le-mul_right (room c) (ltb-false i j t))))

-- In the whole page map -----------------------------------------------------------------------------------------------------

map-inside : (m : PageMap) → Each Sized m → (o : ℕ) (b : Block) → block_at m o ≡ some b → o + room_of b ≤ total m * page_bytes
map-inside [] h o b e = none-some e
map-inside (x ∷ r) h o b e = bool (ltb o (bytes x))
    (λ t. omega (arith, segment-inside x h.0 o b (rw t at e)))
    (λ t. omega (arith, map-inside r h.1 _ b (rw t at e)))

map-apart : (m : PageMap) → Each Sized m → (o q : ℕ) (b c : Block) → block_at m o ≡ some b → block_at m q ≡ some c → o < q → o + room_of b ≤ q
map-apart [] h o q b c e f l = none-some e
map-apart (x ∷ r) h o q b c e f l = bool (ltb o (bytes x))
    (λ t. bool (ltb q (bytes x))
    (λ u. segment-apart x o q b c (rw t at e) (rw u at f) l)
    (λ u. omega (arith, ltb-false, segment-inside x h.0 o b (rw t at e))))
    (λ t. bool (ltb q (bytes x))
    (λ u. absurd (omega (arith, ltb-false, ltb-true)))
    (λ u. omega (arith, ltb-false, map-apart r h.1 _ _ b c (rw t at e) (rw u at f) (omega (arith, ltb-false)))))

-- A live block lies inside the arena.
pub inside-arena : (s : State) → Valid s → (o : ℕ) (b : Block) → block_at (page_map s) o ≡ some b → o + room_of b ≤ total s.segments * page_bytes
inside-arena s v o b e = omega (arith, map-inside (page_map s) (sized-map s v) o b e, total-retold occupancy s.segments)

-- A byte x that two live blocks hold is held by one block.
pub never-share : (s : State) → Valid s → (o q : ℕ) (b c : Block) → block_at (page_map s) o ≡ some b → block_at (page_map s) q ≡ some c → (x : ℕ) → o ≤ x → x < o + room_of b → q ≤ x → x < q + room_of c → (o ≡ q) × (b ≡ c)
never-share s v o q b c e f x a k a' k' = by-eq o q
    (λ p. (p, some_inj (cc)))
    (λ ne. absurd (bool (ltb o q)
    (λ t. omega (arith, map-apart (page_map s) sized o q b c e f (ltb-true o q t)))
    (λ t. omega (arith, map-apart (page_map s) sized q o c b f e (omega (arith, ltb-false))))))
  where
    sized : Each Sized (page_map s)
    sized = sized-map s v

-- Laws of what a group holds: over joined page maps, in a zone by its owners, and that its live blocks and held bytes fit in the pages.
-- Assumes nothing.
use Prim.Native.Nat.{ℕ, zero, suc, ◌+◌, ◌*◌, ◌≤◌, ◌<◌}
use mathlib.Core.Path.{◌≡◌, refl, ◌∙◌}
use mathlib.Core.List.{List, [], ◌∷◌, ◌++◌}
use native.Mathlib.Omega.{arith}
use native.Mathlib.Nat.{div-mul-le_self, mul-le-mul_right, mul-le-mul_left}
use lib.Dec.{eqb}
use lib.ListN.{length}
use Rattle.lemmas.specs.Times.{times}
use Rattle.lemmas.proofs.Cases.{either}
use Rattle.lemmas.proofs.Times.{times-cons, times-there, times-most}
use Rattle.model.specs.Numbers.{page_bytes, zone_bytes}
use Rattle.model.specs.Sizes.{room, chunks}
use Rattle.model.specs.Arena.{Segment, run, direct, zone, bytes, total, retold, Each}
use Rattle.model.specs.Zone.{Zone}
use Rattle.model.specs.PageMap.{Occupancy, PageMap, padded, occupancy, shown}
use Rattle.model.specs.Valid.{ValidSegment}
use Rattle.model.specs.Holdings.{blocks_in, room_in, figure_of, one, blocks_of, held_of}
use Rattle.model.proofs.Sizes.{room-pos}
use Rattle.model.proofs.Blocks.{padded-length}

pub figure-append : (each : Segment Occupancy → ℕ) (g : ℕ) (a b : PageMap) → figure_of each g (a ++ b) ≡ figure_of each g a + figure_of each g b
figure-append each g [] b = omega arith
figure-append each g (x ∷ a) b = omega (arith, figure-append each g a b)

-- The zeros of the chunks that were never handed out are no group's.
pub times-padded : (g n : ℕ) (l : List ℕ) → 0 < g → length l ≤ n → times g (padded n l) ≡ times g l
times-padded g zero [] p h = refl
times-padded g zero (x ∷ l) p h = absurd (omega arith)
times-padded g (suc n) [] p h = times-there g (padded n []) (omega arith) ∙ times-padded g n [] p (omega arith)
times-padded g (suc n) (x ∷ l) p h =
    let e = times-padded g n l p (omega arith) in
    omega (arith, times-cons g x (padded n l), times-cons g x l)

-- ---- a group's live blocks in a segment, and their bytes, fit in it

chunks-most : (g : ℕ) (z : Zone) → times g (occupancy z).groups ≤ chunks z.class
chunks-most g z = omega (arith, times-most g (occupancy z).groups, padded-length (chunks z.class) z.owners)

pub rooms-most : (c k : ℕ) → k ≤ chunks c → k * room c ≤ zone_bytes
unfolding chunks
rooms-most c k h = omega (arith, div-mul-le_self zone_bytes (room c), mul-le-mul_right (room c) h)

held_in : (g : ℕ) (x : Segment Zone) → ValidSegment x → blocks_in g (retold occupancy x) * room_in (retold occupancy x) ≤ bytes x
held_in g (run n) v = omega arith
held_in g (direct n h) v = either (λ k. k * (n * page_bytes) ≤ n * page_bytes) (eqb h g) 1 0 (λ e. omega arith) (λ e. omega arith)
held_in g (zone z) v = rooms-most z.class _ (chunks-most g z)

blocks-in : (g : ℕ) (x : Segment Zone) → ValidSegment x → blocks_in g (retold occupancy x) * one (retold occupancy x) ≤ bytes x
blocks-in g (run n) v = omega arith
blocks-in g (direct n h) v = either (λ k. k * 1 ≤ n * page_bytes) (eqb h g) 1 0 (λ e. omega arith) (λ e. omega arith)
blocks-in g (zone z) v =
    let k = times g (occupancy z).groups in
    omega (arith, rooms-most z.class k (chunks-most g z), room-pos z.class, mul-le-mul_left k (room-pos z.class))

-- .. and so in all pages.
figure-most : (each : Segment Occupancy → ℕ) (g : ℕ) → ((x : Segment Zone) → ValidSegment x → blocks_in g (retold occupancy x) * each (retold occupancy x) ≤ bytes x)
    → (m : List (Segment Zone)) → Each ValidSegment m → figure_of each g (shown m) ≤ total m * page_bytes
figure-most each g h [] v = omega arith
figure-most each g h (x ∷ m) v = let a = h x v.0 in let b = figure-most each g h m v.1 in omega arith

pub held-most : (g : ℕ) (m : List (Segment Zone)) → Each ValidSegment m → held_of g (shown m) ≤ total m * page_bytes
held-most g m v = figure-most room_in g (held_in g) m v

pub blocks-most : (g : ℕ) (m : List (Segment Zone)) → Each ValidSegment m → blocks_of g (shown m) ≤ total m * page_bytes
blocks-most g m v = figure-most one g (blocks-in g) m v

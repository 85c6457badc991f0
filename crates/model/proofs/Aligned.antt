-- Where blocks begin: at a multiple of every number that divides both a page's bytes and the block's room. So every offset that is
-- granted is a multiple of 8, of the step of its size, and from 8,192 bytes up of a page's bytes. Assumes nothing.
use Prim.Native.Nat.{ℕ, zero, suc, ◌*◌, ◌%◌, ◌≤◌, ◌<◌, ◌∣◌}
use mathlib.Core.Path.{◌≡◌, refl}
use mathlib.Core.List.{[], ◌∷◌}
use mathlib.Core.Option.{some}
use native.Mathlib.Omega.{arith}
use native.Mathlib.Nat.{mul-mod_left, mod_self, dvd-zero, dvd-mul_left_of_dvd, dvd-sub_iff_left, mod-eq-zero_of_dvd, dvd_of_mod-eq-zero}
use lib.Dec.{ltb}
use borrow.Author.Tests.{ltb-false, lt-ltb, le-ltb}
use Rattle.lemmas.proofs.Cases.{bool, either, clash, none-some}
use Rattle.model.specs.Numbers.{page_bytes, large_size}
use Rattle.model.specs.declared.Answer.TheVariants.{Granted}
use Rattle.model.specs.Sizes.{step, rounded, class_of, room, pages_for, room_for}
use Rattle.model.specs.Arena.{Segment, pages, bytes}
use Rattle.model.specs.State.{State}
use Rattle.model.specs.PageMap.{Occupancy, PageMap, page_map, Block, whole, chunk, room_of, block_in, block_at}
use Rattle.model.specs.Valid.{Valid}
use Rattle.model.specs.Allocate.{allocate}
use Rattle.model.proofs.Sizes.{room-rows, step-rows, classed}
use Rattle.model.proofs.Released.{whole-there, chunk-there}
use Rattle.model.proofs.Allocated.{Allocated, gives, denies, allocated}

-- Live blocks ---------------------------------------------------------------------------------------------------------------

module _ (d : ℕ) (page : d ∣ page_bytes) where
  segment-divides : (x : Segment Occupancy) (o : ℕ) (b : Block) → block_in o x ≡ some b → d ∣ room_of b → d ∣ o
  segment-divides x o (whole n g) e h = rw (whole-there n g o x e).1 (dvd-zero d)
  segment-divides x o (chunk c i g) e h = rw (chunk-there c i g o x e).at (dvd-mul_left_of_dvd d h i)

  map-divides : (m : PageMap) (o : ℕ) (b : Block) → block_at m o ≡ some b → d ∣ room_of b → d ∣ o
  map-divides [] o b e h = none-some e
  map-divides (x ∷ r) o b e h = bool (ltb o (bytes x))
      (λ t. segment-divides x o b (rw t at e) h)
      (λ t. (dvd-sub_iff_left d (ltb-false o (bytes x) t) (dvd-mul_left_of_dvd d page (pages x))).0 (map-divides r _ b (rw t at e) h))

-- A live block begins at a multiple of every number that divides a page's bytes and the block's room.
pub block-aligned : (m : PageMap) (o : ℕ) (b : Block) → block_at m o ≡ some b → (d : ℕ) → page_bytes % d ≡ 0 → room_of b % d ≡ 0 → o % d ≡ 0
block-aligned m o b e d p h = mod-eq-zero_of_dvd d (map-divides d (dvd_of_mod-eq-zero d p) m o b e (dvd_of_mod-eq-zero d h))

-- Grants --------------------------------------------------------------------------------------------------------------------

-- What is so of the offset o granted to a request of n bytes.
pub record Aligned (n o : ℕ) : Type 0 where
  -- it is a multiple of every number that divides a page's bytes and the room given,
  pub divided : (d : ℕ) → page_bytes % d ≡ 0 → room_for n % d ≡ 0 → o % d ≡ 0
  -- so of the room itself, where that divides a page's bytes (8, 16, 32, .. 4,096),
  pub by-room : page_bytes % room_for n ≡ 0 → o % room_for n ≡ 0
  -- always of 8, of a chunk's step, and of a page's bytes where whole pages are given
  pub by-eight : o % 8 ≡ 0
  pub by-step : n < large_size → o % step n ≡ 0
  pub by-page : large_size ≤ n → o % page_bytes ≡ 0

-- The room is a multiple of 8; of a chunk's step, too, and a page's bytes are of every step.
room-eights : (n : ℕ) → room_for n % 8 ≡ 0
room-eights n = either (λ k. k % 8 ≡ 0) (ltb n large_size) (room (class_of n)) (pages_for n * page_bytes)
    (λ t. room-rows (λ k. k % 8 ≡ 0) (class_of n) (omega arith))
    (λ t. omega arith)

page-steps : (n : ℕ) → page_bytes % step n ≡ 0
page-steps n = step-rows (λ k. page_bytes % k ≡ 0) n refl refl refl refl refl refl refl

rounded-steps : (n : ℕ) → rounded n % step n ≡ 0
unfolding rounded
rounded-steps n = mul-mod_left _ (step n)

class-steps : (n : ℕ) → n < large_size → room (class_of n) % step n ≡ 0
unfolding step rounded class_of room
class-steps zero h = refl
class-steps (suc n) h = cc ((classed (suc n) (omega arith) h).room-class, rounded-steps (suc n))

room-steps : (n : ℕ) → n < large_size → room_for n % step n ≡ 0
room-steps n h = rw (lt-ltb n large_size h) (class-steps n h)

aligned : (n o : ℕ) → ((d : ℕ) → page_bytes % d ≡ 0 → room_for n % d ≡ 0 → o % d ≡ 0) → Aligned n o
aligned n o f = record {
  divided = f;
  by-room = λ h. f (room_for n) h (mod_self (room_for n));
  by-eight = f 8 refl (room-eights n);
  by-step = λ h. f (step n) (page-steps n) (room-steps n h);
  by-page = λ h. f page_bytes refl (rw (le-ltb n large_size h) (mul-mod_left _ page_bytes));
}

-- A grant on a valid state is aligned: the block that it makes live begins there, with that room.
pub grant-aligned : (s : State) → Valid s → (c g n o k : ℕ) → (allocate c g n s).answer ≡ Granted o k → Aligned n o
grant-aligned s v c g n o k e = aligned n o (go (allocated s v c g n))
  where
    go : Allocated s g (room_for n) (allocate c g n s) → (d : ℕ) → page_bytes % d ≡ 0 → room_for n % d ≡ 0 → o % d ≡ 0
    go (gives q j b a _ _ r only) d p h =
        let same : q ≡ o = cc in
        block-aligned (page_map (allocate c g n s).after) o b (cc) d p (cc)
    go (denies r j a _) d p h = clash (cc)

-- Laws of sizes, each proved once over the size or the class: classes are below 64, the room of a size's class is the rounded
-- size, which is the size or less than a step above it, and a zone's chunks lie inside it. Assumes nothing.
use Prim.Native.Nat.{ℕ, suc, ◌+◌, ◌-◌, ◌*◌, ◌/◌, ◌%◌, ◌≤◌, ◌<◌}
use mathlib.Core.Path.{◌≡◌, refl}
use mathlib.Core.Bool.{Bool, true, false, cond}
use native.Mathlib.Omega.{arith}
use native.Mathlib.Nat.{div-add-mod', mod-lt, mul-div_cancel, div-mul-le_self, mul-le-mul_right, le-div_iff_mul-le, div-lt_iff_lt-mul}
use lib.Dec.{ltb}
use borrow.Author.Tests.{ltb-true, ltb-false}
use Rattle.lemmas.proofs.Cases.{bool}
use Rattle.model.specs.Numbers.{large_size, most_bytes, class_count, zone_bytes}
use Rattle.model.specs.Sizes.{step, rounded, class_of, room, chunks, room_for}

-- A claim about a choice by a test, from its two sides.
by_row {ℓ} : (P : ℕ → Type ℓ) (n k x y : ℕ) → (n < k → P x) → (k ≤ n → P y) → P (cond (ltb n k) x y)
by_row P n k x y f g = go (ltb n k) (ltb-true n k) (ltb-false n k)
  where
    go : (t : Bool) → (t ≡ true → n < k) → (t ≡ false → k ≤ n) → P (cond t x y)
    go true p q = f (p refl)
    go false p q = g (q refl)

-- What holds in each of the seven rows holds of the room of every class.
pub record Rows (P : ℕ → Type 0) (c : ℕ) : Type 0 where
  pub by8 : c < 16 → P (8 * (c + 1))
  pub by16 : 16 ≤ c → c < 24 → P (16 * (c - 7))
  pub by32 : 24 ≤ c → c < 32 → P (32 * (c - 15))
  pub by64 : 32 ≤ c → c < 40 → P (64 * (c - 23))
  pub by128 : 40 ≤ c → c < 48 → P (128 * (c - 31))
  pub by256 : 48 ≤ c → c < 56 → P (256 * (c - 39))
  pub by512 : 56 ≤ c → P (512 * (c - 47))

pub room-rows : (P : ℕ → Type 0) (c : ℕ) → Rows P c → P (room c)
unfolding room
room-rows P c k =
    by_row P c 16 _ _ k.by8 λ l. by_row P c 24 _ _ (k.by16 l) λ l. by_row P c 32 _ _ (k.by32 l) λ l.
    by_row P c 40 _ _ (k.by64 l) λ l. by_row P c 48 _ _ (k.by128 l) λ l. by_row P c 56 _ _ (k.by256 l) k.by512

pub room-pos : (c : ℕ) → 0 < room c
room-pos c = room-rows (λ v. 0 < v) c (omega arith)

pub room_most : (c : ℕ) → c < class_count → room c ≤ 8192
room_most c h = room-rows (λ v. v ≤ 8192) c (omega arith)

-- What holds of the seven steps holds of the step of every size.
pub step-rows : (P : ℕ → Type 0) (n : ℕ) → P 8 → P 16 → P 32 → P 64 → P 128 → P 256 → P 512 → P (step n)
unfolding step
step-rows P n k8 k16 k32 k64 k128 k256 k512 =
    by_row P n 128 _ _ (λ l. k8) λ l. by_row P n 256 _ _ (λ u. k16) λ l. by_row P n 512 _ _ (λ u. k32) λ l.
    by_row P n 1024 _ _ (λ u. k64) λ l. by_row P n 2048 _ _ (λ u. k128) λ l. by_row P n 4096 _ _ (λ u. k256) (λ l. k512)

-- A number of steps: n divided by s, rounded up.
steps : ℕ → ℕ → ℕ
steps n s = (n + (s - 1)) / s

record Steps (n s a b : ℕ) : Type 0 where
  least : a ≤ steps n s
  most : steps n s ≤ b
  back : steps n s * s / s ≡ steps n s
  enough : n ≤ steps n s * s
  tight : steps n s * s < n + s

steps-between : (n s a b : ℕ) → 0 < s → a * s < n + s → n ≤ b * s → Steps n s a b
unfolding steps
steps-between n s a b p l u =
    let d = div-add-mod' (n + (s - 1)) s in
    let r : (n + (s - 1)) % s < s = mod-lt _ p in
    let top : n + (s - 1) < suc b * s = omega arith in
    record {
      least = (le-div_iff_mul-le p).1 (omega arith);
      most = let z : (n + (s - 1)) / s < suc b = (div-lt_iff_lt-mul p).1 top in omega arith;
      back = mul-div_cancel _ p;
      enough = omega arith;
      tight = omega arith;
    }

-- The room of a size's class is the rounded size, which is the size or less than a step above it; the class is below 64.
pub record Classed (n : ℕ) : Type 0 where
  pub below : class_of n < class_count
  pub room-class : room (class_of n) ≡ rounded n
  pub enough : n ≤ rounded n
  pub tight : rounded n < n + step n

-- In a row of step s, which holds a to b steps, and in which q steps have the class q + d - 1.
record Row (n s d a b : ℕ) : Type 0 where
  some : 0 < s
  low : a * s < n + s
  high : n ≤ b * s
  first : 0 < a + d
  last : b + d ≤ class_count
  rooms : (q : ℕ) → a ≤ q → q ≤ b → Rows (λ r. r ≡ q * s) (q + d - 1)

in_row : (n s d a b : ℕ) → step n ≡ s → class_of n ≡ rounded n / s + d - 1 → Row n s d a b → Classed n
unfolding rounded steps
in_row n s d a b st cl row =
    let S = steps-between n s a b row.some row.low row.high in
    let rd : rounded n ≡ steps n s * s = rw st refl in
    let k : class_of n ≡ steps n s + d - 1 = cc S.back in
    record {
      below = omega (arith, S.least, S.most);
      room-class = cc (room-rows (λ r. r ≡ steps n s * s) (steps n s + d - 1) (row.rooms (steps n s) S.least S.most));
      enough = omega (arith, S.enough);
      tight = omega (arith, S.tight);
    }

pub classed : (n : ℕ) → 0 < n → n < 8192 → Classed n
unfolding step class_of
classed n p h =
    bool (ltb n 128) (λ t. in_row n 8 0 1 16 (rw t) (rw t (omega arith)) (omega (arith, ltb-true))) λ t.
    bool (ltb n 256) (λ u. in_row n 16 8 8 16 (rw (t, u)) (rw (t, u) (omega arith)) (omega (arith, ltb-true, ltb-false))) λ u.
    bool (ltb n 512) (λ v. in_row n 32 16 8 16 (rw (t, u, v)) (rw (t, u, v) (omega arith)) (omega (arith, ltb-true, ltb-false))) λ v.
    bool (ltb n 1024) (λ w. in_row n 64 24 8 16 (rw (t, u, v, w)) (rw (t, u, v, w) (omega arith)) (omega (arith, ltb-true, ltb-false))) λ w.
    bool (ltb n 2048) (λ x. in_row n 128 32 8 16 (rw (t, u, v, w, x)) (rw (t, u, v, w, x) (omega arith)) (omega (arith, ltb-true, ltb-false))) λ x.
    bool (ltb n 4096) (λ y. in_row n 256 40 8 16 (rw (t, u, v, w, x, y)) (rw (t, u, v, w, x, y) (omega arith)) (omega (arith, ltb-true, ltb-false))) λ y.
    in_row n 512 48 8 16 (rw (t, u, v, w, x, y)) (rw (t, u, v, w, x, y) (omega arith)) (omega (arith, ltb-false))

-- No room is more than the largest size.
pub room_fits : (n : ℕ) → 0 < n → n ≤ most_bytes → room_for n ≤ most_bytes
room_fits n p h = bool (ltb n large_size)
    (λ t. rw t (omega (arith, room_most (class_of n) (classed n p (ltb-true n large_size t)).below)))
    (λ t. rw t (omega arith))

-- Chunk i of a zone lies inside the zone.
pub chunk_inside : (c i : ℕ) → i < chunks c → i * room c + room c ≤ zone_bytes
unfolding chunks
chunk_inside c i h = omega (arith, div-mul-le_self zone_bytes (room c), mul-le-mul_right (room c) h)

pub chunk-begins : (c i : ℕ) → i < chunks c → i * room c < zone_bytes
chunk-begins c i h = omega (arith, room-pos c, chunk_inside c i h)

-- A zone has at least four chunks.
pub chunks-least : (c : ℕ) → c < class_count → 4 ≤ chunks c
unfolding chunks
chunks-least c h = (le-div_iff_mul-le (room-pos c)).1 (omega (arith, room_most c h))

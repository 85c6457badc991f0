-- The table's rule, carried from the whole table to the class of each size. Assumes nothing.
use Prim.Native.Nat.{ℕ, ◌+◌, ◌-◌, ◌*◌, ◌/◌, ◌≤◌, ◌<◌}
use mathlib.Core.Path.{◌≡◌, ap, ◌∙◌}
use native.Mathlib.Omega.{arith}
use lib.Dec.{ltb}
use lib.ListN.{length, get_or}
use borrow.Author.Tests.{ltb-true, ltb-false, lt-ltb, le-ltb}
use Rattle.lemmas.proofs.Cases.{bool, by-lt}
use Rattle.lemmas.proofs.ListFrom.{length-list_from, get_or-list_from}
use Rattle.model.specs.Numbers.{large_size}
use Rattle.model.specs.Sizes.{step, rounded, class_of}
use Rattle.classes.specs.Table.{entry_at, entry_count, class_table, entry_of, class_for}

-- The class in each row of document 01's table, in which the first size of the next row may stand as well: it has the same class by both.
pub record Rows (n c : ℕ) : Type 0 where
  pub by8 : n ≤ 128 → c ≡ (n + 7) / 8 - 1
  pub by16 : 128 ≤ n → n ≤ 256 → c ≡ (n + 15) / 16 + 7
  pub by32 : 256 ≤ n → n ≤ 512 → c ≡ (n + 31) / 32 + 15
  pub by64 : 512 ≤ n → n ≤ 1024 → c ≡ (n + 63) / 64 + 23
  pub by128 : 1024 ≤ n → n ≤ 2048 → c ≡ (n + 127) / 128 + 31
  pub by256 : 2048 ≤ n → n ≤ 4096 → c ≡ (n + 255) / 256 + 39
  pub by512 : 4096 ≤ n → c ≡ (n + 511) / 512 + 47

pub rows : (n : ℕ) → 0 < n → n ≤ large_size → Rows n (class_of n)
unfolding class_of rounded step
rows n p h =
    bool (ltb n 128) (λ t. rw t (omega (arith, ltb-true))) λ t.
    bool (ltb n 256) (λ u. rw (t, u) (omega (arith, ltb-true, ltb-false))) λ u.
    bool (ltb n 512) (λ v. rw (t, u, v) (omega (arith, ltb-true, ltb-false))) λ v.
    bool (ltb n 1024) (λ w. rw (t, u, v, w) (omega (arith, ltb-true, ltb-false))) λ w.
    bool (ltb n 2048) (λ x. rw (t, u, v, w, x) (omega (arith, ltb-true, ltb-false))) λ x.
    bool (ltb n 4096) (λ y. rw (t, u, v, w, x, y) (omega (arith, ltb-true, ltb-false))) λ y.
    rw (t, u, v, w, x, y) (omega (arith, ltb-false))

-- The last of an entry's eight sizes has the class of each.
last-of-eight : (n m : ℕ) → 0 < n → n < large_size → m ≡ 8 * ((n + 7) / 8 - 1) + 8 → class_of m ≡ class_of n
last-of-eight n m p h e =
    let a = rows n p (omega arith) in
    let b = rows m (omega arith) (omega arith) in
    by-lt n 128 (λ u. omega (arith, a.by8 (omega arith), b.by8 (omega arith))) λ l.
    by-lt n 256 (λ u. omega (arith, a.by16 (omega arith) (omega arith), b.by16 (omega arith) (omega arith))) λ l.
    by-lt n 512 (λ u. omega (arith, a.by32 (omega arith) (omega arith), b.by32 (omega arith) (omega arith))) λ l.
    by-lt n 1024 (λ u. omega (arith, a.by64 (omega arith) (omega arith), b.by64 (omega arith) (omega arith))) λ l.
    by-lt n 2048 (λ u. omega (arith, a.by128 (omega arith) (omega arith), b.by128 (omega arith) (omega arith))) λ l.
    by-lt n 4096 (λ u. omega (arith, a.by256 (omega arith) (omega arith), b.by256 (omega arith) (omega arith))) λ l.
    omega (arith, a.by512 (omega arith), b.by512 (omega arith))

pub table-length : length class_table ≡ entry_count
unfolding class_table
table-length = length-list_from entry_at 0 entry_count

-- A size's entry is its class.
pub entry-class : (n : ℕ) → 0 < n → n < large_size → get_or class_table (entry_of n) 0 ≡ class_of n
unfolding class_table entry_at
entry-class n p h = get_or-list_from entry_at 0 entry_count (entry_of n) 0 (omega arith) ∙ last-of-eight n (8 * (0 + entry_of n) + 8) p h (omega arith)

-- What stands at a place, however the place is told.
pub same_place : (i j : ℕ) → i ≡ j → get_or class_table i 0 ≡ get_or class_table j 0
same_place i j e = ap (λ k. get_or class_table k 0) e

-- A request that takes a chunk takes one of its size's class.
pub class_for-chunk : (n : ℕ) → 0 < n → n < large_size → class_for n ≡ class_of n
class_for-chunk n p h = rw (le-ltb n 1 p, lt-ltb n large_size h)

pub class_for-none : (n : ℕ) → n < 1 → class_for n ≡ 0
class_for-none n h = rw (lt-ltb n 1 h)

pub class_for-pages : (n : ℕ) → large_size ≤ n → class_for n ≡ 0
class_for-pages n h = rw (le-ltb n 1 (omega arith), le-ltb n large_size h)

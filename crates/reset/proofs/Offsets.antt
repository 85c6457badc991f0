-- The offsets of a group's blocks: the first of them, and the others. Assumes nothing.
use Prim.Native.Nat.{ℕ, zero, suc, ◌+◌, ◌*◌, ◌≤◌, ◌<◌}
use mathlib.Core.Path.{◌≡◌, refl, sym, ap, ◌∙◌}
use mathlib.Core.List.{List, [], ◌∷◌, ◌++◌}
use mathlib.Core.Bool.{true}
use native.Mathlib.Omega.{arith}
use lib.Dec.{eqb}
use lib.ListN.{length, get_or, set, drop, length-append}
use lib.Seq.{drop-cons}
use borrow.Author.Tests.{eq-eqb, ne_eqb}
use Rattle.lemmas.proofs.Cases.{bool, true-false}
use Rattle.model.specs.Numbers.{zone_pages, page_bytes}
use Rattle.model.specs.Sizes.{room, chunks}
use Rattle.model.specs.Arena.{Segment, run, direct, zone, total, Each}
use Rattle.model.specs.Zone.{Zone, put_back}
use Rattle.model.specs.PageMap.{padded, occupancy, shown, all_zero, idle_zone}
use Rattle.model.specs.Valid.{ValidZone, ValidSegment}
use Rattle.model.specs.Pages.{with_run}
use Rattle.lemmas.specs.Keep.{put_if}
use Rattle.model.specs.Free.{chunk_offsets, offsets_from}
use Rattle.model.proofs.Blocks.{padded-length, all_zero-padded}
use Rattle.zone.proofs.Rooms.{chunks-most}
use Rattle.blocks.proofs.Standing.{group-shown}
use Rattle.reset.specs.Sweep.{offsets_at, offsets_in}

-- In segments --------------------------------------------------------------------------------------------------------------------

module _ (g p : ℕ) (r : List (Segment Zone)) where
  on : (k q : ℕ) → q ≡ (p + k) * page_bytes → q ≡ p * page_bytes + k * page_bytes
  on k q e = omega arith

  pub at-run : (k : ℕ) → offsets_at g p (run k ∷ r) ≡ offsets_at g (p + k) r
  at-run k = cc (on k ((p + k) * page_bytes) refl)

  pub at_other : (k h : ℕ) → (h ≡ g → ⊥) → offsets_at g p (direct k h ∷ r) ≡ offsets_at g (p + k) r
  at_other k h f = rw (ne_eqb h g f) (cc (on k ((p + k) * page_bytes) refl))

  pub at-direct : (k : ℕ) → offsets_at g p (direct k g ∷ r) ≡ (p * page_bytes) ∷ offsets_at g (p + k) r
  at-direct k = rw (eq-eqb g g refl) (cc (on k ((p + k) * page_bytes) refl))

  pub at-zone : (z : Zone) → offsets_at g p (zone z ∷ r) ≡ offsets_in g p 0 z ++ offsets_at g (p + zone_pages) r
  at-zone z = λ j. chunk_offsets g (from j) (room z.class) (occupancy z).groups ++ offsets_from g ((sym (on zone_pages ((p + zone_pages) * page_bytes) refl)) j) (shown r)
    where
      from : p * page_bytes ≡ p * page_bytes + 0 * room z.class
      from = omega arith

  pub at-free : (a : ℕ) → offsets_at g p (with_run a r) ≡ offsets_at g (p + a) r
  at-free zero = ap (λ q. offsets_at g q r) (let e : p ≡ p + 0 = omega arith in e)
  at-free (suc a) = at-run (suc a)

-- In a zone ----------------------------------------------------------------------------------------------------------------------

-- None of the group where no chunk is live.
none-zero : (g o r : ℕ) (l : List ℕ) → 0 < g → all_zero l ≡ true → chunk_offsets g o r l ≡ []
none-zero g o r [] p t = refl
none-zero g o r (zero ∷ l) p t = rw (ne_eqb 0 g (omega arith)) (none-zero g (o + r) r l p t)
none-zero g o r (suc x ∷ l) p t = true-false t refl

zero-drop : (i : ℕ) (l : List ℕ) → all_zero l ≡ true → all_zero (drop i l) ≡ true
zero-drop zero l t = t
zero-drop (suc i) [] t = refl
zero-drop (suc i) (zero ∷ l) t = zero-drop i l t
zero-drop (suc i) (suc x ∷ l) t = true-false t refl

-- Untouched chunks are not live.
padded-past : (n : ℕ) (l : List ℕ) (i : ℕ) → length l ≤ i → all_zero (drop i (padded n l)) ≡ true
padded-past zero l zero h = refl
padded-past zero l (suc i) h = refl
padded-past (suc n) [] i h = zero-drop i _ (all_zero-padded (suc n))
padded-past (suc n) (x ∷ l) zero h = absurd (omega arith)
padded-past (suc n) (x ∷ l) (suc i) h = padded-past n l i (omega arith)

-- A chunk's return changes nothing behind it.
padded-behind : (n : ℕ) (l : List ℕ) (i v : ℕ) → drop (suc i) (padded n (set l i v)) ≡ drop (suc i) (padded n l)
padded-behind zero l i v = refl
padded-behind (suc n) [] i v = refl
padded-behind (suc n) (x ∷ l) zero v = refl
padded-behind (suc n) (x ∷ l) (suc i) v = padded-behind n l i v

module _ (g p i : ℕ) (z : Zone) (v : ValidZone z) where
  abbrev r : ℕ
  r = room z.class

  -- Chunk i, and those behind it.
  first : i < chunks z.class → offsets_in g p i z ≡ put_if (eqb (get_or z.owners i 0) g) (p * page_bytes + i * r) (offsets_in g p (i + 1) z)
  first h =
      ap (chunk_offsets g (p * page_bytes + i * r) r) (drop-cons _ i 0 (omega (arith, padded-length (chunks z.class) z.owners)))
      ∙ (λ j. put_if (eqb (group-shown z v i j) g) (p * page_bytes + i * r) (chunk_offsets g (next j) r (drop (suc-is j) (occupancy z).groups)))
    where
      next : p * page_bytes + i * r + r ≡ p * page_bytes + (i + 1) * r
      next = omega arith

      suc-is : suc i ≡ i + 1
      suc-is = omega arith

  pub in-skip : i < chunks z.class → (get_or z.owners i 0 ≡ g → ⊥) → offsets_in g p i z ≡ offsets_in g p (i + 1) z
  in-skip h f = first h ∙ rw (ne_eqb _ g f)

  pub in_take : i < chunks z.class → get_or z.owners i 0 ≡ g → offsets_in g p i z ≡ (p * page_bytes + i * room z.class) ∷ offsets_in g p (i + 1) z
  in_take h e = first h ∙ rw (eq-eqb _ g e)

  pub in-back : offsets_in g p (i + 1) z ≡ offsets_in g p (i + 1) (put_back i z)
  in-back = ap (chunk_offsets g (p * page_bytes + (i + 1) * r) r) (rw (let e : suc i ≡ i + 1 = omega arith in e) at (sym (padded-behind (chunks z.class) z.owners i 0)))

pub in-past : (g p i : ℕ) (z : Zone) → 0 < g → length z.owners ≤ i → offsets_in g p i z ≡ []
in-past g p i z h k = none-zero g _ _ (drop i (occupancy z).groups) h (padded-past (chunks z.class) z.owners i k)

pub in-idle : (g p i : ℕ) (z : Zone) → 0 < g → idle_zone z ≡ true → offsets_in g p i z ≡ []
in-idle g p i z h t = none-zero g _ _ (drop i (occupancy z).groups) h (zero-drop i _ t)

-- How many ------------------------------------------------------------------------------------------------------------------------

few-chunks : (g o r : ℕ) (l : List ℕ) → length (chunk_offsets g o r l) ≤ length l
few-chunks g o r [] = omega arith
few-chunks g o r (x ∷ l) = let h = few-chunks g (o + r) r l in bool (eqb x g) (λ t. rw t (omega arith)) (λ t. rw t (omega arith))

pub few-offsets : (g o : ℕ) (m : List (Segment Zone)) → Each ValidSegment m → length (offsets_from g o (shown m)) ≤ total m * page_bytes
few-offsets g o [] h = omega arith
few-offsets g o (run k ∷ r) h = let e = few-offsets g (o + k * page_bytes) r h.1 in omega arith
few-offsets g o (direct k x ∷ r) h = let e = few-offsets g (o + k * page_bytes) r h.1 in let p = h.0.0 in bool (eqb x g) (λ t. rw t (omega arith)) (λ t. rw t (omega arith))
few-offsets g o (zone z ∷ r) h =
    let e = few-offsets g (o + zone_pages * page_bytes) r h.1 in
    omega (
      arith,
      length-append (chunk_offsets g o (room z.class) (occupancy z).groups) (offsets_from g (o + zone_pages * page_bytes) (shown r)),
      few-chunks g o (room z.class)
          (occupancy z).groups,
      padded-length (chunks z.class) z.owners,
      chunks-most z.class,
    )

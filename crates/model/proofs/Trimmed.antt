-- What trim does to the page map, to the live blocks, to the lists and to the runs. Assumes nothing.
use Prim.Native.Nat.{ℕ, zero, suc, ◌+◌, ◌≤◌, ◌<◌}
use mathlib.Core.Path.{◌≡◌, refl, ◌∙◌, ap}
use mathlib.Core.List.{List, [], ◌∷◌}
use mathlib.Core.Option.{some}
use mathlib.Core.Bool.{Bool, true}
use native.Mathlib.Omega.{arith}
use lib.Dec.{ltb, leb}
use lib.ListN.{get_or-map}
use borrow.Author.Tests.{leb-true, le-leb}
use Rattle.lemmas.specs.Keep.{keep}
use Rattle.lemmas.proofs.Cases.{bool, true-false, none-some}
use Rattle.model.specs.Arena.{Segment, run, direct, zone, bytes, total, locate}
use Rattle.model.specs.Numbers.{zone_pages}
use Rattle.model.specs.State.{State, list_of}
use Rattle.model.specs.PageMap.{occupancy, page_map, idle, idle_zone, block_at}
use Rattle.model.specs.Pages.{with_run, joined, has_run}
use Rattle.model.specs.Trim.{busy, trimmed}
use Rattle.model.proofs.Arena.{same-segment}
use Rattle.model.proofs.Blocks.{Still, joined-blocks}
use Rattle.model.proofs.Joins.{joined-retold, total-joined}

pub trimmed-map : (s : State) → page_map (trimmed s) ≡ joined idle 0 (page_map s)
trimmed-map s = joined-retold occupancy idle_zone idle (λ z. refl) 0 s.segments

-- No live block goes.
pub trimmed-still : (s : State) → Still (page_map s) (page_map (trimmed s))
trimmed-still s = (
  λ o. ap (λ m. block_at m o) (trimmed-map s) ∙ joined-blocks (page_map s) o,
  ap (λ m. total m) (trimmed-map s) ∙ total-joined idle 0 (page_map s) ∙ omega arith,
)

pub trimmed-list : (s : State) (c : ℕ) → list_of (trimmed s) c ≡ busy s.segments (list_of s c)
unfolding keep
trimmed-list s c = get_or-map (busy s.segments) s.lists c []

-- An empty list stays empty.
pub trimmed-empty : (s : State) (c : ℕ) → list_of s c ≡ [] → list_of (trimmed s) c ≡ []
unfolding keep
trimmed-empty s c e = trimmed-list s c ∙ ap (busy s.segments) e

-- Runs -----------------------------------------------------------------------------------------------------------------------------

module _ {Z : Type 0} where
  -- A run, or none, before segments.
  long-before : (n b : ℕ) (r : List (Segment Z)) → 0 < n → n ≤ b → has_run n (with_run b r) ≡ true
  long-before n zero r p h = absurd (omega arith)
  long-before n (suc b) r p h = rw (le-leb n (suc b) h)

  any-before : (n b : ℕ) (r : List (Segment Z)) → has_run n r ≡ true → has_run n (with_run b r) ≡ true
  any-before n zero r e = e
  any-before n (suc b) r e = bool (leb n (suc b)) (λ t. rw t) (λ t. rw t e)

module _ {Z : Type 0} (gone : Z → Bool) where
  -- Free pages that are enough stay enough.
  joined-enough : (n b : ℕ) (m : List (Segment Z)) → 0 < n → n ≤ b → has_run n (joined gone b m) ≡ true
  joined-enough n b [] p h = long-before n b [] p h
  joined-enough n b (run k ∷ r) p h = joined-enough n (b + k) r p (omega arith)
  joined-enough n b (direct k g ∷ r) p h = long-before n b _ p h
  joined-enough n b (zone z ∷ r) p h = bool (gone z) (λ t. rw t (joined-enough n _ r p (omega arith))) (λ t. rw t (long-before n b _ p h))

  -- Joining loses no run: it stays, or becomes part of a longer one.
  pub joined-has : (n b : ℕ) (m : List (Segment Z)) → 0 < n → has_run n m ≡ true → has_run n (joined gone b m) ≡ true
  joined-has n b [] p e = true-false e refl
  joined-has n b (run k ∷ r) p e = bool (leb n k) (λ t. joined-enough n (b + k) r p (omega (arith, leb-true))) (λ t. joined-has n (b + k) r p (rw t at e))
  joined-has n b (direct k g ∷ r) p e = any-before n b _ (joined-has n 0 r p e)
  joined-has n b (zone z ∷ r) p e = bool (gone z) (λ t. rw t (joined-has n _ r p e)) (λ t. rw t (any-before n b _ (joined-has n 0 r p e)))

  -- A zone that is freed is 8 pages of a run.
  pub joined-gone : (b o d : ℕ) (m : List (Segment Z)) (z : Z) → locate o m ≡ some (record { away = d; segment = zone z }) → gone z ≡ true → has_run zone_pages (joined gone b m) ≡ true
  joined-gone b o d [] z e t = none-some e
  joined-gone b o d (x ∷ r) z e t = bool (ltb o (bytes x))
      (λ u. rw (same-segment (rw u at e)) (rw t (joined-enough zone_pages (b + zone_pages) r (omega arith) (omega arith))))
      (λ u. go x (λ c. joined-gone c _ d r z (rw u at e) t))
    where
      go : (x : Segment Z) → ((c : ℕ) → has_run zone_pages (joined gone c r) ≡ true) → has_run zone_pages (joined gone b (x ∷ r)) ≡ true
      go (run k) k' = k' (b + k)
      go (direct k g) k' = any-before zone_pages b _ (k' 0)
      go (zone y) k' = bool (gone y) (λ v. rw v (k' _)) (λ v. rw v (any-before zone_pages b _ (k' 0)))

-- The steps of one zone: what they do to its chunks, and that a valid zone stays valid. Facts that the 64 classes share are
-- proved over the class. Assumes nothing.
use Prim.Native.Nat.{ℕ, zero, suc, ◌≤◌, ◌<◌}
use mathlib.Core.Path.{◌≡◌, refl, sym, ◌∙◌, ap}
use mathlib.Core.List.{List, [], ◌∷◌, ◌++◌}
use mathlib.Core.Bool.{false}
use native.Mathlib.Omega.{arith}
use native.Mathlib.Nat.{le_refl}
use lib.Dec.{ltb, leb}
use lib.ListN.{length, get_or, set, length-append, length-set, get_or-eq_default}
use lib.Seq.{get_or-set_same, get_or-set_other, set_out, get_or-append_seam}
use borrow.Author.Tests.{ltb-true, ltb-false, le-leb, lt-leb}
use Rattle.lemmas.specs.Times.{times}
use Rattle.lemmas.proofs.Cases.{bool, true-false, and-false, by-eq}
use Rattle.lemmas.proofs.Times.{times-nil, times-here, times-there}
use Rattle.model.specs.Numbers.{most_group, class_count}
use Rattle.model.specs.Sizes.{chunks}
use Rattle.model.specs.Zone.{Zone, touched, has_untouched, is_nil, full, new_zone, first_of, next_chunk, unchained, granted, put_back}
use Rattle.model.specs.Valid.{returned_at, ValidZone}
use Rattle.model.proofs.Sizes.{chunks-least}

-- Lists of owners ---------------------------------------------------------------------------------------------

-- A chunk with an owner was handed out.
pub owned-touched : (l : List ℕ) (i : ℕ) → 0 < get_or l i 0 → i < length l
owned-touched l i p = bool (ltb i (length l)) (λ t. ltb-true i (length l) t) (λ t. absurd (omega (arith, get_or-eq_default l 0 (ltb-false i (length l) t))))

pub set-zero : (l : List ℕ) (i : ℕ) → get_or (set l i 0) i 0 ≡ 0
set-zero l i = bool (ltb i (length l)) (λ t. get_or-set_same l i 0 0 (ltb-true i (length l) t)) (λ t. rw (set_out l i 0 (ltb-false i (length l) t)) (get_or-eq_default l 0 (ltb-false i (length l) t)))

-- One owner more.
pub snoc-other : (g : ℕ) (l : List ℕ) (j : ℕ) → (j ≡ length l → ⊥) → get_or (l ++ (g ∷ [])) j 0 ≡ get_or l j 0
snoc-other g [] zero h = absurd (h refl)
snoc-other g [] (suc j) h = refl
snoc-other g (x ∷ l) zero h = refl
snoc-other g (x ∷ l) (suc j) h = snoc-other g l j (λ e. h (ap suc e))

-- Which chunks were handed out and are not live.
pub returned-is : (l : List ℕ) (i : ℕ) → 0 < returned_at l i → (i < length l) × (get_or l i 0 ≡ 0)
returned-is [] i h = absurd (omega arith)
returned-is (zero ∷ r) zero h = (omega arith, refl)
returned-is (suc g ∷ r) zero h = absurd (omega arith)
returned-is (x ∷ r) (suc i) h = let f = returned-is r i h in (omega arith, f.1)

returned-live : (l : List ℕ) (i : ℕ) → 0 < get_or l i 0 → returned_at l i ≡ 0
returned-live [] i h = refl
returned-live (zero ∷ r) zero h = absurd (omega arith)
returned-live (suc g ∷ r) zero h = refl
returned-live (x ∷ r) (suc i) h = returned-live r i h

returned-zero : (l : List ℕ) (i : ℕ) → i < length l → get_or l i 0 ≡ 0 → returned_at l i ≡ 1
returned-zero [] i h e = absurd (omega arith)
returned-zero (zero ∷ r) zero h e = refl
returned-zero (suc g ∷ r) zero h e = absurd (omega arith)
returned-zero (x ∷ r) (suc i) h e = returned-zero r i (omega arith) e

returned-snoc : (g : ℕ) → 0 < g → (l : List ℕ) (i : ℕ) → returned_at (l ++ (g ∷ [])) i ≡ returned_at l i
returned-snoc zero p l i = absurd (omega arith)
returned-snoc (suc g) p [] zero = refl
returned-snoc (suc g) p [] (suc i) = refl
returned-snoc (suc g) p (zero ∷ l) zero = refl
returned-snoc (suc g) p (suc x ∷ l) zero = refl
returned-snoc (suc g) p (x ∷ l) (suc i) = returned-snoc (suc g) p l i

returned-set-other : (l : List ℕ) (i j v : ℕ) → (j ≡ i → ⊥) → returned_at (set l i v) j ≡ returned_at l j
returned-set-other [] i j v ne = refl
returned-set-other (x ∷ l) zero zero v ne = absurd (ne refl)
returned-set-other (x ∷ l) zero (suc j) v ne = refl
returned-set-other (zero ∷ l) (suc i) zero v ne = refl
returned-set-other (suc g ∷ l) (suc i) zero v ne = refl
returned-set-other (x ∷ l) (suc i) (suc j) v ne = returned-set-other l i j v (λ e. ne (ap suc e))

-- A zone just set up -------------------------------------------------------------------------------------------

pub new-valid : (c g : ℕ) → c < class_count → 0 < g → g ≤ most_group → ValidZone (new_zone c g)
new-valid c g h p q = record { class = h; fits = omega (arith, chunks-least c h); groups = bound; chained = λ i. times-nil i ∙ sym (first g p i) }
  where
    bound : (i : ℕ) → get_or (g ∷ []) i 0 ≤ most_group
    bound zero = q
    bound (suc i) = omega arith

    first : (g : ℕ) → 0 < g → (i : ℕ) → returned_at (g ∷ []) i ≡ 0
    first zero r i = absurd (omega arith)
    first (suc g) r zero = refl
    first (suc g) r (suc i) = refl

pub new-open : (c g : ℕ) → c < class_count → full (new_zone c g) ≡ false
new-open c g h = rw (lt-leb (chunks c) 1 (omega (arith, chunks-least c h)))

-- A chunk is granted -------------------------------------------------------------------------------------------

-- What a grant of the chunk i to the group g does to a zone.
pub record Grants (g i : ℕ) (z z' : Zone) : Type 0 where
  pub same_class : z'.class ≡ z.class
  pub inside : i < chunks z.class
  pub was_free : get_or z.owners i 0 ≡ 0
  pub is-owned : get_or z'.owners i 0 ≡ g
  pub others : (j : ℕ) → (j ≡ i → ⊥) → get_or z'.owners j 0 ≡ get_or z.owners j 0
  pub stays-valid : ValidZone z'

module _ (g : ℕ) (g-least : 0 < g) (g-most : g ≤ most_group) (z : Zone) (v : ValidZone z) where
  -- An untouched one.
  grants-untouched : touched z < chunks z.class → Grants g (touched z) z (record { class = z.class; owners = z.owners ++ (g ∷ []); chain = z.chain })
  grants-untouched h = record {
    same_class = refl;
    inside = h;
    was_free = get_or-eq_default z.owners 0 (le_refl _);
    is-owned = get_or-append_seam z.owners g [] 0;
    others = snoc-other g z.owners;
    stays-valid = record {
      class = v.class;
      fits = omega (arith, length-append z.owners (g ∷ []));
      groups = λ j. by-eq j (length z.owners) (λ e. omega (arith, ap (λ k. get_or (z.owners ++ (g ∷ [])) k 0) e, get_or-append_seam z.owners g [] 0)) (λ ne. omega (arith, snoc-other g z.owners j ne, v.groups j));
      chained = λ j. v.chained j ∙ sym (returned-snoc g g-least z.owners j);
    };
  }

  -- The chain's first.
  grants-chained : (i : ℕ) (r : List ℕ) → z.chain ≡ i ∷ r → Grants g i z (record { class = z.class; owners = set z.owners i g; chain = r })
  grants-chained i r e =
      let here : times i z.chain ≡ suc (times i r) = cc (times-here i r refl) in
      let f = returned-is z.owners i (omega (arith, v.chained i)) in
      let one : returned_at z.owners i ≡ 1 = returned-zero z.owners i f.0 f.1 in
      let owned : get_or (set z.owners i g) i 0 ≡ g = get_or-set_same z.owners i g 0 f.0 in
      record {
        same_class = refl;
        inside = omega arith;
        was_free = f.1;
        is-owned = owned;
        others = λ j ne. get_or-set_other z.owners i j g 0 ne;
        stays-valid = record {
          class = v.class;
          fits = omega (arith, length-set z.owners i g);
          groups = λ j. by-eq j i (λ x. omega (arith, ap (λ n. get_or (set z.owners i g) n 0) x)) (λ ne. omega (arith, get_or-set_other z.owners i j g 0 ne, v.groups j));
          chained = λ j. by-eq j i
              (λ x. rw x (omega (arith, v.chained i, returned-live (set z.owners i g) i (omega arith))))
              (λ ne. cc (times-there j r ne, v.chained j, returned-set-other z.owners i j g ne));
        };
      }

  -- A zone that is not full grants its next chunk.
  pub grants : full z ≡ false → Grants g (next_chunk z) z (granted g z)
  grants h = bool (has_untouched z)
      (λ t. rw t (grants-untouched (ltb-true (touched z) _ t)))
      (λ t. rw t (go z.chain refl (rw (le-leb _ (touched z) (ltb-false (touched z) _ t)) at h)))
    where
      go : (l : List ℕ) → z.chain ≡ l → is_nil l ≡ false → Grants g (first_of l) z (unchained g z l)
      go [] e u = true-false refl u
      go (i ∷ r) e u = grants-chained i r e

-- A chunk is put back ------------------------------------------------------------------------------------------

pub put_back-valid : (i : ℕ) (z : Zone) → ValidZone z → 0 < get_or z.owners i 0 → ValidZone (put_back i z)
put_back-valid i z v p = record {
  class = v.class;
  fits = omega (arith, length-set z.owners i 0);
  groups = λ j. by-eq j i (λ x. omega (arith, ap (λ n. get_or (set z.owners i 0) n 0) x, set-zero z.owners i)) (λ ne. omega (arith, get_or-set_other z.owners i j 0 0 ne, v.groups j));
  chained = λ j. by-eq j i
      (λ x. rw x (times-here i z.chain refl ∙ omega (arith, v.chained i, returned-live z.owners i p, returned-zero (set z.owners i 0) i (omega (arith, length-set z.owners i 0, owned-touched z.owners i p)) (set-zero z.owners i))))
      (λ ne. times-there j z.chain ne ∙ v.chained j ∙ sym (returned-set-other z.owners i j 0 ne));
}

pub put_back-open : (i : ℕ) (z : Zone) → full (put_back i z) ≡ false
put_back-open i z = and-false (leb (chunks z.class) (length (set z.owners i 0)))

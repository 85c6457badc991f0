-- The test of the lists is exact: it holds just if the lists are as a valid state has them. Assumes nothing.
use Prim.Native.Nat.{ℕ, ◌+◌, ◌-◌, ◌*◌}
use mathlib.Core.Path.{◌≡◌, refl, sym, ap, ◌∙◌, subst}
use mathlib.Core.Logic.{◌⊎◌, inl, inr}
use mathlib.Core.List.Memᴰ
use mathlib.Core.List.{List, [], ◌∷◌, ◌++◌, Memᴰ}
use mathlib.Core.Option.{some}
use mathlib.Core.Bool.{true, false}
use native.Mathlib.Omega.{arith}
use lib.Dec.{ltb}
use lib.ListN.{length, get_or, length-append}
use borrow.Author.Tests.{ltb-true, ltb-false, lt-ltb, le-ltb, eqb-true, eq-eqb}
use Rattle.lemmas.specs.Times.{times, Distinct}
use Rattle.lemmas.proofs.Cases.{bool, and_left, and_right, and_both, some_inj, by-eq, none-some}
use Rattle.lemmas.proofs.Times.{times-member, member-times, perm-of, perm-length, perm-member}
use Rattle.lemmas.proofs.Distinct.{distinct_append, distinct-left, distinct-right, distinct_apart, distinct-times, times-distinct, distinct-perm, distinct-le}
use Rattle.model.specs.Numbers.{page_bytes}
use Rattle.model.specs.Arena.{Segment, run, direct, zone, pages, bytes, Place, locate}
use Rattle.model.specs.Zone.{Zone, full}
use Rattle.model.specs.State.{ZoneAt}
use Rattle.model.specs.PageMap.{idle_zone}
use Rattle.model.specs.Valid.{OpenAt, IdleAt}
use Rattle.model.proofs.Moves.{one-zone}
use Rattle.header.specs.Keys.{keys_of}
use Rattle.header.specs.Front.{stands}
use Rattle.metadata.specs.Lists.{zone_fits, segment_fits, fit_from, is_open}
use Rattle.metadata.proofs.Open.{sum_open, length-open, open_pages, open_told, told-open, pages-distinct}
use Rattle.metadata.proofs.Entries.{entries, length-entries, on_list, list_on, Single, single-entries, entries-single}

-- What the lists of a valid state are.
pub record Listed (m : List (Segment Zone)) (lists : List (List ℕ)) (spare : List ℕ) : Type 0 where
  pub listed : (c p : ℕ) → Memᴰ p (get_or lists c []) → OpenAt m c p
  pub complete : (p : ℕ) (z : Zone) → ZoneAt m p z → full z ≡ false → Memᴰ p (get_or lists z.class []) ⊎ Memᴰ p spare
  pub spared : (p : ℕ) → Memᴰ p spare → IdleAt m p
  pub once : (c : ℕ) → Distinct (get_or lists c [])
  pub once-spare : Distinct spare
  pub not-both : (c p : ℕ) → Memᴰ p (get_or lists c []) → Memᴰ p spare → ⊥

-- The walk of the test, told: each zone fits, and the count is right.
fit-told : (spare : List ℕ) (lists : List (List ℕ)) (k a p : ℕ) (m : List (Segment Zone)) → fit_from spare lists k a p m ≡ true
    → (a + sum_open m ≡ k) × ((q : ℕ) (z : Zone) → locate (q * page_bytes) m ≡ some (record { away = 0; segment = zone z }) → zone_fits spare lists (p + q) z ≡ true)
unfolding fit_from sum_open
fit-told spare lists k a p [] t = (omega (arith, eqb-true), λ q z e. none-some e)
fit-told spare lists k a p (x ∷ r) t =
    let f = and_left _ _ t in
    let g = fit-told spare lists k (a + is_open x) (p + pages x) r (and_right (segment_fits spare lists p x) _ t) in (
      omega arith,
      λ q z e. bool (ltb (q * page_bytes) (bytes x))
          (λ u. here q z f (some_inj (rw u at e)))
          (λ u. rw (let w : p + pages x + (q - pages x) ≡ p + q = omega (arith, ltb-false (q * page_bytes) (bytes x) u) in w) at
          (g.1 (q - pages x) z (ap (λ j. locate j r) (let w : (q - pages x) * page_bytes ≡ q * page_bytes - bytes x = omega (arith, ltb-false (q * page_bytes) (bytes x) u) in w) ∙ rw u at e))),
    )
  where
    here : (q : ℕ) (z : Zone) → segment_fits spare lists p x ≡ true → ◌≡◌ {A = Place Zone} (record { away = q * page_bytes; segment = x }) (record { away = 0; segment = zone z }) → zone_fits spare lists (p + q) z ≡ true
    here q z f u = subst (λ j. zone_fits spare lists j z ≡ true) (let w : p ≡ p + q = omega (arith, ap (λ y. y.away) u) in w) (rw (ap (λ y. y.segment) u) at f)

told_fit : (spare : List ℕ) (lists : List (List ℕ)) (k a p : ℕ) (m : List (Segment Zone)) → a + sum_open m ≡ k
    → ((q : ℕ) (z : Zone) → locate (q * page_bytes) m ≡ some (record { away = 0; segment = zone z }) → zone_fits spare lists (p + q) z ≡ true) → fit_from spare lists k a p m ≡ true
unfolding fit_from sum_open
told_fit spare lists k a p [] c f = eq-eqb a k (omega arith)
told_fit spare lists k a p (x ∷ r) c f = and_both _ _ (first x f)
    (told_fit spare lists k (a + is_open x) (p + pages x) r (omega arith) (λ q z e. rw (let w : p + (pages x + q) ≡ p + pages x + q = omega arith in w) at
    (f (pages x + q) z (rw (le-ltb ((pages x + q) * page_bytes) (bytes x) (omega arith)) (ap (λ j. locate j r) (let w : (pages x + q) * page_bytes - bytes x ≡ q * page_bytes = omega arith in w) ∙ e)))))
  where
    first : (x : Segment Zone) → ((q : ℕ) (z : Zone) → locate (q * page_bytes) (x ∷ r) ≡ some (record { away = 0; segment = zone z }) → zone_fits spare lists (p + q) z ≡ true) → segment_fits spare lists p x ≡ true
    first (run n) g = refl
    first (direct n j) g = refl
    first (zone z) g = rw (let w : p + 0 ≡ p = omega arith in w) at (g 0 z refl)

-- An open zone that fits stands on its class's list, or is idle on the empty list.
fits-open : (spare : List ℕ) (lists : List (List ℕ)) (p : ℕ) (z : Zone) → zone_fits spare lists p z ≡ true → full z ≡ false → (Memᴰ p spare × (idle_zone z ≡ true)) ⊎ Memᴰ p (get_or lists z.class [])
fits-open spare lists p z t f = bool (stands p spare)
    (λ u. inl (times-member p spare (ltb-true 0 _ u), let v : idle_zone z ≡ true = rw (f, u) at t in v))
    (λ u. inr (times-member p _ (ltb-true 0 _ (let v : stands p (get_or lists z.class []) ≡ true = rw (f, u) at t in v))))

open-fits : (spare : List ℕ) (lists : List (List ℕ)) (p : ℕ) (z : Zone)
    → (full z ≡ false → (Memᴰ p spare → idle_zone z ≡ true) × ((Memᴰ p spare → ⊥) → Memᴰ p (get_or lists z.class []))) → zone_fits spare lists p z ≡ true
open-fits spare lists p z h = bool (full z) (λ t. rw t) (λ t. rw t (bool (stands p spare)
    (λ u. rw u ((h t).0 (times-member p spare (ltb-true 0 _ u))))
    (λ u. rw u (lt-ltb 0 _ (member-times p ((h t).1 (λ i. let k = member-times p i in omega (arith, ltb-false))))))))

-- The entries of all lists.
abbrev all : List (List ℕ) → List ℕ → List ℕ
all lists spare = entries lists ++ spare

length-all : (lists : List (List ℕ)) (spare : List ℕ) → length (all lists spare) ≡ length (keys_of lists) + length spare
length-all lists spare = omega (arith, length-append (entries lists) spare, length-entries lists)

-- A valid state's lists pass.
module _ (m : List (Segment Zone)) (lists : List (List ℕ)) (spare : List ℕ) (idle-open : (z : Zone) → idle_zone z ≡ true → (p : ℕ) → ZoneAt m p z → full z ≡ false) (h : Listed m lists spare) where
  class-once : (c k p : ℕ) → (c ≡ k → ⊥) → Memᴰ p (get_or lists c []) → Memᴰ p (get_or lists k []) → ⊥
  class-once c k p ne i j =
      let a = h.listed c p i in
      let b = h.listed k p j in
      ne (cc (one-zone m (p * page_bytes) a.0 b.0 a.1 b.1))

  all_once : Distinct (all lists spare)
  all_once = distinct_append _ spare (single-entries lists (record { once = h.once; apart = class-once })) h.once-spare (λ p i j. let f = on_list lists p i in h.not-both f.0 p f.1 j)

  entry-open : (p : ℕ) → Memᴰ p (all lists spare) → Memᴰ p (open_pages m)
  entry-open p i = go (Memᴰ.append_cases _ i)
    where
      go : Memᴰ p (entries lists) ⊎ Memᴰ p spare → Memᴰ p (open_pages m)
      go (inl a) = let f = on_list lists p a in let w = h.listed f.0 p f.1 in told-open m p w.0 w.1 w.3
      go (inr a) = let w = h.spared p a in told-open m p w.0 w.1 (idle-open w.0 w.2 p w.1)

  open-entry : (p : ℕ) → Memᴰ p (open_pages m) → Memᴰ p (all lists spare)
  open-entry p i = let w = open_told m p i in go w.0 (h.complete p w.0 w.1 w.2)
    where
      go : (z : Zone) → Memᴰ p (get_or lists z.class []) ⊎ Memᴰ p spare → Memᴰ p (all lists spare)
      go z (inl a) = Memᴰ.append_left spare (list_on lists z.class p a)
      go z (inr a) = Memᴰ.append_right (entries lists) a

  pub open-count : sum_open m ≡ length (keys_of lists) + length spare
  open-count = sym (length-open 0 m) ∙ perm-length _ _ (distinct-perm _ _ (pages-distinct m) all_once open-entry entry-open) ∙ length-all lists spare

  zone-passes : (p : ℕ) (z : Zone) → ZoneAt m p z → zone_fits spare lists p z ≡ true
  zone-passes p z at = open-fits spare lists p z (λ f. (
    λ i. let w = h.spared p i in cc (one-zone m (p * page_bytes) z w.0 at w.1),
    λ out. go f out (h.complete p z at f),
  ))
    where
      go : full z ≡ false → (Memᴰ p spare → ⊥) → Memᴰ p (get_or lists z.class []) ⊎ Memᴰ p spare → Memᴰ p (get_or lists z.class [])
      go f out (inl a) = a
      go f out (inr a) = absurd (out a)

  pub lists-pass : fit_from spare lists (length (keys_of lists) + length spare) 0 0 m ≡ true
  lists-pass = told_fit spare lists _ 0 0 m (omega (arith, open-count)) (λ q z e. rw (let w : q ≡ 0 + q = omega arith in w) at (zone-passes q z e))

-- Lists that pass are a valid state's.
module _ (m : List (Segment Zone)) (lists : List (List ℕ)) (spare : List ℕ) (t : fit_from spare lists (length (keys_of lists) + length spare) 0 0 m ≡ true) where
  told : (0 + sum_open m ≡ length (keys_of lists) + length spare) × ((q : ℕ) (z : Zone) → locate (q * page_bytes) m ≡ some (record { away = 0; segment = zone z }) → zone_fits spare lists (0 + q) z ≡ true)
  told = fit-told spare lists _ 0 0 m t

  where-is : (p : ℕ) (z : Zone) → ZoneAt m p z → full z ≡ false → (Memᴰ p spare × (idle_zone z ≡ true)) ⊎ Memᴰ p (get_or lists z.class [])
  where-is p z e f = fits-open spare lists p z (rw (let w : 0 + p ≡ p = omega arith in w) at (told.1 p z e)) f

  in_all : (p : ℕ) → Memᴰ p (open_pages m) → Memᴰ p (all lists spare)
  in_all p i = let w = open_told m p i in go w.0 (where-is p w.0 w.1 w.2)
    where
      go : (z : Zone) → (Memᴰ p spare × (idle_zone z ≡ true)) ⊎ Memᴰ p (get_or lists z.class []) → Memᴰ p (all lists spare)
      go z (inl a) = Memᴰ.append_right (entries lists) a.0
      go z (inr a) = Memᴰ.append_left spare (list_on lists z.class p a)

  same-times : (q : ℕ) → times q (all lists spare) ≡ times q (open_pages m)
  same-times = perm-of _ _ (length-all lists spare ∙ omega (arith, told.0, length-open 0 m)) (distinct-le _ _ (pages-distinct m) in_all)

  all-distinct : Distinct (all lists spare)
  all-distinct = times-distinct (all lists spare) (λ q. omega (arith, same-times q, distinct-times (open_pages m) (pages-distinct m) q))

  parts : Single lists
  parts = entries-single lists (distinct-left (entries lists) spare all-distinct)

  opened : (p : ℕ) → Memᴰ p (all lists spare) → (z : Zone) × ZoneAt m p z × (full z ≡ false)
  opened p i = open_told m p (perm-member {a = all lists spare} {b = open_pages m} same-times i)

  pub lists-told : Listed m lists spare
  lists-told = record {
    listed = λ c p i. let w = opened p (Memᴰ.append_left spare (list_on lists c p i)) in (w.0, w.1, class-is c p i w.0 (where-is p w.0 w.1 w.2), w.2);
    complete = λ p z e f. swap p z (where-is p z e f);
    spared = λ p i. let w = opened p (Memᴰ.append_right (entries lists) i) in (w.0, w.1, idle-is p i w.0 (where-is p w.0 w.1 w.2));
    once = parts.once;
    once-spare = distinct-right (entries lists) spare all-distinct;
    not-both = λ c p i j. distinct_apart _ spare all-distinct (list_on lists c p i) j;
  }
    where
      swap : (p : ℕ) (z : Zone) → (Memᴰ p spare × (idle_zone z ≡ true)) ⊎ Memᴰ p (get_or lists z.class []) → Memᴰ p (get_or lists z.class []) ⊎ Memᴰ p spare
      swap p z (inl a) = inr a.0
      swap p z (inr a) = inl a

      class-is : (c p : ℕ) → Memᴰ p (get_or lists c []) → (z : Zone) → (Memᴰ p spare × (idle_zone z ≡ true)) ⊎ Memᴰ p (get_or lists z.class []) → z.class ≡ c
      class-is c p i z (inl a) = absurd (distinct_apart _ spare all-distinct (list_on lists c p i) a.0)
      class-is c p i z (inr a) = by-eq z.class c (λ e. e) (λ ne. absurd (parts.apart z.class c p ne a i))

      idle-is : (p : ℕ) → Memᴰ p spare → (z : Zone) → (Memᴰ p spare × (idle_zone z ≡ true)) ⊎ Memᴰ p (get_or lists z.class []) → idle_zone z ≡ true
      idle-is p i z (inl a) = a.1
      idle-is p i z (inr a) = absurd (distinct_apart _ spare all-distinct (list_on lists z.class p a) i)

-- Joining free pages, over any kind of zone: it keeps the pages, what is seen of anything but free pages, and where the zones
-- stand that it does not free; afterwards no two runs touch. Assumes nothing.
use Prim.Native.Nat.{ℕ, zero, suc, ◌+◌, ◌-◌, ◌*◌, ◌<◌}
use mathlib.Core.Path.{◌≡◌, refl, sym, ◌∙◌, ap}
use mathlib.Core.List.{List, [], ◌∷◌, ◌++◌, map}
use mathlib.Core.Option.{Option, none, some}
use mathlib.Core.Bool.{Bool, true, false, cond}
use native.Mathlib.Omega.{arith}
use lib.Dec.{ltb}
use borrow.Author.Tests.{ltb-true, ltb-false, lt-ltb, le-ltb}
use Rattle.lemmas.proofs.Cases.{bool, some_inj, clash, none-some}
use Rattle.model.specs.Numbers.{zone_pages, page_bytes}
use Rattle.model.specs.Arena.{Segment, run, direct, zone, pages, bytes, total, retold, Place, locate, edit, Each}
use Rattle.model.specs.State.{Begins}
use Rattle.model.specs.Valid.{Apart}
use Rattle.model.specs.Pages.{FreeRun, with_run, carve, joined, free_pages, release}
use Rattle.model.proofs.Arena.{pages-retold, edit-retold, same-segment}

module _ {Z : Type 0} where
  -- A view `see` of places, which shows every run as v, ..
  module _ {B : Type 0} (see : Option (Place Z) → B) (v : B) (runs : (d k : ℕ) → see (some (record { away = d; segment = run k })) ≡ v) where
    pub with_run-see : (n : ℕ) (r : List (Segment Z)) (o : ℕ) → see (locate o (with_run n r)) ≡ see (locate o (run n ∷ r))
    with_run-see zero r o = rw (le-ltb o 0 (omega arith)) (ap (λ k. see (locate k r)) (omega arith))
    with_run-see (suc n) r o = refl

    -- a part that is seen as v joins the run before it
    pub absorb : (n : ℕ) (x : Segment Z) (r : List (Segment Z)) → ((d : ℕ) → see (some (record { away = d; segment = x })) ≡ v) → (o : ℕ) → see (locate o (run (n + pages x) ∷ r)) ≡ see (locate o (run n ∷ (x ∷ r)))
    absorb n x r h o = bool (ltb o (n * page_bytes)) (λ t. rw (t, lt-ltb o ((n + pages x) * page_bytes) (omega (arith, ltb-true))) (runs o _ ∙ sym (runs o n)))
        (λ t. bool (ltb (o - n * page_bytes) (bytes x))
        (λ u. rw (t, u, lt-ltb o ((n + pages x) * page_bytes) (omega (arith, ltb-true))) (runs o _ ∙ sym (h _)))
        (λ u. rw (t, u, le-ltb o ((n + pages x) * page_bytes) (omega (arith, ltb-false))) (ap (λ k. see (locate k r)) (omega arith))))

    cons-see : (x : Segment Z) (r r' : List (Segment Z)) → ((o : ℕ) → see (locate o r) ≡ see (locate o r')) → (o : ℕ) → see (locate o (x ∷ r)) ≡ see (locate o (x ∷ r'))
    cons-see x r r' h o = bool (ltb o (bytes x)) (λ t. rw t) (λ t. rw t (h _))

    pub zero-run : (r : List (Segment Z)) (o : ℕ) → see (locate o (run 0 ∷ r)) ≡ see (locate o r)
    zero-run r o = sym (with_run-see 0 r o)

    past : (n : ℕ) (x : Segment Z) (j r : List (Segment Z)) → ((o : ℕ) → see (locate o j) ≡ see (locate o (run 0 ∷ r))) → (o : ℕ) → see (locate o (run n ∷ (x ∷ j))) ≡ see (locate o (run n ∷ (x ∷ r)))
    past n x j r h = cons-see (run n) (x ∷ j) (x ∷ r) (cons-see x j r (λ q. h q ∙ zero-run r q))

    -- .. and the zones that joining frees as v, shows the same before and after joining.
    module _ (idle : Z → Bool) (idles : (d : ℕ) (z : Z) → idle z ≡ true → see (some (record { away = d; segment = zone z })) ≡ v) where
      pub joined-see : (n : ℕ) (m : List (Segment Z)) (o : ℕ) → see (locate o (joined idle n m)) ≡ see (locate o (run n ∷ m))
      joined-see n [] o = with_run-see n [] o
      joined-see n (run k ∷ r) o = joined-see (n + k) r o ∙ absorb n (run k) r (λ d. runs d k) o
      joined-see n (direct k g ∷ r) o = with_run-see n _ o ∙ past n (direct k g) (joined idle 0 r) r (joined-see 0 r) o
      joined-see n (zone z ∷ r) o = bool (idle z)
          (λ t. rw t (joined-see _ r o ∙ absorb n (zone z) r (λ d. idles d z t) o))
          (λ t. rw t (with_run-see n _ o ∙ past n (zone z) (joined idle 0 r) r (joined-see 0 r) o))

  pub some-run : (n : ℕ) (r : List (Segment Z)) → 0 < n → run n ∷ r ≡ with_run n r
  some-run zero r h = absurd (omega arith)
  some-run (suc n) r h = refl

  pub total-with_run : (n : ℕ) (r : List (Segment Z)) → total (with_run n r) ≡ n + total r
  total-with_run zero r = omega arith
  total-with_run (suc n) r = refl

  pub total-joined : (idle : Z → Bool) (n : ℕ) (m : List (Segment Z)) → total (joined idle n m) ≡ n + total m
  total-joined idle n [] = total-with_run n []
  total-joined idle n (run k ∷ r) = omega (arith, total-joined idle (n + k) r)
  total-joined idle n (direct k g ∷ r) = omega (arith, total-with_run n (direct k g ∷ joined idle 0 r), total-joined idle 0 r)
  total-joined idle n (zone z ∷ r) = bool (idle z) (λ t. rw t (omega (arith, total-joined idle (n + zone_pages) r))) (λ t. rw t (omega (arith, total-with_run n (zone z ∷ joined idle 0 r), total-joined idle 0 r)))

  -- of a segment and free pages, a zone is only the segment
  pub cut-zone : (x : Segment Z) (k d : ℕ) (z : Z) → locate d (x ∷ with_run k []) ≡ some (record { away = 0; segment = zone z }) → (d ≡ 0) × (x ≡ zone z)
  cut-zone x k d z e = bool (ltb d (bytes x))
      (λ t. let q = some_inj (rw t at e) in (ap (λ p. p.away) q, ap (λ p. p.segment) q))
      (λ t. absurd (no-zone k _ (rw t at e)))
    where
      no-zone : (k d : ℕ) → locate d (with_run k []) ≡ some (record { away = 0; segment = zone z }) → ⊥
      no-zone zero d u = none-some u
      no-zone (suc k) d u = bool (ltb d (suc k * page_bytes))
          (λ t. let q : run (suc k) ≡ zone z = same-segment (rw t at u) in clash (cc))
          (λ t. none-some (rw t at u))

  -- where a zone that is not freed stands
  see_zone : (Z → Bool) → Option (Place Z) → Option (Place Z)
  see_zone f none = none
  see_zone f (some a) = elim a.segment [ run n ↦ none | direct n g ↦ none | zone z ↦ cond (f z) none (some (record { away = a.away; segment = zone z })) ]

  see-back : (f : Z → Bool) (x : Option (Place Z)) (pl : Place Z) → see_zone f x ≡ some pl → x ≡ some pl
  unfolding see_zone
  see-back f none pl e = e
  see-back f (some a) pl e = go a.away _ e
    where
      go : (d : ℕ) (x : Segment Z) → see_zone f (some (record { away = d; segment = x })) ≡ some pl → some (record { away = d; segment = x }) ≡ some pl
      go d (run n) u = none-some u
      go d (direct n g) u = none-some u
      go d (zone z) u = bool (f z) (λ t. none-some (rw t at u)) (λ t. rw t at u)

  pub joined-begins : (f : Z → Bool) (m : List (Segment Z)) (q : ℕ) (z : Z) → f z ≡ false → Begins q m (zone z) → Begins q (joined f 0 m) (zone z)
  unfolding see_zone
  joined-begins f m q z n h = see-back f _ _
      (joined-see (see_zone f) none (λ d k. refl) f (λ d y e. rw e) 0 m q ∙ zero-run (see_zone f) none (λ d k. refl) m q ∙ ap (see_zone f) h ∙ rw n)

  pub joined_back : (f : Z → Bool) (m : List (Segment Z)) (q : ℕ) (z : Z) → f z ≡ false → Begins q (joined f 0 m) (zone z) → Begins q m (zone z)
  unfolding see_zone
  joined_back f m q z n h = see-back f _ _
      (sym (joined-see (see_zone f) none (λ d k. refl) f (λ d y e. rw e) 0 m q ∙ zero-run (see_zone f) none (λ d k. refl) m q) ∙ ap (see_zone f) h ∙ rw n)

  abbrev pub NotFreed : (Z → Bool) → Segment Z → Type 0
  NotFreed f (run n) = Unit {0}
  NotFreed f (direct n g) = Unit {0}
  NotFreed f (zone z) = f z ≡ false

  not-freed-run : (f : Z → Bool) (n : ℕ) (m : List (Segment Z)) → Each (NotFreed f) m → Each (NotFreed f) (with_run n m)
  not-freed-run f zero m h = h
  not-freed-run f (suc n) m h = (tt, h)

  pub not-freed : (f : Z → Bool) (n : ℕ) (m : List (Segment Z)) → Each (NotFreed f) (joined f n m)
  not-freed f n [] = not-freed-run f n [] tt
  not-freed f n (run k ∷ r) = not-freed f (n + k) r
  not-freed f n (direct k g ∷ r) = not-freed-run f n _ (tt, not-freed f 0 r)
  not-freed f n (zone z ∷ r) = bool (f z) (λ t. rw t (not-freed f _ r)) (λ t. rw t (not-freed-run f n _ (t, not-freed f 0 r)))

  apart-weaken : (m : List (Segment Z)) → Apart true m → Apart false m
  apart-weaken [] h = tt
  apart-weaken (run k ∷ r) h = (refl, h.1, h.2)
  apart-weaken (direct k g ∷ r) h = h
  apart-weaken (zone l ∷ r) h = h

  pub apart-run : (n : ℕ) (m : List (Segment Z)) → Apart true m → Apart false (with_run n m)
  apart-run zero m h = apart-weaken m h
  apart-run (suc n) m h = (refl, omega arith, h)

  pub joined-apart : (f : Z → Bool) (n : ℕ) (m : List (Segment Z)) → Apart false (joined f n m)
  joined-apart f n [] = apart-run n [] tt
  joined-apart f n (run k ∷ r) = joined-apart f (n + k) r
  joined-apart f n (direct k g ∷ r) = apart-run n _ (joined-apart f 0 r)
  joined-apart f n (zone z ∷ r) = bool (f z) (λ t. rw t (joined-apart f _ r)) (λ t. rw t (apart-run n _ (joined-apart f 0 r)))

  pub edit-apart : (b : Bool) (o : ℕ) (f : Segment Z → List (Segment Z)) (m : List (Segment Z)) {pl : Place Z} → locate o m ≡ some pl → ((c : Bool) (r : List (Segment Z)) → Apart c (pl.segment ∷ r) → Apart c (f pl.segment ++ r)) → Apart b m → Apart b (edit o f m)
  edit-apart b o f [] e k h = tt
  edit-apart b o f (x ∷ r) {pl} e k h = bool (ltb o (bytes x))
      (λ t. rw t (let q : pl.segment ≡ x = sym (same-segment (rw t at e)) in rw q at (k b r) h))
      (λ t. rw t (go x h (λ c u. edit-apart c _ f r (rw t at e) k u)))
    where
      go : (x : Segment Z) → Apart b (x ∷ r) → ((c : Bool) → Apart c r → Apart c (edit (o - bytes x) f r)) → Apart b (x ∷ edit (o - bytes x) f r)
      go (run j) u v = (u.0, u.1, v true u.2)
      go (direct j i) u v = v false u
      go (zone z) u v = v false u

  pub run-append : (k : ℕ) (r : List (Segment Z)) → with_run k [] ++ r ≡ with_run k r
  run-append zero r = refl
  run-append (suc k) r = refl

  pub each-run : (P : Segment Z → Type 0) → ((n : ℕ) → P (run n)) → (n : ℕ) (m : List (Segment Z)) → Each P m → Each P (with_run n m)
  each-run P h zero m k = k
  each-run P h (suc n) m k = (h (suc n), k)

  pub each-joined : (P : Segment Z → Type 0) → ((n : ℕ) → P (run n)) → (f : Z → Bool) (n : ℕ) (m : List (Segment Z)) → Each P m → Each P (joined f n m)
  each-joined P h f n [] k = each-run P h n [] tt
  each-joined P h f n (run j ∷ r) k = each-joined P h f (n + j) r k.1
  each-joined P h f n (direct j g ∷ r) k = each-run P h n _ (k.0, each-joined P h f 0 r k.1)
  each-joined P h f n (zone z ∷ r) k = bool (f z) (λ t. rw t (each-joined P h f _ r k.1)) (λ t. rw t (each-run P h n _ (k.0, each-joined P h f 0 r k.1)))

module _ {A B : Type 0} (f : A → B) where
  pub with_run-retold : (n : ℕ) (m : List (Segment A)) → map (retold f) (with_run n m) ≡ with_run n (map (retold f) m)
  with_run-retold zero m = refl
  with_run-retold (suc n) m = refl

  pub joined-retold : (ia : A → Bool) (ib : B → Bool) → ((z : A) → ib (f z) ≡ ia z) → (n : ℕ) (m : List (Segment A)) → map (retold f) (joined ia n m) ≡ joined ib n (map (retold f) m)
  joined-retold ia ib e n [] = with_run-retold n []
  joined-retold ia ib e n (run k ∷ r) = joined-retold ia ib e (n + k) r
  joined-retold ia ib e n (direct k g ∷ r) = cc (with_run-retold n _, joined-retold ia ib e 0 r)
  joined-retold ia ib e n (zone z ∷ r) = rw (e z) (bool (ia z) (λ t. rw t (joined-retold ia ib e _ r)) (λ t. rw t (cc (with_run-retold n _, joined-retold ia ib e 0 r))))

  pub carve-retold : (h : FreeRun) (n : ℕ) (x : Segment A) (m : List (Segment A)) → map (retold f) (carve h n x m) ≡ carve h n (retold f x) (map (retold f) m)
  carve-retold h n x m = edit-retold f _ (λ _. x ∷ with_run (h.size - n) []) (λ _. retold f x ∷ with_run (h.size - n) []) (λ _. cc (with_run-retold _ [])) m

  pub release-retold : (o : ℕ) (m : List (Segment A)) → map (retold f) (release o m) ≡ release o (map (retold f) m)
  release-retold o m = cc (joined-retold (λ _. false) (λ _. false) (λ _. refl) 0 _, edit-retold f o free_pages free_pages (λ x. cc (pages-retold f x)) m)

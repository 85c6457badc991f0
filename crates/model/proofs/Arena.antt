-- Laws of segments in page order, over any kind of zone: where a byte lies, what an edit changes, and that neither depends on
-- what is told of a zone. Assumes nothing.
use Prim.Native.Nat.{ℕ, ◌+◌, ◌-◌, ◌*◌, ◌≤◌, ◌<◌}
use mathlib.Core.Path.{◌≡◌, refl, sym, ◌∙◌, ap}
use mathlib.Core.Logic.{◌⊎◌, inl, inr}
use mathlib.Core.List.{List, [], ◌∷◌, ◌++◌, map, map-append}
use mathlib.Core.Option.{Option, none, some}
use mathlib.Core.Bool.{true, false}
use native.Mathlib.Omega.{arith}
use lib.Dec.{ltb}
use borrow.Author.Tests.{ltb-true, ltb-false, lt-ltb, le-ltb}
use Rattle.lemmas.proofs.Cases.{bool, by-lt, some_inj, none-some}
use Rattle.model.specs.Numbers.{page_bytes}
use Rattle.model.specs.Arena.{Segment, run, direct, zone, pages, bytes, total, retold, Place, locate, edit, Each}
use Rattle.model.specs.State.{Begins}

-- Every byte of a ++ y ++ b is in one of the three.
pub data Part (A Y o : ℕ) : Type 0 where
  low : o < A → Part A Y o
  middle : (d : ℕ) → o ≡ A + d → d < Y → Part A Y o
  high : (d : ℕ) → o ≡ A + (Y + d) → Part A Y o

pub part : (A Y o : ℕ) → Part A Y o
part A Y o = by-lt o A low λ h. by-lt o (A + Y) (λ k. middle (o - A) (omega arith) (omega arith)) (λ k. high (o - (A + Y)) (omega arith))

-- Two places that are the same hold the same segment.
pub same-segment : {Z : Type 0} {p q : Place Z} → some p ≡ some q → p.segment ≡ q.segment
same-segment e = cc (some_inj e)

module _ {Z : Type 0} where
  pub total-append : (a b : List (Segment Z)) → total (a ++ b) ≡ total a + total b
  total-append [] b = omega arith
  total-append (x ∷ a) b = omega (arith, total-append a b)

  -- Where a byte of an append lies.
  pub locate-left : (a b : List (Segment Z)) (o : ℕ) → o < total a * page_bytes → locate o (a ++ b) ≡ locate o a
  locate-left [] b o h = absurd (omega arith)
  locate-left (x ∷ a) b o h = bool (ltb o (bytes x)) (λ e. rw e) (λ e. rw e (locate-left a b _ (omega (arith, ltb-false))))

  pub locate-right : (a b : List (Segment Z)) (o : ℕ) → locate (total a * page_bytes + o) (a ++ b) ≡ locate o b
  locate-right [] b o = ap (λ k. locate k b) (omega arith)
  locate-right (x ∷ a) b o = rw (le-ltb ((pages x + total a) * page_bytes + o) (bytes x) (omega arith))
      (ap (λ k. locate k (a ++ b)) (let e : (pages x + total a) * page_bytes + o - bytes x ≡ total a * page_bytes + o = omega arith in e) ∙ locate-right a b o)

  pub locate-past : (a : List (Segment Z)) (o : ℕ) → total a * page_bytes ≤ o → locate o a ≡ none
  locate-past [] o h = refl
  locate-past (x ∷ a) o h = rw (le-ltb o (bytes x) (omega arith)) (locate-past a _ (omega arith))

  -- What stands at a place, and an edit there.
  pub record Split (o : ℕ) (m : List (Segment Z)) (pl : Place Z) : Type 0 where
    pub before : List (Segment Z)
    pub behind : List (Segment Z)
    pub whole : m ≡ before ++ (pl.segment ∷ behind)
    pub at : o ≡ total before * page_bytes + pl.away
    pub inside : pl.away < bytes pl.segment
    pub edits : (f : Segment Z → List (Segment Z)) → edit o f m ≡ before ++ (f pl.segment ++ behind)

  split-here : (o : ℕ) (x : Segment Z) (r : List (Segment Z)) → ltb o (bytes x) ≡ true → Split o (x ∷ r) (record { away = o; segment = x })
  split-here o x r t = record {
    before = [];
    behind = r;
    whole = refl;
    at = omega arith;
    inside = ltb-true o (bytes x) t;
    edits = λ f. rw t;
  }

  split-there : (o : ℕ) (x : Segment Z) (r : List (Segment Z)) {pl : Place Z} → ltb o (bytes x) ≡ false → Split (o - bytes x) r pl → Split o (x ∷ r) pl
  split-there o x r t s = record {
    before = x ∷ s.before;
    behind = s.behind;
    whole = cc;
    at = omega (arith, ltb-false);
    inside = s.inside;
    edits = λ f. rw t (cc (s.edits f));
  }

  -- Every place can be split so.
  pub split : (o : ℕ) (m : List (Segment Z)) {pl : Place Z} → locate o m ≡ some pl → Split o m pl
  split o [] e = none-some e
  split o (x ∷ r) e = bool (ltb o (bytes x)) (λ t. rw (some_inj (rw t at e)) at (split-here o x r t)) (λ t. split-there o x r t (split (o - bytes x) r (rw t at e)))

  pub locate-mid : (a y b : List (Segment Z)) (d : ℕ) → d < total y * page_bytes → locate (total a * page_bytes + d) (a ++ (y ++ b)) ≡ locate d y
  locate-mid a y b d h = locate-right a (y ++ b) d ∙ locate-left y b d h

  pub locate-high : (a y b : List (Segment Z)) (d : ℕ) → locate (total a * page_bytes + (total y * page_bytes + d)) (a ++ (y ++ b)) ≡ locate d b
  locate-high a y b d = locate-right a (y ++ b) _ ∙ locate-right y b d

  -- The middle x gives way to y of the same length. Where a view of locate agrees on x and y, it agrees on the whole.
  pub swap : {B : Type 0} (see : Option (Place Z) → B) (K : ℕ → Type 0) (a x y b : List (Segment Z)) → total y ≡ total x →
      ((d : ℕ) → d < total y * page_bytes → K (total a * page_bytes + d) → see (locate d y) ≡ see (locate d x)) →
      (o : ℕ) → K o → see (locate o (a ++ (y ++ b))) ≡ see (locate o (a ++ (x ++ b)))
  swap see K a x y b e h o k = go (part _ _ o)
    where
      go : Part (total a * page_bytes) (total y * page_bytes) o → see (locate o (a ++ (y ++ b))) ≡ see (locate o (a ++ (x ++ b)))
      go (low l) = rw (locate-left a (y ++ b) o l, locate-left a (x ++ b) o l)
      go (middle d p l) = rw (p, locate-mid a y b d l, locate-mid a x b d (omega arith)) (h d l (rw p at k))
      go (high d p) = rw (p, locate-high a y b d) (ap see (sym (cc (locate-high a x b d))))

  -- The segment at a place gives way to others of as many pages: there are as many pages as before, ..
  module _ (o : ℕ) (f : Segment Z → List (Segment Z)) (m : List (Segment Z)) {pl : Place Z} (e : locate o m ≡ some pl) where
    S : Split o m pl
    S = split o m e

    pub total-edit : total (f pl.segment) ≡ pages pl.segment → total (edit o f m) ≡ total m
    total-edit t = go S
      where
        go : Split o m pl → total (edit o f m) ≡ total m
        go s = rw (s.edits f, s.whole) (simp total-append (omega arith))

    -- .. what begins elsewhere is left, ..
    pub begins-kept : total (f pl.segment) ≡ pages pl.segment → (q : ℕ) (y : Segment Z) → Begins q m y → (q + pl.away ≡ o → ⊥) → Begins q (edit o f m) y
    begins-kept t q y h ne =
        ap (locate q) (S.edits f) ∙ swap (λ p. p) (λ k. k ≡ q) S.before (pl.segment ∷ []) (f pl.segment) S.behind (omega arith)
        (λ d l k. absurd (
        let at : locate q m ≡ some (record { away = d; segment = pl.segment }) = rw (S.whole, ← k) (locate-mid S.before (pl.segment ∷ []) S.behind d (omega arith) ∙ rw (lt-ltb d (bytes pl.segment) (omega arith))) in
        let z : d ≡ 0 = ap (λ p. p.away) (some_inj (sym at ∙ h)) in
        ne (omega (arith, S.at)))) q refl
        ∙ ap (locate q) (sym S.whole) ∙ h

    -- .. the first of the others begins where the old one began, ..
    pub begins-new : (q : ℕ) (x : Segment Z) (r : List (Segment Z)) → q + pl.away ≡ o → f pl.segment ≡ x ∷ r → 0 < pages x → Begins q (edit o f m) x
    begins-new q x r a fe pos =
        let at : q ≡ total S.before * page_bytes + 0 = omega (arith, S.at) in
        rw (at, S.edits f, fe) (locate-mid S.before (x ∷ r) S.behind 0 (omega arith) ∙ rw (lt-ltb 0 (bytes x) (omega arith)))

    -- .. and what begins afterwards began before, or is part of the others.
    pub begins-back : total (f pl.segment) ≡ pages pl.segment → (q : ℕ) (y : Segment Z) → Begins q (edit o f m) y
        → Begins q m y ⊎ ((d : ℕ) × (q + pl.away ≡ o + d) × (locate d (f pl.segment) ≡ some (record { away = 0; segment = y })))
    begins-back t q y h = go (part _ _ q) (rw (S.edits f) at h)
      where
        go : Part (total S.before * page_bytes) (total (f pl.segment) * page_bytes) q → Begins q (S.before ++ (f pl.segment ++ S.behind)) y
            → Begins q m y ⊎ ((d : ℕ) × (q + pl.away ≡ o + d) × (locate d (f pl.segment) ≡ some (record { away = 0; segment = y })))
        go (low l) k = inl (rw (S.whole, locate-left S.before _ q l, ← locate-left S.before (f pl.segment ++ S.behind) q l) k)
        go (middle d u l) k = inr (d, omega (arith, S.at), rw (← locate-mid S.before _ S.behind d l, ← u) k)
        go (high d u) k =
            let w : q ≡ total S.before * page_bytes + (total (pl.segment ∷ []) * page_bytes + d) = omega arith in
            inl (rw (S.whole, w, locate-high S.before (pl.segment ∷ []) S.behind d, ← locate-high S.before (f pl.segment) S.behind d, ← u) k)

  -- Where the segment begins that holds a byte: at a page.
  pub start_of : (m : List (Segment Z)) (o : ℕ) {pl : Place Z} → locate o m ≡ some pl → (p : ℕ) × (p * page_bytes + pl.away ≡ o) × (pl.away < bytes pl.segment) × Begins (p * page_bytes) m pl.segment
  start_of m o {pl} e =
      let S = split o m e in
      let z : total S.before * page_bytes ≡ total S.before * page_bytes + 0 = omega arith in
      let l : 0 < bytes pl.segment = omega arith in
      (total S.before, sym S.at, S.inside, ap (locate (total S.before * page_bytes)) S.whole ∙ rw z (locate-mid S.before (pl.segment ∷ []) S.behind 0 (omega arith) ∙ rw (lt-ltb 0 _ l)))

  -- What holds of every segment.
  pub each_append : (P : Segment Z → Type 0) (a b : List (Segment Z)) → Each P a → Each P b → Each P (a ++ b)
  each_append P [] b h k = k
  each_append P (x ∷ a) b h k = (h.0, each_append P a b h.1 k)

  pub each-edit : (P : Segment Z → Type 0) (o : ℕ) (f : Segment Z → List (Segment Z)) → ((x : Segment Z) → P x → Each P (f x)) → (m : List (Segment Z)) → Each P m → Each P (edit o f m)
  each-edit P o f h [] k = tt
  each-edit P o f h (x ∷ r) k = bool (ltb o (bytes x)) (λ t. rw t (each_append P (f x) r (h x k.0) k.1)) (λ t. rw t (k.0, each-edit P (o - bytes x) f h r k.1))

  pub each-locate : (P : Segment Z → Type 0) (m : List (Segment Z)) (o : ℕ) {pl : Place Z} → Each P m → locate o m ≡ some pl → P pl.segment
  each-locate P [] o h e = none-some e
  each-locate P (x ∷ r) o h e = bool (ltb o (bytes x)) (λ t. rw (same-segment (rw t at e)) at h.0) (λ t. each-locate P r _ h.1 (rw t at e))

-- What is told of zones another way ------------------------------------------------------------------------

module _ {A B : Type 0} (f : A → B) where
  pub pages-retold : (x : Segment A) → pages (retold f x) ≡ pages x
  pages-retold (run n) = refl
  pages-retold (direct n g) = refl
  pages-retold (zone z) = refl

  pub total-retold : (m : List (Segment A)) → total (map (retold f) m) ≡ total m
  total-retold [] = refl
  total-retold (x ∷ r) = omega (arith, pages-retold x, total-retold r)

  abbrev pub retold_place : Option (Place A) → Option (Place B)
  retold_place none = none
  retold_place (some a) = some (record { away = a.away; segment = retold f a.segment })

  pub locate-retold : (o : ℕ) (m : List (Segment A)) → locate o (map (retold f) m) ≡ retold_place (locate o m)
  locate-retold o [] = refl
  locate-retold o (x ∷ r) = rw (pages-retold x) (bool (ltb o (bytes x)) (λ t. rw t) (λ t. rw t (locate-retold (o - bytes x) r)))

  pub edit-retold : (o : ℕ) (h : Segment A → List (Segment A)) (k : Segment B → List (Segment B)) → ((x : Segment A) → map (retold f) (h x) ≡ k (retold f x)) → (m : List (Segment A)) → map (retold f) (edit o h m) ≡ edit o k (map (retold f) m)
  edit-retold o h k e [] = refl
  edit-retold o h k e (x ∷ r) = rw (pages-retold x) (bool (ltb o (bytes x)) (λ t. rw t (cc (map-append (retold f) (h x) r, e x))) (λ t. rw t (cc (edit-retold (o - bytes x) h k e r))))

-- What stands under a retold place.
pub record Under {A B : Type 0} (f : A → B) (m : List (Segment A)) (o : ℕ) (pl : Place B) : Type 0 where
  pub segment : Segment A
  pub shows : retold f segment ≡ pl.segment
  pub there : locate o m ≡ some (record { away = pl.away; segment = segment })

pub under : {A B : Type 0} (f : A → B) (m : List (Segment A)) (o : ℕ) {pl : Place B} → locate o (map (retold f) m) ≡ some pl → Under f m o pl
under {A} f m o {pl} e = go (locate o m) refl (sym (locate-retold f o m) ∙ e)
  where
    go : (x : Option (Place A)) → locate o m ≡ x → retold_place f x ≡ some pl → Under f m o pl
    go none q u = none-some u
    go (some a) q u = record { segment = a.segment; shows = same-segment u; there = q ∙ (λ i. some (record { away = (some_inj u i).away; segment = a.segment })) }

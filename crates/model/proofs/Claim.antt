-- The laws of the search for pages: what it finds is a run that is long enough; where it finds none, none is; by the lines of a listing's
-- runs, which it finds and how many it looks at; these are no more than half of the pages, rounded up; it does not look inside zones.
-- Nothing else is used of it, except where it is computed and where the code walks. Over any kind of zone, but for the lines, which a page
-- map has. Assumes nothing.
use Prim.Native.Nat.{ℕ, ◌+◌, ◌*◌, ◌≤◌, ◌<◌}
use mathlib.Core.Path.{◌≡◌, refl, sym, ◌∙◌, ap, subst}
use mathlib.Core.Logic.{◌↔◌}
use mathlib.Core.List.{List, [], ◌∷◌, ◌++◌, map}
use mathlib.Core.Option.{Option, none, some}
use mathlib.Core.Bool.{Bool, true, false, cond, ◌||◌}
use native.Mathlib.Omega.{arith}
use lib.Dec.{ltb, leb}
use lib.ListN.{length, get_or}
use borrow.Author.Tests.{leb-true, leb-false, lt-ltb, le-ltb}
use Rattle.lemmas.specs.Every.{every}
use Rattle.lemmas.proofs.Cases.{bool, true-false, some_inj, none-some, and_both, one-most}
use Rattle.model.specs.Numbers.{page_bytes, zone_pages}
use Rattle.model.specs.Arena.{Segment, run, direct, zone, pages, bytes, total, retold, locate, Each}
use Rattle.model.specs.PageMap.{PageMap}
use Rattle.model.specs.Listing.{run_lines}
use Rattle.model.specs.Valid.{Apart}
use Rattle.model.specs.Pages.{FreeRun, Search, onward, first_fit, claim, has_run, most_looked}
use Rattle.model.proofs.Arena.{each-locate}

-- Runs looked at before a search are added.
module _ {A : Type 0} (l : Search A) where
  pub onward-none : onward 0 l ≡ l
  onward-none = λ i. record { chosen = l.chosen; looked = (let q : 0 + l.looked ≡ l.looked = omega arith in q) i }

  pub onward-more : (j k : ℕ) → onward j (onward k l) ≡ onward (j + k) l
  onward-more j k = λ i. record { chosen = l.chosen; looked = (let q : j + (k + l.looked) ≡ j + k + l.looked = omega arith in q) i }

module _ {Z : Type 0} where
  -- What the search finds, p pages behind the start: a run that begins `skip` pages further on.
  pub record Found (p n : ℕ) (m : List (Segment Z)) (h : FreeRun) : Type 0 where
    pub skip : ℕ
    pub page-is : h.page ≡ p + skip
    pub run-there : locate (skip * page_bytes) m ≡ some (record { away = 0; segment = run h.size })
    pub enough : n ≤ h.size

  found-later : (p n : ℕ) (x : Segment Z) (r : List (Segment Z)) (h : FreeRun) → Found (p + pages x) n r h → Found p n (x ∷ r) h
  found-later p n x r h f = record {
    skip = pages x + f.skip;
    page-is = omega arith;
    run-there = rw (le-ltb ((pages x + f.skip) * page_bytes) (bytes x) (omega arith)) (ap (λ k. locate k r) (omega arith) ∙ f.run-there);
    enough = f.enough;
  }

  first_fit-found : (p n : ℕ) (m : List (Segment Z)) (h : FreeRun) → 0 < n → (first_fit p n m).chosen ≡ some h → Found p n m h
  first_fit-found p n [] h pos e = none-some e
  first_fit-found p n (run k ∷ r) h pos e = bool (leb n k) (λ t. subst (Found p n (run k ∷ r)) (some_inj (rw t at e)) (record { skip = 0; page-is = omega arith; run-there = rw (lt-ltb 0 (k * page_bytes) (omega (arith, leb-true))); enough = leb-true n k t })) (λ t. found-later p n (run k) r h (first_fit-found (p + k) n r h pos (rw t at e)))
  first_fit-found p n (direct k g ∷ r) h pos e = found-later p n _ r h (first_fit-found (p + k) n r h pos e)
  first_fit-found p n (zone z ∷ r) h pos e = found-later p n (zone z) r h (first_fit-found _ n r h pos e)

  -- Found: a run begins there and is long enough.
  pub claim-found : (n : ℕ) (m : List (Segment Z)) (h : FreeRun) → 0 < n → (claim n m).chosen ≡ some h → (locate (h.page * page_bytes) m ≡ some (record { away = 0; segment = run h.size })) × (n ≤ h.size)
  unfolding claim
  claim-found n m h pos e = let f = first_fit-found 0 n m h pos e in (ap (λ k. locate (k * page_bytes) m) (let q : h.page ≡ f.skip = omega arith in q) ∙ f.run-there, f.enough)

  first_fit-none : (p n : ℕ) (m : List (Segment Z)) → (first_fit p n m).chosen ≡ none → has_run n m ≡ false
  first_fit-none p n [] e = refl
  first_fit-none p n (run k ∷ r) e = bool (leb n k) (λ t. none-some (sym (rw t at e))) (λ t. rw t (first_fit-none (p + k) n r (rw t at e)))
  first_fit-none p n (direct k g ∷ r) e = first_fit-none (p + k) n r e
  first_fit-none p n (zone z ∷ r) e = first_fit-none _ n r e

  -- Not found: no run is long enough.
  pub claim-none : (n : ℕ) (m : List (Segment Z)) → (claim n m).chosen ≡ none → has_run n m ≡ false
  unfolding claim
  claim-none n m e = first_fit-none 0 n m e

  -- A run that is too short.
  abbrev Short : ℕ → Segment Z → Type 0
  Short n (run k) = k < n
  Short n (direct k g) = Unit {0}
  Short n (zone z) = Unit {0}

  all_short : (n : ℕ) (m : List (Segment Z)) → has_run n m ≡ false → Each (Short n) m
  all_short n [] e = tt
  all_short n (run k ∷ r) e = bool (leb n k) (λ t. true-false refl (rw t at e)) (λ t. (leb-false n k t, all_short n r (rw t at e)))
  all_short n (direct k g ∷ r) e = (tt, all_short n r e)
  all_short n (zone z ∷ r) e = (tt, all_short n r e)

  -- The search fails just if no run is long enough.
  pub claim-has : (n : ℕ) (m : List (Segment Z)) → 0 < n → ((claim n m).chosen ≡ none) ↔ (has_run n m ≡ false)
  claim-has n m pos = (claim-none n m, λ e. go e (claim n m).chosen refl)
    where
      go : has_run n m ≡ false → (h : Option FreeRun) → (claim n m).chosen ≡ h → h ≡ none
      go e none c = refl
      go e (some h) c =
          let f = claim-found n m h pos c in
          let short : h.size < n = each-locate (Short n) m (h.page * page_bytes) (all_short n m e) f.0 in
          absurd (omega (arith, f.1))

  -- Segments that have pages, of which no two runs touch. (b: a run stands just before.)
  abbrev pub Spread : Bool → List (Segment Z) → Type 0
  Spread b m = Apart b m × Each (λ x. 0 < pages x) m

  -- A run that stands before takes the half page that is rounded up.
  looked-most : (p n : ℕ) (b : Bool) (m : List (Segment Z)) → Spread b m → (first_fit p n m).looked * 2 + cond b 1 0 ≤ total m + 1
  looked-most p n b [] h = omega (arith, one-most b)
  looked-most p n b (run k ∷ r) h = bool (leb n k)
      (λ t. rw (t, h.0.0) (omega (arith, h.1.0)))
      (λ t. rw (t, h.0.0) (omega (arith, h.1.0, looked-most (p + k) n true r (h.0.2, h.1.1))))
  looked-most p n b (direct k g ∷ r) h = omega (arith, one-most b, h.1.0, looked-most (p + k) n false r (h.0, h.1.1))
  looked-most p n b (zone z ∷ r) h = omega (arith, one-most b, looked-most (p + zone_pages) n false r (h.0, h.1.1))

  -- Runs do not touch: so no search looks at more of them than half of the pages, rounded up.
  pub claim-bounded : (n : ℕ) (m : List (Segment Z)) → Spread false m → (claim n m).looked ≤ most_looked (total m)
  unfolding claim
  claim-bounded n m h = omega (arith, looked-most 0 n false m h)

-- Lines of a listing's runs (start, pages), of which none tells n pages.
abbrev pub TooShort : ℕ → List (List ℕ) → Type 0
TooShort n rows = every (λ row. ltb (get_or row 1 0) n) rows ≡ true

short-more : (n p k : ℕ) (rows : List (List ℕ)) → leb n k ≡ false → TooShort n rows → TooShort n ((p ∷ k ∷ []) ∷ rows)
unfolding every
short-more n p k rows t h = and_both _ _ (lt-ltb k n (leb-false n k t)) h

-- The k-th line, of the run h, is the first that tells n pages.
pub record FirstLine (n : ℕ) (rows : List (List ℕ)) (h : FreeRun) (k : ℕ) : Type 0 where
  pub before : List (List ℕ)
  pub behind : List (List ℕ)
  pub split : rows ≡ before ++ ((h.page ∷ h.size ∷ []) ∷ behind)
  pub count : k ≡ length before + 1
  pub short : TooShort n before
  pub enough : n ≤ h.size

first_fit-line : (p n : ℕ) (m : PageMap) (h : FreeRun) → (first_fit p n m).chosen ≡ some h → FirstLine n (run_lines p m) h (first_fit p n m).looked
unfolding every
first_fit-line p n [] h e = none-some e
first_fit-line p n (run k ∷ r) h e = bool (leb n k)
    (λ t. rw t (subst (λ h. FirstLine n ((p ∷ k ∷ []) ∷ run_lines (p + k) r) h 1) (some_inj (rw t at e)) (here t)))
    (λ t. rw t (later t (first_fit-line (p + k) n r h (rw t at e))))
  where
    here : leb n k ≡ true → {l : List (List ℕ)} → FirstLine n ((p ∷ k ∷ []) ∷ l) (record { page = p; size = k }) 1
    here t {l} = record { before = []; behind = l; split = refl; count = omega arith; short = refl; enough = leb-true n k t }

    later : leb n k ≡ false → {l : List (List ℕ)} {j : ℕ} → FirstLine n l h j → FirstLine n ((p ∷ k ∷ []) ∷ l) h (1 + j)
    later t f = record {
      before = (p ∷ k ∷ []) ∷ f.before;
      behind = f.behind;
      split = ap (λ l. (p ∷ k ∷ []) ∷ l) f.split;
      count = omega (arith, f.count);
      short = short-more n p k f.before t f.short;
      enough = f.enough;
    }
first_fit-line p n (direct k g ∷ r) h e = first_fit-line (p + k) n r h e
first_fit-line p n (zone z ∷ r) h e = first_fit-line _ n r h e

first_fit-all : (p n : ℕ) (m : PageMap) → (first_fit p n m).chosen ≡ none → ((first_fit p n m).looked ≡ length (run_lines p m)) × TooShort n (run_lines p m)
unfolding every
first_fit-all p n [] e = (refl, refl)
first_fit-all p n (run k ∷ r) e = bool (leb n k)
    (λ t. none-some (sym (rw t at e)))
    (λ t. let h = first_fit-all (p + k) n r (rw t at e) in rw t (omega (arith, h.0), short-more n p k (run_lines (p + k) r) t h.1))
first_fit-all p n (direct k g ∷ r) e = first_fit-all (p + k) n r e
first_fit-all p n (zone z ∷ r) e = first_fit-all _ n r e

-- A run is chosen: its line is the first that tells enough pages, and the count is that line's number.
pub claim-line : (n : ℕ) (m : PageMap) (h : FreeRun) → (claim n m).chosen ≡ some h → FirstLine n (run_lines 0 m) h (claim n m).looked
unfolding claim
claim-line n m h e = first_fit-line 0 n m h e

-- None is: no line tells enough, and the count is that of all lines.
pub claim-all : (n : ℕ) (m : PageMap) → (claim n m).chosen ≡ none → ((claim n m).looked ≡ length (run_lines 0 m)) × TooShort n (run_lines 0 m)
unfolding claim
claim-all n m e = first_fit-all 0 n m e

module _ {A B : Type 0} (f : A → B) where
  first_fit-retold : (p n : ℕ) (m : List (Segment A)) → first_fit p n (map (retold f) m) ≡ first_fit p n m
  first_fit-retold p n [] = refl
  first_fit-retold p n (run k ∷ r) = bool (leb n k) (λ t. rw t) (λ t. rw t (ap (onward 1) (first_fit-retold (p + k) n r)))
  first_fit-retold p n (direct k g ∷ r) = first_fit-retold (p + k) n r
  first_fit-retold p n (zone z ∷ r) = first_fit-retold _ n r

  -- The search does not look inside zones.
  pub claim-retold : (n : ℕ) (m : List (Segment A)) → claim n (map (retold f) m) ≡ claim n m
  unfolding claim
  claim-retold n m = first_fit-retold 0 n m

  pub has-retold : (n : ℕ) (m : List (Segment A)) → has_run n (map (retold f) m) ≡ has_run n m
  has-retold n [] = refl
  has-retold n (run k ∷ r) = ap (λ t. leb n k || t) (has-retold n r)
  has-retold n (direct k g ∷ r) = has-retold n r
  has-retold n (zone z ∷ r) = has-retold n r

-- Trimmed page maps: in them a row of clear pages lies in one free run, and requests of whole pages and returns of direct blocks
-- keep them so. Assumes nothing.
use Prim.Native.Nat.{ℕ, zero, suc, ◌+◌, ◌-◌, ◌*◌, ◌≤◌, ◌<◌}
use mathlib.Core.Path.{◌≡◌, refl, sym, ◌∙◌, ap}
use mathlib.Core.List.{List, [], ◌∷◌, ◌++◌, map}
use mathlib.Core.Option.{some}
use mathlib.Core.Bool.{Bool, true, false}
use native.Mathlib.Omega.{arith}
use lib.Dec.{ltb, leb}
use borrow.Author.Tests.{leb-true, leb-false, ltb-true, ltb-false, lt-ltb, le-ltb, le-leb}
use Rattle.lemmas.proofs.Cases.{bool, true-false, clash}
use Rattle.model.specs.Numbers.{page_bytes, zone_bytes, zone_pages}
use Rattle.model.specs.Arena.{Segment, run, direct, zone, pages, bytes, total, retold, locate, edit, Each}
use Rattle.model.specs.PageMap.{Occupancy, occupancy, PageMap, page_map, idle}
use Rattle.model.specs.Zone.{Zone}
use Rattle.model.specs.State.{State}
use Rattle.model.specs.Valid.{ValidSegment, Valid}
use Rattle.model.specs.Trim.{trimmed}
use Rattle.model.specs.Pages.{FreeRun, claim, has_run, with_run, joined, free_pages, release}
use Rattle.model.proofs.Arena.{split, locate-mid, each-edit, same-segment}
use Rattle.model.proofs.Claim.{claim-found}
use Rattle.model.proofs.Joins.{some-run, run-append}
use Rattle.model.proofs.Trimmed.{trimmed-map}
use Rattle.history.specs.Rows.{is_clear, clear_there, Clear, Row}

-- A trimmed map: runs have pages and stand apart, direct blocks have pages, every zone has a live chunk. (b: a run stands just before.)
abbrev pub Neat : Bool → PageMap → Type 0
Neat b [] = Unit {0}
Neat b (run k ∷ r) = (b ≡ false) × (0 < k) × Neat true r
Neat b (direct k g ∷ r) = (0 < k) × Neat false r
Neat b (zone l ∷ r) = (idle l ≡ false) × Neat false r

-- what joining asks, if it frees the zones that f names
abbrev pub Fit : (Occupancy → Bool) → Segment Occupancy → Type 0
Fit f (run n) = Unit {0}
Fit f (direct n g) = 0 < n
Fit f (zone l) = f l ≡ false → idle l ≡ false

neat-weaken : (m : PageMap) → Neat true m → Neat false m
neat-weaken [] h = tt
neat-weaken (run k ∷ r) h = (refl, h.1, h.2)
neat-weaken (direct k g ∷ r) h = h
neat-weaken (zone l ∷ r) h = h

neat-run : (n : ℕ) (m : PageMap) → Neat true m → Neat false (with_run n m)
neat-run zero m h = neat-weaken m h
neat-run (suc n) m h = (refl, omega arith, h)

pub joined-neat : (f : Occupancy → Bool) (n : ℕ) (m : PageMap) → Each (Fit f) m → Neat false (joined f n m)
joined-neat f n [] h = neat-run n [] tt
joined-neat f n (run k ∷ r) h = joined-neat f (n + k) r h.1
joined-neat f n (direct k g ∷ r) h = neat-run n _ (h.0, joined-neat f 0 r h.1)
joined-neat f n (zone l ∷ r) h = bool (f l) (λ t. rw t (joined-neat f _ r h.1)) (λ t. rw t (neat-run n _ (h.0 t, joined-neat f 0 r h.1)))

-- Nothing is left to join: trim leaves a trimmed map as it is.
pub neat-again : (m : PageMap) → (Neat false m → joined idle 0 m ≡ m) × ((n : ℕ) → 0 < n → Neat true m → joined idle n m ≡ run n ∷ m)
neat-again [] = (λ h. refl, λ n p h. sym (some-run n [] p))
neat-again (run k ∷ r) = (λ h. ap (λ n. joined idle n r) (let q : 0 + k ≡ k = omega arith in q) ∙ (neat-again r).1 k h.1 h.2, λ n p h. true-false refl h.0)
neat-again (direct k g ∷ r) = (λ h. ap (λ l. direct k g ∷ l) ((neat-again r).0 h.1), λ n p h. cc (some-run n (direct k g ∷ joined idle 0 r) p, (neat-again r).0 h.1))
neat-again (zone l ∷ r) = (λ h. rw h.0 (ap (λ q. zone l ∷ q) ((neat-again r).0 h.1)), λ n p h. rw h.0 (cc (some-run n (zone l ∷ joined idle 0 r) p, (neat-again r).0 h.1)))

-- What joining asks of the page map of valid segments.
all_fit : (m : List (Segment Zone)) → Each ValidSegment m → Each (Fit idle) (map (retold occupancy) m)
all_fit [] h = tt
all_fit (run n ∷ r) h = (tt, all_fit r h.1)
all_fit (direct n g ∷ r) h = (h.0.0, all_fit r h.1)
all_fit (zone z ∷ r) h = (λ e. e, all_fit r h.1)

pub trimmed-neat : (s : State) → Valid s → Neat false (page_map (trimmed s))
trimmed-neat s v = rw (trimmed-map s) (joined-neat idle 0 (page_map s) (all_fit s.segments v.sound))

-- Trim, once more, changes the page map no further.
pub trimmed-again : (s : State) → Valid s → page_map (trimmed (trimmed s)) ≡ page_map (trimmed s)
trimmed-again s v = trimmed-map (trimmed s) ∙ (neat-again (page_map (trimmed s))).0 (trimmed-neat s v)

neat-fit : (b : Bool) (m : PageMap) → Neat b m → Each (Fit (λ _. false)) m
neat-fit b [] h = tt
neat-fit b (run k ∷ r) h = (tt, neat-fit true r h.2)
neat-fit b (direct k g ∷ r) h = (h.0, neat-fit false r h.1)
neat-fit b (zone l ∷ r) h = (λ _. h.0, neat-fit false r h.1)

pub release-neat : (o : ℕ) (m : PageMap) → Neat false m → Neat false (release o m)
release-neat o m h = joined-neat (λ _. false) 0 (edit o free_pages m) (each-edit _ o free_pages (λ x _. (tt, tt)) m (neat-fit false m h))

module _ (k n g : ℕ) (pos : 0 < n) where
  -- The free run is a run, so what stands behind it is none.
  carve-here : (b : Bool) (x : Segment Occupancy) (r : PageMap) → x ≡ run k → Neat b (x ∷ r) → Neat b (direct n g ∷ (with_run (k - n) [] ++ r))
  carve-here b x r e h = let q : Neat b (run k ∷ r) = rw e at h in (pos, rw (run-append (k - n) r) (neat-run (k - n) r q.2))

  pub carve-neat : (b : Bool) (o : ℕ) (m : PageMap) → locate o m ≡ some (record { away = 0; segment = run k }) → Neat b m → Neat b (edit o (λ _. direct n g ∷ with_run (k - n) []) m)
  carve-neat b o [] e h = tt
  carve-neat b o (run j ∷ r) e h = bool (ltb o (j * page_bytes)) (λ t. rw t (carve-here b (run j) r (same-segment (rw t at e)) h)) (λ t. rw t (h.0, h.1, carve-neat true _ r (rw t at e) h.2))
  carve-neat b o (direct j i ∷ r) e h = bool (ltb o (j * page_bytes)) (λ t. rw t (carve-here b _ r (same-segment (rw t at e)) h)) (λ t. rw t (h.0, carve-neat false _ r (rw t at e) h.1))
  carve-neat b o (zone l ∷ r) e h = bool (ltb o zone_bytes) (λ t. rw t (carve-here b (zone l) r (same-segment (rw t at e)) h)) (λ t. rw t (h.0, carve-neat false (o - zone_bytes) r (rw t at e) h.1))

-- Rows and runs --------------------------------------------------------------------------------------------

-- what stands at the front of a neat map, behind a run, is not clear
front-taken : (m : PageMap) → Neat true m → Clear m 0 → ⊥
front-taken [] h c = clash (cc)
front-taken (run k ∷ r) h c = true-false refl h.0
front-taken (direct k g ∷ r) h c = true-false (rw (lt-ltb 0 (k * page_bytes) (omega arith)) at c) refl
front-taken (zone l ∷ r) h c = true-false (sym h.0 ∙ c) refl

-- page q of a map, past its first segment
clear-past : (x : Segment Occupancy) (r : PageMap) (q : ℕ) → Clear (x ∷ r) (pages x + q) → Clear r q
clear-past x r q c = ap (λ k. clear_there (locate k r)) (let e : q * page_bytes ≡ (pages x + q) * page_bytes - bytes x = omega arith in e) ∙ rw (le-ltb ((pages x + q) * page_bytes) (bytes x) (omega arith)) at c

row-past : (n p : ℕ) (x : Segment Occupancy) (r : PageMap) → pages x ≤ p → ((q : ℕ) → p ≤ q → q < p + n → Clear (x ∷ r) q) → Row n r
row-past n p x r h c = (p - pages x, λ q a b. clear-past x r q (c _ (omega arith) (omega arith)))

-- the page p is in the first segment
clear_first : (x : Segment Occupancy) (r : PageMap) (p : ℕ) → p < pages x → Clear (x ∷ r) p → is_clear x ≡ true
clear_first x r p h c = rw (lt-ltb (p * page_bytes) (bytes x) (omega arith)) at c

behind-run : (n k : ℕ) (r : PageMap) → has_run n r ≡ true → has_run n (run k ∷ r) ≡ true
behind-run n k r e = bool (leb n k) (λ t. rw t) (λ t. rw t e)

-- In a neat map a row of n clear pages lies in one run.
pub row-run : (n : ℕ) → 0 < n → (b : Bool) (m : PageMap) → Neat b m → Row n m → has_run n m ≡ true
row-run n pos b [] h w = true-false (w.1 w.0 (omega arith) (omega arith)) refl
row-run n pos b (run k ∷ r) h w = bool (ltb w.0 k)
    (λ t. bool (leb (w.0 + n) k)
    (λ u. rw (le-leb n k (omega (arith, leb-true))))
    (λ u. absurd (front-taken r h.2 (clear-past (run k) r 0 (w.1 (k + 0) (omega (arith, ltb-true)) (omega (arith, leb-false)))))))
    (λ t. behind-run n k r (row-run n pos true r h.2 (row-past n w.0 (run k) r (ltb-false w.0 k t) w.1)))
row-run n pos b (direct k g ∷ r) h w = bool (ltb w.0 k)
    (λ t. true-false (clear_first (direct k g) r w.0 (ltb-true w.0 k t) (w.1 w.0 (omega arith) (omega arith))) refl)
    (λ t. (row-run n pos false r h.1 (row-past n w.0 (direct k g) r (ltb-false w.0 k t) w.1)))
row-run n pos b (zone l ∷ r) h w = bool (ltb w.0 zone_pages)
    (λ t. true-false (cc (clear_first (zone l) r w.0 (ltb-true w.0 zone_pages t) (w.1 w.0 (omega arith) (omega arith)))) refl)
    (λ t. (row-run n pos false r h.1 (row-past n w.0 (zone l) r (ltb-false w.0 zone_pages t) w.1)))

-- What the claim finds is a row of clear pages.
pub found-row : (n : ℕ) (m : PageMap) (h : FreeRun) → 0 < n → (claim n m).chosen ≡ some h → Row n m
found-row n m h pos e =
    let f = claim-found n m h pos e in
    let S = split _ m f.0 in
    let base : h.page ≡ total S.before = omega arith in (
      h.page,
      λ q a b.
          let d = (q - h.page) * page_bytes in
          let at : q * page_bytes ≡ total S.before * page_bytes + d = omega arith in
          let small : d < h.size * page_bytes = omega arith in
          ap (λ k. clear_there (locate k m)) at ∙ ap (λ l. clear_there (locate (total S.before * page_bytes + d) l)) S.whole ∙ ap clear_there (locate-mid S.before (run h.size ∷ []) S.behind d (omega arith)) ∙ ap clear_there (let o : locate d (run h.size ∷ []) ≡ some (record { away = d; segment = run h.size }) = rw (lt-ltb d _ small) in o),
    )

-- The live blocks of a page map: what stands where a block begins, and what joining, an edit of one segment, a carved run, a changed
-- zone and released pages do to the blocks. Assumes nothing.
use Prim.Native.Nat.{ℕ, zero, suc, ◌+◌, ◌-◌, ◌*◌, ◌/◌, ◌%◌, ◌<◌}
use mathlib.Core.Path.{◌≡◌, refl, sym, ◌∙◌, ap}
use mathlib.Core.List.{List, [], ◌∷◌, ◌++◌}
use mathlib.Core.Option.{Option, none, some}
use mathlib.Core.Bool.{true, false}
use native.Mathlib.Omega.{arith}
use native.Mathlib.Nat.{div-add-mod', mul-div_cancel, mul-mod_left}
use lib.Dec.{ltb, eqb}
use lib.ListN.{length, get_or, get_or-eq_default}
use borrow.Author.Tests.{ltb-true, ltb-false, eqb-true, lt-ltb}
use Rattle.lemmas.proofs.Cases.{bool, true-false, cond_same}
use Rattle.model.specs.Numbers.{page_bytes, zone_bytes, zone_pages}
use Rattle.model.specs.Sizes.{room, chunks}
use Rattle.model.specs.Arena.{Segment, run, direct, zone, pages, bytes, total, Place, locate, edit}
use Rattle.model.specs.PageMap.{Occupancy, padded, PageMap, all_zero, idle, Block, chunk, chunk_of, block_in, block_there, block_at}
use Rattle.model.specs.Pages.{FreeRun, claim, with_run, carve, joined}
use Rattle.model.proofs.Sizes.{room-pos}
use Rattle.model.proofs.Arena.{total-append, locate-mid, Split, split, swap}
use Rattle.model.proofs.Claim.{claim-found}
use Rattle.model.proofs.Joins.{zero-run, joined-see, total-with_run}

-- A segment of a page map that has the size it says: direct blocks have pages, zones an entry for each chunk.
abbrev pub Sized : Segment Occupancy → Type 0
Sized (run n) = Unit {0}
Sized (direct n g) = 0 < n
Sized (zone l) = length l.groups ≡ chunks l.class

-- Idle zones hold no block.
pub all_zero-get_or : (l : List ℕ) → all_zero l ≡ true → (i : ℕ) → get_or l i 0 ≡ 0
all_zero-get_or [] e i = refl
all_zero-get_or (zero ∷ r) e zero = refl
all_zero-get_or (zero ∷ r) e (suc i) = all_zero-get_or r e i
all_zero-get_or (suc g ∷ r) e i = true-false e refl

pub all_zero-padded : (n : ℕ) → all_zero (padded n []) ≡ true
all_zero-padded zero = refl
all_zero-padded (suc n) = all_zero-padded n

-- A chunk with a group is live.
pub live-chunk : (c i g : ℕ) → 0 < g → chunk_of c i g ≡ some (chunk c i g)
live-chunk c i zero h = absurd (omega arith)
live-chunk c i (suc g) h = refl

pub idle-block_in : (d : ℕ) (l : Occupancy) → idle l ≡ true → block_in d (zone l) ≡ none
idle-block_in d l e = rw (all_zero-get_or l.groups e _) (cond_same (eqb (d % room l.class) 0) none)

pub joined-blocks : (m : PageMap) (o : ℕ) → block_at (joined idle 0 m) o ≡ block_at m o
joined-blocks m o = joined-see block_there none (λ d k. refl) idle idle-block_in 0 m o ∙ zero-run block_there none (λ d k. refl) m o

pub rejoined-blocks : (m : PageMap) (o : ℕ) → block_at (joined (λ _. false) 0 m) o ≡ block_at m o
rejoined-blocks m o = joined-see block_there none (λ d k. refl) (λ _. false) (λ d z e. true-false e refl) 0 m o ∙ zero-run block_there none (λ d k. refl) m o

-- An edit of one segment.
pub record Edited (o : ℕ) (f : Segment Occupancy → List (Segment Occupancy)) (m : PageMap) (pl : Place Occupancy) : Type 1 where
  pub base : ℕ
  pub at : o ≡ base + pl.away
  pub inside : pl.away < bytes pl.segment
  pub now : (d : ℕ) → d < bytes pl.segment → block_at (edit o f m) (base + d) ≡ block_at (f pl.segment) d
  pub was : (d : ℕ) → d < bytes pl.segment → block_at m (base + d) ≡ block_in d pl.segment
  pub rest : (K : ℕ → Type 0) → ((d : ℕ) → d < bytes pl.segment → K (base + d) → block_at (f pl.segment) d ≡ block_in d pl.segment) → (q : ℕ) → K q → block_at (edit o f m) q ≡ block_at m q
  pub size : total (edit o f m) ≡ total m

pub one_block : (x : Segment Occupancy) (d : ℕ) → d < bytes x → block_at (x ∷ []) d ≡ block_in d x
one_block x d h = rw (lt-ltb d (bytes x) h)

pub edited : (o : ℕ) (f : Segment Occupancy → List (Segment Occupancy)) (m : PageMap) {pl : Place Occupancy} → locate o m ≡ some pl → total (f pl.segment) ≡ pages pl.segment → Edited o f m pl
edited o f m {pl} e t = go (split o m e)
  where
    go : Split o m pl → Edited o f m pl
    go s = record {
      base = total s.before * page_bytes;
      at = s.at;
      inside = s.inside;
      now = λ d h. rw (s.edits f) (ap block_there (locate-mid s.before (f _) s.behind d (omega arith)));
      was = λ d h. rw s.whole (cc (locate-mid s.before (pl.segment ∷ []) s.behind d (omega arith), one_block _ d h));
      rest = λ K h q k. rw (s.edits f, s.whole) (swap block_there K s.before (pl.segment ∷ []) (f _) s.behind (omega arith) (λ d u v. h d (omega arith) v ∙ sym (one_block pl.segment d (omega arith))) q k);
      size = rw (s.edits f, s.whole) (omega (arith, total-append s.before (f pl.segment ++ s.behind), total-append (f pl.segment) s.behind, total-append s.before (pl.segment ∷ s.behind)));
    }

-- A step makes the block v at o, and leaves the others.
abbrev pub Only : PageMap → PageMap → ℕ → Option Block → Type 0
Only m m' o v = (block_at m' o ≡ v) × ((q : ℕ) → (q ≡ o → ⊥) → block_at m' q ≡ block_at m q) × (total m' ≡ total m)

-- A step leaves all blocks.
abbrev pub Still : PageMap → PageMap → Type 0
Still m m' = ((q : ℕ) → block_at m' q ≡ block_at m q) × (total m' ≡ total m)

runs_none : (k d : ℕ) → block_at (with_run k []) d ≡ none
runs_none zero d = refl
runs_none (suc k) d = bool (ltb d (suc k * page_bytes)) (λ t. rw t) (λ t. rw t)

-- A segment without blocks gives way to one whose one block begins at its start, and free pages.
pub put_only : (o : ℕ) (m : PageMap) (x₀ x : Segment Occupancy) (k : ℕ) → locate o m ≡ some (record { away = 0; segment = x₀ }) → pages x + k ≡ pages x₀ → 0 < pages x → ((d : ℕ) → block_in d x₀ ≡ none) → ((d : ℕ) → (d ≡ 0 → ⊥) → block_in d x ≡ none) → Only m (edit o (λ _. x ∷ with_run k []) m) o (block_in 0 x)
put_only o m x₀ x k e p pos bare alone =
    let t : pages x + total (with_run {Z = Occupancy} k []) ≡ pages x₀ = omega (arith, total-with_run {Z = Occupancy} k []) in
    let E = edited o (λ _. x ∷ with_run k []) m e t in (
      ap (block_at (edit o (λ _. x ∷ with_run k []) m)) E.at ∙ E.now 0 E.inside ∙ rw (lt-ltb 0 (bytes x) (omega arith)),
      λ q ne. E.rest (λ j. j ≡ o → ⊥) (λ d l j. bool (ltb d (bytes x)) (λ u. rw u (alone d (λ z. j (omega arith)))) (λ u. rw u (runs_none k _)) ∙ sym (bare d)) q ne,
      E.size,
    )

-- Pages taken from a run.
pub carve-only : (m : PageMap) (h : FreeRun) (n : ℕ) (x : Segment Occupancy) → 0 < n → (claim n m).chosen ≡ some h → pages x ≡ n → ((d : ℕ) → (d ≡ 0 → ⊥) → block_in d x ≡ none) → Only m (carve h n x m) (h.page * page_bytes) (block_in 0 x)
carve-only m h n x pos e p alone =
    let f = claim-found n m h pos e in
    put_only _ m _ x (h.size - n) f.0 (omega arith) (omega arith) (λ d. refl) alone

-- Chunks of a zone ---------------------------------------------------------------------------------------

pub block_in-at : (c i : ℕ) (l : List ℕ) → block_in (i * room c) (zone (record { class = c; groups = l })) ≡ chunk_of c i (get_or l i 0)
block_in-at c i l = rw (mul-mod_left i (room c), mul-div_cancel i (room-pos c))

-- one entry changes, one chunk changes
pub block_in-other : (c i : ℕ) (l l' : List ℕ) → ((j : ℕ) → (j ≡ i → ⊥) → get_or l' j 0 ≡ get_or l j 0) → (d : ℕ) → (d ≡ i * room c → ⊥) → block_in d (zone (record { class = c; groups = l' })) ≡ block_in d (zone (record { class = c; groups = l }))
block_in-other c i l l' h d ne = bool (eqb (d % room c) 0)
    (λ t. rw (h (d / room c) (λ z. ne (omega (arith, div-add-mod' d (room c), eqb-true, ap (λ k. k * room c) z)))))
    (λ t. rw t)

pub padded-in : (n : ℕ) (l : List ℕ) (i : ℕ) → i < n → get_or (padded n l) i 0 ≡ get_or l i 0
padded-in zero l i h = absurd (omega arith)
padded-in (suc n) [] zero h = refl
padded-in (suc n) [] (suc i) h = padded-in n [] i (omega arith)
padded-in (suc n) (x ∷ l) zero h = refl
padded-in (suc n) (x ∷ l) (suc i) h = padded-in n l i (omega arith)

pub padded-length : (n : ℕ) (l : List ℕ) → length (padded n l) ≡ n
padded-length zero l = refl
padded-length (suc n) [] = ap suc (padded-length n [])
padded-length (suc n) (x ∷ l) = ap suc (padded-length n l)

-- two owners' lists that differ at i only
pub padded-other : (n : ℕ) (l l' : List ℕ) (i : ℕ) → ((j : ℕ) → (j ≡ i → ⊥) → get_or l' j 0 ≡ get_or l j 0) → (j : ℕ) → (j ≡ i → ⊥) → get_or (padded n l') j 0 ≡ get_or (padded n l) j 0
padded-other n l l' i h j ne = bool (ltb j n)
    (λ t. rw (padded-in n l' j (ltb-true j n t), padded-in n l j (ltb-true j n t)) (h j ne))
    (λ t. rw (get_or-eq_default (padded n l') 0 {n = j} (omega (arith, ltb-false, padded-length n l')), get_or-eq_default (padded n l) 0 {n = j} (omega (arith, ltb-false, padded-length n l))))

-- The zone at a place gives way to another of its class whose owners differ at chunk i only.
pub chunk-only : (o : ℕ) (f : Segment Occupancy → List (Segment Occupancy)) (m : PageMap) (d c i : ℕ) (l l' : List ℕ) → locate o m ≡ some (record { away = d; segment = zone (record { class = c; groups = l }) }) →
    f (zone (record { class = c; groups = l })) ≡ zone (record { class = c; groups = l' }) ∷ [] →
    i * room c < zone_bytes → ((j : ℕ) → (j ≡ i → ⊥) → get_or l' j 0 ≡ get_or l j 0) →
    (b : ℕ) → o ≡ b + d → Only m (edit o f m) (b + i * room c) (chunk_of c i (get_or l' i 0))
chunk-only o f m d c i l l' e fe h other b at =
    let E = edited o f m e (ap total fe) in
    let same : E.base ≡ b = omega arith in (
      cc (E.now _ h, one_block _ _ h, block_in-at c i l'),
      λ q ne. E.rest (λ k. k ≡ b + i * room c → ⊥) (λ k u v. cc (one_block _ k u, block_in-other c i l l' other k (λ z. v (omega arith)))) q ne,
      E.size,
    )

-- An idle zone gives way to any segment of 8 pages without a block, or is set up anew.
pub idle-still : (o : ℕ) (f : Segment Occupancy → List (Segment Occupancy)) (m : PageMap) (d : ℕ) (l : Occupancy) → locate o m ≡ some (record { away = d; segment = zone l }) → idle l ≡ true → total (f (zone l)) ≡ zone_pages → ((k : ℕ) → k < zone_bytes → block_at (f (zone l)) k ≡ none) → Still m (edit o f m)
idle-still o f m d l e i t h =
    let E = edited o f m e t in
    (λ q. E.rest (λ _. Unit {0}) (λ k u v. h k u ∙ sym (idle-block_in k l i)) q tt, E.size)

-- What the second search is good for. The empty board does not say no: where no block is live, trim leaves one run, and a request is
-- granted if it is within the ceiling and the arena has the pages that it needs. A trim before a request neither helps nor harms. And a request of whole pages within
-- the ceiling is refused exactly when no row of pages is clear, in any state. Assumes nothing.
use Prim.Native.Nat.{ℕ, ◌+◌, ◌*◌, ◌≤◌, ◌<◌}
use mathlib.Core.Path.{◌≡◌, refl, sym, ◌∙◌, ap, subst}
use mathlib.Core.Logic.{◌↔◌}
use mathlib.Core.List.{List, [], ◌∷◌, Memᴰ}
use mathlib.Core.Option.{Option, none, some}
use mathlib.Core.Bool.{true, false, not}
use native.Mathlib.Omega.{arith}
use lib.Dec.{ltb, leb}
use borrow.Author.Tests.{le-leb, le-ltb}
use Rattle.lemmas.proofs.Keep.{keep-keeps}
use Rattle.lemmas.proofs.Cases.{bool, true-false, some_inj, none-some}
use Rattle.lemmas.specs.Keep.{keep}
use Rattle.model.specs.Numbers.{page_bytes, zone_pages, large_size}
use Rattle.model.specs.Arena.{run, total, locate}
use Rattle.model.specs.Sizes.{class_of, pages_for, room_for}
use Rattle.model.specs.Zone.{Zone}
use Rattle.model.specs.State.{State, list_of, ZoneAt, zone_in}
use Rattle.model.specs.PageMap.{occupancy, PageMap, page_map, idle, idle_zone, block_at}
use Rattle.model.specs.Holdings.{held_of}
use Rattle.model.specs.Ceilings.{within}
use Rattle.model.specs.Valid.{Valid}
use Rattle.model.specs.Pages.{FreeRun, claim, with_run, joined, has_run}
use Rattle.model.specs.Trim.{trimmed}
use Rattle.model.specs.Calls.{DeniedBy, GrantedAt, group_ok, size_ok}
use Rattle.model.specs.Allocate.{zone_needed, needed, allocate}
use Rattle.model.proofs.Arena.{total-retold}
use Rattle.model.proofs.Claim.{claim-none, has-retold}
use Rattle.model.proofs.Joins.{zero-run, joined-see, some-run}
use Rattle.model.proofs.Disjoint.{sized-map}
use Rattle.model.proofs.Allocated.{group-least}
use Rattle.model.proofs.Sums.{by-room, figure-still}
use Rattle.model.proofs.Figures.{trim-gains}
use Rattle.model.proofs.NoRoom.{Short, no_room, granted-else}
use Rattle.model.proofs.Trimmed.{trimmed-map, trimmed-list, trimmed-empty, joined-gone}
use Rattle.history.specs.Rows.{clear_there, Row}
use Rattle.history.proofs.Determined.{same-trimmed}
use Rattle.history.proofs.Neat.{trimmed-neat, trimmed-again, row-run, found-row}

-- No block is live.
abbrev pub Bare : PageMap → Type 0
Bare m = (o : ℕ) → block_at m o ≡ none

one-run : (n : ℕ) → Bare (run n ∷ [])
one-run n o = bool (ltb o (n * page_bytes)) (λ t. rw t) (λ t. rw t)

joined-one : (n : ℕ) → 0 < n → joined idle 0 (run n ∷ []) ≡ run n ∷ []
joined-one n h = ap (λ k. with_run k []) (let q : 0 + n ≡ n = omega arith in q) ∙ sym (some-run n [] h)

module _ (s : State) (v : Valid s) (bare : Bare (page_map s)) where
  pub bare-trimmed : page_map (trimmed s) ≡ run (total s.segments) ∷ []
  bare-trimmed =
      let n = total s.segments in
      trimmed-map s
      ∙ same-trimmed (page_map s) (run n ∷ []) (sized-map s v) (tt, tt) (λ o. bare o ∙ sym (one-run n o)) (total-retold occupancy s.segments ∙ omega arith)
      ∙ joined-one n v.least

  -- Nobody holds anything.
  pub bare-held : (g : ℕ) → 0 < g → held_of g (page_map s) ≡ 0
  bare-held g pos =
      let n = total s.segments in
      sym (figure-still by-room g pos (page_map s) (run n ∷ []) (sized-map s v) (tt, tt) (λ o. one-run n o ∙ sym (bare o), omega (arith, total-retold occupancy s.segments)))
      ∙ omega arith

  pub empty-board : (c g n : ℕ) → group_ok g ≡ true → size_ok n ≡ true → room_for n ≤ c → ((k : ℕ) → needed n s ≡ some k → k ≤ total s.segments) → (o : ℕ) × GrantedAt o (allocate c g n s).answer
  empty-board c g n t u most enough =
      granted-else s c g n t u (le-leb (held_of g (page_map s) + room_for n) c (omega (arith, bare-held g (group-least g t)))) (λ h. true-false (long h) h.none-long)
    where
      long : (h : Short s c g n) → has_run h.pages (page_map (trimmed s)) ≡ true
      long h = ap (has_run h.pages) bare-trimmed ∙ rw (le-leb h.pages (total s.segments) (enough h.pages h.needs))

-- A trim changes nothing about it: what is refused for want of pages is so after a trim, too, and the other way round -------------------

module _ (s : State) (v : Valid s) (most g n : ℕ) where
  abbrev c : ℕ
  c = class_of n

  -- A zone without a live chunk is pages enough for a zone.
  idle-has : (p : ℕ) (z : Zone) → ZoneAt s.segments p z → idle_zone z ≡ true → has_run zone_pages (page_map (trimmed s)) ≡ true
  idle-has p z b e = has-retold occupancy zone_pages (trimmed s).segments ∙ joined-gone idle_zone 0 (p * page_bytes) 0 s.segments z b e

  -- A chunk needs pages after a trim if it does before; ..
  needs-after : (k : ℕ) (l q : List ℕ) → list_of s c ≡ l → zone_needed l q ≡ some k → zone_needed (list_of (trimmed s) c) [] ≡ some k
  needs-after k [] [] a e = ap (λ l. zone_needed l []) (trimmed-empty s c a) ∙ e
  needs-after k [] (p ∷ ps) a e = none-some e
  needs-after k (p ∷ ps) q a e = none-some e

  -- .. and before it if it does after, unless a zone was given back, whose pages are then enough.
  eight : (k : ℕ) (l : List ℕ) → zone_needed l [] ≡ some k → zone_pages ≡ k
  eight k [] e = some_inj e
  eight k (p ∷ ps) e = none-some e

  none_needed : {p : ℕ} (k : ℕ) (l : List ℕ) → Memᴰ p l → zone_needed l [] ≡ some k → ⊥
  none_needed k [] i e = mathlib.Core.List.Memᴰ.not-nil i
  none_needed k (q ∷ qs) i e = none-some e

  needs-before : (k : ℕ) (l q : List ℕ) → list_of s c ≡ l → s.spare ≡ q → has_run k (page_map (trimmed s)) ≡ false → zone_needed (list_of (trimmed s) c) [] ≡ some k → zone_needed l q ≡ some k
  unfolding keep
  needs-before k [] [] a b h e = ap some (eight k (list_of (trimmed s) c) e)
  needs-before k [] (p ∷ ps) a b h e =
      let w = v.spared p (rw b (mathlib.Core.List.Memᴰ.head refl)) in
      true-false (idle-has p w.0 w.1 w.2) (ap (λ j. has_run j (page_map (trimmed s))) (eight k (list_of (trimmed s) c) e) ∙ h)
  needs-before k (p ∷ ps) q a b h e =
      let i : Memᴰ p (list_of s c) = rw a (mathlib.Core.List.Memᴰ.head refl) in
      let w = v.listed c p i in
      bool (idle_zone w.0)
      (λ t. true-false (idle-has p w.0 w.1 t) (ap (λ j. has_run j (page_map (trimmed s))) (eight k (list_of (trimmed s) c) e) ∙ h))
      (λ t. absurd (none_needed k (list_of (trimmed s) c) (subst (Memᴰ p) (sym (trimmed-list s c)) (keep-keeps _ (ap (λ x. not (idle_zone (zone_in x))) w.1 ∙ ap not t) i)) e))

  -- Trim takes nothing from a group.
  same-within : group_ok g ≡ true → within most g n (page_map (trimmed s)) ≡ within most g n (page_map s)
  same-within t = ap (λ h. leb (h + room_for n) most) (let e : held_of g (page_map (trimmed s)) ≡ held_of g (page_map s) = omega (arith, (trim-gains s v g (group-least g t)).held) in e)

  pub short-trimmed : Short s most g n ↔ Short (trimmed s) most g n
  short-trimmed = (
    λ h. record {
      group = h.group;
      size = h.size;
      ceiling = same-within h.group ∙ h.ceiling;
      pages = h.pages;
      needs = bool (ltb n large_size) (λ t. rw t (needs-after h.pages (list_of s c) s.spare refl (rw t at h.needs))) (λ t. rw t (rw t at h.needs));
      none-long = ap (has_run h.pages) (trimmed-again s v) ∙ h.none-long;
    },
    λ h.
        let short = ap (has_run h.pages) (sym (trimmed-again s v)) ∙ h.none-long in
        record {
          group = h.group;
          size = h.size;
          ceiling = sym (same-within h.group) ∙ h.ceiling;
          pages = h.pages;
          needs = bool (ltb n large_size) (λ t. rw t (needs-before h.pages (list_of s c) s.spare refl refl short (rw t at h.needs))) (λ t. rw t (rw t at h.needs));
          none-long = short;
        },
  )

-- Demand 3's rule on refusals, in any state: a request of whole pages is refused exactly when no row of pages is clear ------------------

-- Trim leaves the same pages clear.
clear-trimmed : (s : State) (q : ℕ) → clear_there (locate (q * page_bytes) (page_map (trimmed s))) ≡ clear_there (locate (q * page_bytes) (page_map s))
clear-trimmed s q =
    ap (λ m. clear_there (locate (q * page_bytes) m)) (trimmed-map s)
    ∙ joined-see clear_there true (λ d k. refl) idle (λ d l e. e) 0 (page_map s) (q * page_bytes)
    ∙ zero-run clear_there true (λ d k. refl) (page_map s) (q * page_bytes)

module _ (s : State) (v : Valid s) (n : ℕ) (pos : 0 < n) where
  row_has : Row n (page_map s) → has_run n (page_map (trimmed s)) ≡ true
  row_has w = row-run n pos false (page_map (trimmed s)) (trimmed-neat s v) (w.0, λ q a b. clear-trimmed s q ∙ w.1 q a b)

  has-row : has_run n (page_map (trimmed s)) ≡ true → Row n (page_map s)
  has-row e = go (claim n (page_map (trimmed s))).chosen refl
    where
      go : (h : Option FreeRun) → (claim n (page_map (trimmed s))).chosen ≡ h → Row n (page_map s)
      go none c = true-false e (claim-none n (page_map (trimmed s)) c)
      go (some h) c = let w = found-row n (page_map (trimmed s)) h pos c in (w.0, λ q a b. sym (clear-trimmed s q) ∙ w.1 q a b)

pub no_row : (s : State) → Valid s → (c g n : ℕ) → large_size ≤ n → group_ok g ≡ true → size_ok n ≡ true → within c g n (page_map s) ≡ true → DeniedBy 6 (allocate c g n s).answer ↔ (Row (pages_for n) (page_map s) → ⊥)
no_row s v c g n h t u r = (
  λ d w. let k = (no_room s c g n).0 d in true-false (row_has s v (pages_for n) (omega arith) w) (ap (λ j. has_run j (page_map (trimmed s))) (pages-are k.needs) ∙ k.none-long),
  λ f. (no_room s c g n).1 (record {
    group = t;
    size = u;
    ceiling = r;
    pages = pages_for n;
    needs = whole;
    none-long = bool (has_run (pages_for n) (page_map (trimmed s))) (λ e. absurd (f (has-row s v (pages_for n) (omega arith) e))) (λ e. e);
  }),
)
  where
    whole : needed n s ≡ some (pages_for n)
    whole = rw (le-ltb n large_size h)

    pages-are : {k : ℕ} → needed n s ≡ some k → pages_for n ≡ k
    pages-are e = some_inj (sym whole ∙ e)

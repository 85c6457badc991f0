-- What a reset does to the live blocks: the group's blocks are gone, all others stay. The offsets that it goes through are those at
-- which a block of the group begins. Assumes nothing.
use Prim.Native.Nat.{ℕ, zero, suc, ◌+◌, ◌-◌, ◌*◌, ◌/◌, ◌%◌, ◌<◌}
use mathlib.Core.Path.{◌≡◌, refl, sym, ◌∙◌, ap}
use mathlib.Core.Logic.{◌⊎◌, inl, inr}
use mathlib.Core.List.{List, [], ◌∷◌, ◌++◌}
use mathlib.Core.Option.{Option, none, some}
use mathlib.Core.Bool.{Bool, true, false, ◌||◌}
use native.Mathlib.Omega.{arith}
use native.Mathlib.Nat.{div-add-mod'}
use lib.Dec.{ltb, eqb}
use lib.ListN.{length, get_or}
use borrow.Author.Tests.{ltb-false, eqb-true, eqb-false, lt-ltb, le-ltb, eq-eqb}
use Rattle.lemmas.proofs.Cases.{bool, clash, true-false}
use Rattle.model.specs.Sizes.{room}
use Rattle.model.specs.Arena.{Segment, run, direct, zone, bytes, total, Each}
use Rattle.model.specs.State.{State}
use Rattle.model.specs.PageMap.{Occupancy, PageMap, page_map, Block, group_of, chunk_of, block_in, block_at}
use Rattle.model.specs.Free.{freed_if, chunk_offsets, offsets_in, offsets_from, offsets_of, freed_all}
use Rattle.model.proofs.Sizes.{chunk-begins}
use Rattle.model.proofs.Blocks.{Sized, block_in-at}
use Rattle.model.proofs.Freed.{freed_if-only}

-- Whether a block is there and is the group's.
abbrev pub is_of : ℕ → Option Block → Bool
is_of g none = false
is_of g (some b) = eqb (group_of b) g

-- Nothing where the test holds, else what was there.
abbrev pub without : Bool → Option Block → Option Block
without true b = none
without false b = b

-- Whether a number is among others.
pub among : ℕ → List ℕ → Bool
among q [] = false
among q (o ∷ r) = eqb q o || among q r

pub freed_all-blocks : (l : List ℕ) (s : State) → ((q : ℕ) → block_at (page_map (freed_all l s)) q ≡ without (among q l) (block_at (page_map s) q)) × (total (page_map (freed_all l s)) ≡ total (page_map s))
unfolding among
freed_all-blocks [] s = (λ q. refl, refl)
freed_all-blocks (o ∷ r) s =
    let t : State = freed_if o (block_at (page_map s) o) s in
    let f = freed_if-only s o (block_at (page_map s) o) refl in
    let h = freed_all-blocks r t in (
      λ q. h.0 q ∙ bool (eqb q o)
          (λ u. rw u (cc (eqb-true q o u, without-none (among q r))))
          (λ u. rw u (ap (without (among q r)) (f.1 q (eqb-false q o u)))),
      h.1 ∙ f.2,
    )
  where
    without-none : (b : Bool) → without b none ≡ none
    without-none true = refl
    without-none false = refl

among-left : (q : ℕ) (a b : List ℕ) → among q a ≡ true → among q (a ++ b) ≡ true
unfolding among
among-left q [] b h = clash (cc)
among-left q (x ∷ a) b h = bool (eqb q x) (λ t. rw t) (λ t. rw t (among-left q a b (rw t at h)))

among-right : (q : ℕ) (a b : List ℕ) → among q b ≡ true → among q (a ++ b) ≡ true
unfolding among
among-right q [] b h = h
among-right q (x ∷ a) b h = bool (eqb q x) (λ t. rw t) (λ t. rw t (among-right q a b h))

among_cases : (q : ℕ) (a b : List ℕ) → among q (a ++ b) ≡ true → (among q a ≡ true) ⊎ (among q b ≡ true)
unfolding among
among_cases q [] b h = inr h
among_cases q (x ∷ a) b h = bool (eqb q x) (λ t. inl (rw t)) (λ t. rw t (among_cases q a b (rw t at h)))

among_one : (q o : ℕ) (l : List ℕ) → q ≡ o → among q (o ∷ l) ≡ true
unfolding among
among_one q o l e = rw (eq-eqb q o e)

among-more : (q o : ℕ) (l : List ℕ) → among q l ≡ true → among q (o ∷ l) ≡ true
among-more q o l h = among-right q (o ∷ []) l h

among-cons : (q o : ℕ) (l : List ℕ) → among q (o ∷ l) ≡ true → (q ≡ o) ⊎ (among q l ≡ true)
unfolding among
among-cons q o l h = bool (eqb q o) (λ t. inl (eqb-true q o t)) (λ t. inr (rw t at h))

not-in-nil : (q : ℕ) → among q [] ≡ true → ⊥
unfolding among
not-in-nil q h = clash (cc)

chunks-in : (g o r : ℕ) (l : List ℕ) (i : ℕ) → 0 < g → get_or l i 0 ≡ g → among (o + i * r) (chunk_offsets g o r l) ≡ true
chunks-in g o r [] i p e = absurd (omega arith)
chunks-in g o r (x ∷ l) zero p e = rw (eq-eqb x g e) (among_one (o + 0 * r) o _ (omega arith))
chunks-in g o r (x ∷ l) (suc i) p e =
    let h : among (o + suc i * r) (chunk_offsets g (o + r) r l) ≡ true = ap (λ q. among q (chunk_offsets g (o + r) r l)) (let q : o + suc i * r ≡ o + r + i * r = omega arith in q) ∙ chunks-in g (o + r) r l i p e in
    bool (eqb x g) (λ t. rw t (among-more _ o _ h)) (λ t. rw t h)

chunks-out : (g o r : ℕ) (l : List ℕ) (q : ℕ) → among q (chunk_offsets g o r l) ≡ true → (i : ℕ) × (q ≡ o + i * r) × (get_or l i 0 ≡ g) × (i < length l)
chunks-out g o r [] q h = absurd (not-in-nil q h)
chunks-out g o r (x ∷ l) q h = bool (eqb x g)
    (λ t. here t (among-cons q o _ (rw t at h)) (chunks-out g (o + r) r l q))
    (λ t. next (chunks-out g (o + r) r l q (rw t at h)))
  where
    next : (i : ℕ) × (q ≡ o + r + i * r) × (get_or l i 0 ≡ g) × (i < length l) → (i : ℕ) × (q ≡ o + i * r) × (get_or (x ∷ l) i 0 ≡ g) × (i < length (x ∷ l))
    next f = (suc f.0, omega arith, f.2, omega arith)

    here : eqb x g ≡ true → (q ≡ o) ⊎ (among q (chunk_offsets g (o + r) r l) ≡ true) → (among q (chunk_offsets g (o + r) r l) ≡ true → (i : ℕ) × (q ≡ o + r + i * r) × (get_or l i 0 ≡ g) × (i < length l)) → (i : ℕ) × (q ≡ o + i * r) × (get_or (x ∷ l) i 0 ≡ g) × (i < length (x ∷ l))
    here t (inl e) k = (0, omega arith, eqb-true x g t, omega arith)
    here t (inr e) k = next (k e)

live-group : (c i k g : ℕ) → is_of g (chunk_of c i k) ≡ true → k ≡ g
live-group c i zero g h = clash (cc)
live-group c i (suc k) g h = eqb-true (suc k) g h

group-live : (c i k g : ℕ) → 0 < g → k ≡ g → is_of g (chunk_of c i k) ≡ true
group-live c i zero g p e = absurd (omega arith)
group-live c i (suc k) g p e = eq-eqb (suc k) g e

seg_in : (g o d : ℕ) (x : Segment Occupancy) → 0 < g → is_of g (block_in d x) ≡ true → among (o + d) (offsets_in g o x) ≡ true
seg_in g o d (run n) p h = clash (cc)
seg_in g o d (direct n k) p h = bool (eqb d 0)
    (λ t. let u : eqb k g ≡ true = rw t at h in rw u (among_one (o + d) o [] (omega (arith, eqb-true))))
    (λ t. true-false (rw t at h) refl)
seg_in g o d (zone l) p h = let r = room l.class in bool (eqb (d % r) 0)
    (λ t. ap (λ q. among q (chunk_offsets g o r l.groups)) (let q : o + d ≡ o + d / r * r = omega (arith, div-add-mod' d r, eqb-true) in q) ∙ chunks-in g o r l.groups (d / r) p (live-group l.class (d / r) _ g (rw t at h)))
    (λ t. true-false (rw t at h) refl)

abbrev InSeg : ℕ → ℕ → Segment Occupancy → ℕ → Type 0
InSeg g o x q = (d : ℕ) × (q ≡ o + d) × (d < bytes x) × (is_of g (block_in d x) ≡ true)

seg_out : (g o q : ℕ) (x : Segment Occupancy) → 0 < g → Sized x → among q (offsets_in g o x) ≡ true → InSeg g o x q
seg_out g o q (run n) p k h = absurd (not-in-nil q h)
seg_out g o q (direct n j) p k h = bool (eqb j g)
    (λ t. go t (among-cons q o [] (rw t at h)))
    (λ t. absurd (not-in-nil q (rw t at h)))
  where
    go : eqb j g ≡ true → (q ≡ o) ⊎ (among q [] ≡ true) → InSeg g o (direct n j) q
    go t (inl e) = (0, omega arith, omega arith, t)
    go t (inr e) = absurd (not-in-nil q e)
seg_out g o q (zone l) p k h =
    let f = chunks-out g o _ l.groups q h in
    (f.0 * room l.class, f.1, chunk-begins l.class f.0 (omega arith), cc (block_in-at l.class f.0 l.groups, group-live l.class f.0 _ g p f.2))

map-in : (g o d : ℕ) (m : PageMap) → 0 < g → is_of g (block_at m d) ≡ true → among (o + d) (offsets_from g o m) ≡ true
map-in g o d [] p h = clash (cc)
map-in g o d (x ∷ r) p h = bool (ltb d (bytes x))
    (λ t. among-left (o + d) _ _ (seg_in g o d x p (rw t at h)))
    (λ t. among-right (o + d) (offsets_in g o x) _ (ap (λ q. among q (offsets_from g (o + bytes x) r)) (let q : o + d ≡ o + bytes x + (d - bytes x) = omega (arith, ltb-false) in q) ∙ map-in g (o + bytes x) (d - bytes x) r p (rw t at h)))

map-out : (g o q : ℕ) (m : PageMap) → 0 < g → Each Sized m → among q (offsets_from g o m) ≡ true → (d : ℕ) × (q ≡ o + d) × (is_of g (block_at m d) ≡ true)
map-out g o q [] p k h = absurd (not-in-nil q h)
map-out g o q (x ∷ r) p k h = go (among_cases q _ _ h) (map-out g (o + bytes x) q r p k.1)
  where
    go : (among q (offsets_in g o x) ≡ true) ⊎ (among q (offsets_from g (o + bytes x) r) ≡ true) → (among q (offsets_from g (o + bytes x) r) ≡ true → (d : ℕ) × (q ≡ o + bytes x + d) × (is_of g (block_at r d) ≡ true)) → (d : ℕ) × (q ≡ o + d) × (is_of g (block_at (x ∷ r) d) ≡ true)
    go (inl a) _ = let f = seg_out g o q x p k.0 a in (f.0, f.1, rw (lt-ltb f.0 (bytes x) f.2) f.3)
    go (inr a) f = let y = f a in (bytes x + y.0, omega arith, rw (le-ltb (bytes x + y.0) (bytes x) (omega arith)) (ap (λ j. is_of g (block_at r j)) (let e : bytes x + y.0 - bytes x ≡ y.0 = omega arith in e) ∙ y.2))

-- The offsets are those of the group's blocks
pub among-held : (g q : ℕ) (m : PageMap) → 0 < g → Each Sized m → among q (offsets_from g 0 m) ≡ is_of g (block_at m q)
among-held g q m p k = bool (is_of g (block_at m q))
    (λ t. ap (λ j. among j (offsets_from g 0 m)) (let e : q ≡ 0 + q = omega arith in e) ∙ map-in g 0 q m p t ∙ sym t)
    (λ t. bool (among q _)
    (λ u. let f = map-out g 0 q m p k u in u ∙ sym f.2 ∙ ap (λ j. is_of g (block_at m j)) (let e : f.0 ≡ q = omega arith in e))
    (λ u. u ∙ sym t))

pub reset-blocks : (g : ℕ) (s : State) → 0 < g → Each Sized (page_map s) → ((q : ℕ) → block_at (page_map (freed_all (offsets_of g s) s)) q ≡ without (is_of g (block_at (page_map s) q)) (block_at (page_map s) q)) × (total (page_map (freed_all (offsets_of g s) s)) ≡ total (page_map s))
reset-blocks g s p k = let h = freed_all-blocks (offsets_of g s) s in
    (λ q. cc (h.0 q, among-held g q (page_map s) p k), h.1)

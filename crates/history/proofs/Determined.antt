-- The trimmed page map is determined by the number of pages and the live blocks. Assumes nothing.
use Prim.Native.Nat.{ℕ, zero, suc, ◌+◌, ◌-◌, ◌*◌, ◌≤◌, ◌<◌}
use mathlib.Core.Path.{◌≡◌, refl, sym, ◌∙◌, ap}
use mathlib.Core.List.{List, [], ◌∷◌}
use mathlib.Core.Option.{none, some}
use mathlib.Core.Bool.{false}
use native.Mathlib.Omega.{arith}
use lib.Dec.{ltb}
use lib.ListN.{length, get_or}
use lib.Seq.{ext_get_or}
use borrow.Author.Tests.{ltb-false, lt-ltb, le-ltb}
use Rattle.lemmas.proofs.Cases.{bool, clash, none-some}
use Rattle.model.specs.Numbers.{page_bytes, zone_bytes}
use Rattle.model.specs.Sizes.{room, chunks}
use Rattle.model.specs.Arena.{Segment, run, direct, zone, pages, bytes, total, Each}
use Rattle.model.specs.PageMap.{Occupancy, PageMap, all_zero, idle, Block, whole, chunk, chunk_of, block_in, block_there, block_at}
use Rattle.model.specs.Pages.{with_run, joined}
use Rattle.model.proofs.Sizes.{chunk-begins}
use Rattle.model.proofs.Joins.{zero-run, absorb}
use Rattle.model.proofs.Blocks.{Sized, idle-block_in, block_in-at}
use Rattle.model.proofs.Released.{whole-there, chunk-there}

-- how far behind its segment's start a block begins
back : Block → ℕ
back (whole n g) = 0
back (chunk c i g) = i * room c

back-away : (b : Block) (d : ℕ) (x : Segment Occupancy) → block_in d x ≡ some b → back b ≡ d
unfolding back
back-away (whole n g) d x e = sym (whole-there n g d x e).1
back-away (chunk c i g) d x e = sym (chunk-there c i g d x e).at

back-le : (b : Block) (m : PageMap) (o : ℕ) → block_at m o ≡ some b → back b ≤ o
back-le b [] o e = none-some e
back-le b (x ∷ r) o e = bool (ltb o (bytes x))
    (λ t. omega (arith, back-away b o x (rw t at e)))
    (λ t. omega (arith, back-le b r _ (rw t at e)))

-- behind a gap of k pages
gap-le : (b : Block) (k : ℕ) (m : PageMap) (o : ℕ) → block_at (run k ∷ m) o ≡ some b → k * page_bytes + back b ≤ o
gap-le b k m o e = bool (ltb o (k * page_bytes))
    (λ t. none-some (rw t at e))
    (λ t. omega (arith, ltb-false, back-le b m (o - k * page_bytes) (rw t at e)))

shift : (x : Segment Occupancy) (m : PageMap) (o : ℕ) → block_at (x ∷ m) (bytes x + o) ≡ block_at m o
shift x m o = rw (le-ltb (bytes x + o) (bytes x) (omega arith)) (ap (block_at m) (omega arith))

-- A segment that holds a block.
record Holds (x : Segment Occupancy) : Type 0 where
  away : ℕ
  block : Block
  inside : away < bytes x
  there : block_in away x ≡ some block

holds-direct : (n g : ℕ) → 0 < n → Holds (direct n g)
holds-direct n g h = record { away = 0; block = whole n g; inside = omega arith; there = refl }

first_live : (l : List ℕ) → all_zero l ≡ false → (i : ℕ) × (g : ℕ) × (i < length l) × (get_or l i 0 ≡ suc g)
first_live [] e = clash (cc)
first_live (zero ∷ r) e = let f = first_live r e in (suc f.0, f.1, omega arith, f.3)
first_live (suc g ∷ r) e = (0, g, omega arith, refl)

holds-zone : (l : Occupancy) → length l.groups ≡ chunks l.class → idle l ≡ false → Holds (zone l)
holds-zone l h e = let f = first_live l.groups e in record {
  away = f.0 * room l.class;
  block = chunk l.class f.0 (suc f.1);
  inside = chunk-begins l.class f.0 (omega arith);
  there = cc (block_in-at l.class f.0 l.groups);
}

-- The free pages in front, then the first segment that holds a block, if any.
data Lead (g : ℕ) (xs : PageMap) : Type 0 where
  free : ((o : ℕ) → block_at (run g ∷ xs) o ≡ none) → joined idle g xs ≡ with_run (g + total xs) [] → Lead g xs
  item : (k : ℕ) (x : Segment Occupancy) (r : PageMap) → Holds x → Sized x → Each Sized r → ((o : ℕ) → block_at (run g ∷ xs) o ≡ block_at (run k ∷ (x ∷ r)) o) → joined idle g xs ≡ with_run k (x ∷ joined idle 0 r) → g + total xs ≡ k + (pages x + total r) → length r < length xs → Lead g xs

run_none : (g o : ℕ) → block_at (run g ∷ []) o ≡ none
run_none g o = bool (ltb o (g * page_bytes)) (λ t. rw t) (λ t. rw t)

runs-eq : (a b : ℕ) → a ≡ b → with_run {Z = Occupancy} a [] ≡ with_run b []
runs-eq a b e = cc

-- a free part in front of xs joins the gap
lead-free : (g : ℕ) (y : Segment Occupancy) (xs : PageMap) → ((d : ℕ) → block_in d y ≡ none) → joined idle g (y ∷ xs) ≡ joined idle (g + pages y) xs → Lead (g + pages y) xs → Lead g (y ∷ xs)
lead-free g y xs h j (free a b) = free (λ o. sym (absorb block_there none (λ d k. refl) g y xs h o) ∙ a o) (j ∙ b ∙ runs-eq (g + pages y + total xs) (g + (pages y + total xs)) (omega arith))
lead-free g y xs h j (item k x r a b c d e f l) = item k x r a b c (λ o. sym (absorb block_there none (λ d k. refl) g y xs h o) ∙ d o) (j ∙ e) (omega arith) (omega arith)

lead : (g : ℕ) (xs : PageMap) → Each Sized xs → Lead g xs
lead g [] h = free (run_none g) (runs-eq g (g + 0) (omega arith))
lead g (run n ∷ r) h = lead-free g (run n) r (λ d. refl) refl (lead (g + n) r h.1)
lead g (direct n x ∷ r) h = item g _ r (holds-direct n x h.0) h.0 h.1 (λ o. refl) refl refl (omega arith)
lead g (zone l ∷ r) h = bool (idle l)
    (λ t. lead-free g (zone l) r (λ d. idle-block_in d l t) (rw t) (lead _ r h.1))
    (λ t. item g (zone l) r (holds-zone l h.0 t) h.0 h.1 (λ o. refl) (rw t) refl (omega arith))

-- Where the same blocks are seen, the gaps are the same.
gap_same : (k k' : ℕ) (x : Segment Occupancy) (r m : PageMap) → Holds x → ((o : ℕ) → block_at (run k ∷ (x ∷ r)) o ≡ block_at (run k' ∷ m) o) → k' ≤ k
gap_same k k' x r m w h =
    let o = k * page_bytes + w.away in
    let at : block_at (run k ∷ (x ∷ r)) o ≡ some w.block = shift (run k) (x ∷ r) w.away ∙ rw (lt-ltb w.away (bytes x) w.inside) w.there in
    omega (arith, gap-le w.block k' m o (sym (h o) ∙ at), back-away w.block w.away x w.there)

chunk_of-inj : (c i g h : ℕ) → chunk_of c i g ≡ chunk_of c i h → g ≡ h
chunk_of-inj c i zero zero e = refl
chunk_of-inj c i zero (suc h) e = none-some e
chunk_of-inj c i (suc g) zero e = none-some (sym e)
chunk_of-inj c i (suc g) (suc h) e = cc

same-groups : (c : ℕ) (a b : List ℕ) → length a ≡ chunks c → length b ≡ chunks c → ((d : ℕ) → d < zone_bytes → block_in d (zone (record { class = c; groups = a })) ≡ block_in d (zone (record { class = c; groups = b }))) → a ≡ b
same-groups c a b la lb h = ext_get_or 0 a b (la ∙ sym lb) (λ i l. chunk_of-inj c i _ _ (sym (block_in-at c i a) ∙ h _ (chunk-begins c i (omega arith)) ∙ block_in-at c i b))

same_class : (l l' : Occupancy) → Holds (zone l) → ((d : ℕ) → d < zone_bytes → block_in d (zone l) ≡ block_in d (zone l')) → l'.class ≡ l.class
same_class l l' w h = go w.block w.there
  where
    go : (b : Block) → block_in w.away (zone l) ≡ some b → l'.class ≡ l.class
    go (whole n g) e = let z : zone l ≡ direct n g = (whole-there n g w.away (zone l) e).0 in clash (cc)
    go (chunk c i g) e = cc ((chunk-there c i g w.away (zone l') (sym (h w.away w.inside) ∙ e)).is-zone, (chunk-there c i g w.away (zone l) e).is-zone)

same-zone : (l l' : Occupancy) → length l.groups ≡ chunks l.class → length l'.groups ≡ chunks l'.class → Holds (zone l) → ((d : ℕ) → d < zone_bytes → block_in d (zone l) ≡ block_in d (zone l')) → ◌≡◌ {A = Segment Occupancy} (zone l) (zone l')
same-zone l l' a b w h =
    let e = same_class l l' w h in
    let p : l.groups ≡ l'.groups = same-groups l.class l.groups _ a (b ∙ ap chunks e) (λ d k. cc (h d k)) in
    λ i. zone (record { class = sym e i; groups = p i })

here : (x : Segment Occupancy) (r : PageMap) (d : ℕ) → d < bytes x → block_at (x ∷ r) d ≡ block_in d x
here x r d h = rw (lt-ltb d (bytes x) h)

not-whole : (l : Occupancy) (n g d : ℕ) → block_in d (zone l) ≡ some (whole n g) → ⊥
not-whole l n g d e = let z : zone l ≡ direct n g = (whole-there n g d (zone l) e).0 in clash (cc)

same_item : (x y : Segment Occupancy) (r t : PageMap) → Holds x → Holds y → Sized x → Sized y → ((o : ℕ) → block_at (x ∷ r) o ≡ block_at (y ∷ t) o) → x ≡ y
same_item (run n) y r t hx hy gx gy h = none-some hx.there
same_item (direct n g) (run k) r t hx hy gx gy h = none-some hy.there
same_item (direct n g) (direct k j) r t hx hy gx gy h = let e : some (whole n g) ≡ some (whole k j) = sym (here (direct n g) r 0 (omega arith)) ∙ h 0 ∙ here (direct k j) t 0 (omega arith) in let p : n ≡ k = cc in let q : g ≡ j = cc in cc
same_item (direct n g) (zone l) r t hx hy gx gy h = absurd (not-whole l n g 0 (cc (here (zone l) t 0 (omega arith), h 0, here (direct n g) r 0 (omega arith))))
same_item (zone l) (run k) r t hx hy gx gy h = none-some hy.there
same_item (zone l) (direct k j) r t hx hy gx gy h = absurd (not-whole l k j 0 (sym (here (zone l) r 0 (omega arith)) ∙ h 0 ∙ here (direct k j) t 0 (omega arith)))
same_item (zone l) (zone l') r t hx hy gx gy h = same-zone l l' gx gy hx (λ d k. sym (here (zone l) r d k) ∙ h d ∙ here (zone l') t d k)

tail-same : (k : ℕ) (x : Segment Occupancy) (r t : PageMap) → ((o : ℕ) → block_at (run k ∷ (x ∷ r)) o ≡ block_at (run k ∷ (x ∷ t)) o) → (o : ℕ) → block_at (run 0 ∷ r) o ≡ block_at (run 0 ∷ t) o
tail-same k x r t h o = bare r o ∙ sym (two r) ∙ h _ ∙ two t ∙ sym (bare t o)
  where
    bare : (m : PageMap) (o : ℕ) → block_at (run 0 ∷ m) o ≡ block_at m o
    bare m o = zero-run block_there none (λ d k. refl) m o

    two : (m : PageMap) → block_at (run k ∷ (x ∷ m)) (k * page_bytes + (bytes x + o)) ≡ block_at m o
    two m = shift (run k) (x ∷ m) _ ∙ shift x m o

head-same : (k : ℕ) (xs ys : PageMap) → ((o : ℕ) → block_at (run k ∷ xs) o ≡ block_at (run k ∷ ys) o) → (o : ℕ) → block_at xs o ≡ block_at ys o
head-same k xs ys h o = sym (shift (run k) xs o) ∙ h _ ∙ shift (run k) ys o

nothing : (k : ℕ) (x : Segment Occupancy) (r : PageMap) → Holds x → ((o : ℕ) → block_at (run k ∷ (x ∷ r)) o ≡ none) → ⊥
nothing k x r w n = none-some (sym (n _) ∙ shift (run k) (x ∷ r) w.away ∙ here x r w.away w.inside ∙ w.there)

-- two leads over the same blocks; `rec` compares what stands behind their first items
leads : (g h : ℕ) (xs ys : PageMap) → ((o : ℕ) → block_at (run g ∷ xs) o ≡ block_at (run h ∷ ys) o) → g + total xs ≡ h + total ys →
    ((r t : PageMap) → length r < length xs → Each Sized r → Each Sized t → ((o : ℕ) → block_at (run 0 ∷ r) o ≡ block_at (run 0 ∷ t) o) → total r ≡ total t → joined idle 0 r ≡ joined idle 0 t) →
    Lead g xs → Lead h ys → joined idle g xs ≡ joined idle h ys
leads g h xs ys e t rec (free a b) (free c d) = b ∙ runs-eq _ _ t ∙ sym d
leads g h xs ys e t rec (free a b) (item k x r hx gx gr see j tx l) = absurd (nothing k x r hx (λ o. cc (see o, e o, a o)))
leads g h xs ys e t rec (item k x r hx gx gr see j tx l) (free a b) = absurd (nothing k x r hx (λ o. sym (see o) ∙ e o ∙ a o))
leads g h xs ys e t rec (item k x r hx gx gr see j tx l) (item k' y q hy gy gq see' j' ty l') =
    let both : ((o : ℕ) → block_at (run k ∷ (x ∷ r)) o ≡ block_at (run k' ∷ (y ∷ q)) o) = λ o. sym (see o) ∙ e o ∙ see' o in
    let kk : k ≡ k' = omega (arith, gap_same k k' x r (y ∷ q) hx both, gap_same k' k y q (x ∷ r) hy (λ o. sym (both o))) in
    let same : ((o : ℕ) → block_at (run k ∷ (x ∷ r)) o ≡ block_at (run k ∷ (y ∷ q)) o) = λ o. cc (both o) in
    let xy : x ≡ y = same_item x y r q hx hy gx gy (head-same k (x ∷ r) (y ∷ q) same) in
    let rest : joined idle 0 r ≡ joined idle 0 q = rec r q l gr gq (tail-same k x r q (λ o. cc (same o))) (omega (arith, ap (λ z. pages z) xy)) in
    j ∙ (λ i. with_run (kk i) (xy i ∷ rest i)) ∙ sym j'

-- THE determination: the same pages and the same blocks make the same trimmed map.
determined : (fuel g h : ℕ) (xs ys : PageMap) → length xs < fuel → Each Sized xs → Each Sized ys → ((o : ℕ) → block_at (run g ∷ xs) o ≡ block_at (run h ∷ ys) o) → g + total xs ≡ h + total ys → joined idle g xs ≡ joined idle h ys
determined zero g h xs ys l a b e t = absurd (omega arith)
determined (suc fuel) g h xs ys l a b e t = leads g h xs ys e t (λ r q lr gr gq eq tq. determined fuel 0 0 r q (omega arith) gr gq eq (omega arith)) (lead g xs a) (lead h ys b)

pub same-trimmed : (xs ys : PageMap) → Each Sized xs → Each Sized ys → ((o : ℕ) → block_at xs o ≡ block_at ys o) → total xs ≡ total ys → joined idle 0 xs ≡ joined idle 0 ys
same-trimmed xs ys a b e t = determined (suc (length xs)) 0 0 xs ys (omega arith) a b (λ o. zero-run block_there none (λ d k. refl) xs o ∙ e o ∙ sym (zero-run block_there none (λ d k. refl) ys o)) (omega arith)

-- What an allocation does to the live blocks: it makes one block, of the group and with the room asked for, at the offset granted,
-- where none was, and leaves all others; or it is refused and leaves the state. Assumes nothing.
use Prim.Native.Nat.{ℕ, zero, suc, ◌*◌, ◌≤◌, ◌<◌}
use mathlib.Core.Path.{◌≡◌, refl, sym, ◌∙◌, ap}
use mathlib.Core.List.Memᴰ
use mathlib.Core.List.{List, [], ◌∷◌, map}
use mathlib.Core.Option.{Option, none, some}
use mathlib.Core.Bool.{true}
use native.Mathlib.Omega.{arith}
use native.Mathlib.Nat.{zero-mul}
use lib.Dec.{ltb, leb}
use lib.ListN.{get_or}
use borrow.Author.Tests.{ltb-true, ltb-false, leb-true, ne_eqb}
use Rattle.lemmas.proofs.Cases.{bool, and_left, and_right}
use Rattle.model.specs.Numbers.{most_group, class_count, page_bytes, zone_pages, most_bytes}
use Rattle.model.specs.declared.Refusal.{Refusal}
use Rattle.model.specs.declared.Refusal.TheVariants.{BadGroup, BadSize, OverCeiling, NoRoom}
use Rattle.model.specs.declared.Answer.TheVariants.{Granted, Denied}
use Rattle.model.specs.Sizes.{room, class_of, chunks, pages_for, room_for}
use Rattle.model.specs.Arena.{Segment, direct, zone, retold}
use Rattle.model.specs.Zone.{Zone, new_zone, next_chunk, granted}
use Rattle.model.specs.State.{State, list_of, Begins, ZoneAt}
use Rattle.model.specs.PageMap.{padded, occupancy, page_map, Block, whole, chunk, group_of, room_of, chunk_of, block_in, block_at}
use Rattle.model.specs.Valid.{ValidZone, ValidSegment, Valid}
use Rattle.model.specs.Pages.{claim}
use Rattle.model.specs.Calls.{Outcome, group_ok, size_ok}
use Rattle.model.specs.Ceilings.{within}
use Rattle.model.specs.Allocate.{Source, sought, direct_from, zone_from, from_spare, served, chunk_from, allocate}
use Rattle.model.proofs.Sizes.{chunk-begins, chunks-least, classed}
use Rattle.model.proofs.Arena.{locate-retold, edit-retold, each-locate}
use Rattle.model.proofs.Claim.{claim-retold}
use Rattle.model.proofs.Joins.{carve-retold}
use Rattle.model.proofs.Zones.{Grants, grants}
use Rattle.model.proofs.Blocks.{idle-block_in, Only, Still, put_only, carve-only, block_in-at, block_in-other, padded-in, padded-other, chunk-only, live-chunk, all_zero-padded}
use Rattle.model.proofs.Trimmed.{trimmed-still}
use Rattle.model.proofs.Sought.{sought-from}
use Rattle.model.proofs.Released.{put-fresh, carve-fresh, chunk-fresh}

-- A block of the group and room at the offset granted, or a refusal that leaves the state.
pub data Allocated (s : State) (g r : ℕ) (R : Outcome State) : Type 0 where
  gives : (o n : ℕ) (b : Block) → R.answer ≡ Granted o n → block_at (page_map s) o ≡ none → group_of b ≡ g → room_of b ≡ r → Only (page_map s) (page_map R.after) o (some b) → Allocated s g r R
  denies : (k : Refusal) (n : ℕ) → R.answer ≡ Denied k n → R.after ≡ s → Allocated s g r R

-- A group that may call.
pub group-least : (g : ℕ) → group_ok g ≡ true → 0 < g
group-least g t = leb-true 1 g (and_left (leb 1 g) _ t)

pub group-most : (g : ℕ) → group_ok g ≡ true → g ≤ most_group
group-most g t = leb-true g most_group (and_right (leb 1 g) _ t)

pub size-least : (n : ℕ) → size_ok n ≡ true → 0 < n
size-least n t = leb-true 1 n (and_left (leb 1 n) _ t)

pub size-most : (n : ℕ) → size_ok n ≡ true → n ≤ most_bytes
size-most n t = leb-true n most_bytes (and_right (leb 1 n) _ t)

-- A zone just set up holds one block, its chunk 0.
new-first : (c g : ℕ) → c < class_count → 0 < g → block_in 0 (zone (occupancy (new_zone c g))) ≡ some (chunk c 0 g)
new-first c g h p =
    ap (λ k. block_in k (zone (occupancy (new_zone c g)))) (sym (zero-mul (room c)))
    ∙ block_in-at c 0 (padded (chunks c) (g ∷ []))
    ∙ ap (chunk_of c 0) (padded-in (chunks c) (g ∷ []) 0 (omega (arith, chunks-least c h)))
    ∙ live-chunk c 0 g p

one-owner : (g j : ℕ) → (j ≡ 0 → ⊥) → get_or (g ∷ []) j 0 ≡ get_or [] j 0
one-owner g zero h = absurd (h refl)
one-owner g (suc j) h = refl

new-alone : (c g d : ℕ) → (d ≡ 0 → ⊥) → block_in d (zone (occupancy (new_zone c g))) ≡ none
new-alone c g d h = block_in-other c 0 (padded (chunks c) []) (padded (chunks c) (g ∷ [])) (padded-other (chunks c) [] (g ∷ []) 0 (one-owner g)) d (λ z. h (omega arith)) ∙ idle-block_in d (record { class = c; groups = padded (chunks c) [] }) (all_zero-padded (chunks c))

direct-alone : (n g d : ℕ) → (d ≡ 0 → ⊥) → block_in d (direct n g) ≡ none
direct-alone n g d h = rw (ne_eqb d 0 h)

-- What is listed or spared at a page stands there in the page map.
shown-at : (m : List (Segment Zone)) (p : ℕ) (z : Zone) → ZoneAt m p z → Begins (p * page_bytes) (map (retold occupancy) m) (zone (occupancy z))
shown-at m p z e = cc (locate-retold occupancy (p * page_bytes) m)

-- A zone of the class, shown by its owners.
shown-zone : (c : ℕ) (z : Zone) → z.class ≡ c → occupancy z ≡ record { class = c; groups = padded (chunks c) z.owners }
shown-zone c z e = cc

-- A block made from the state u, which has the live blocks and the pages of s.
made-from : (s u : State) (g r o n : ℕ) (b : Block) (R : Outcome State) → Still (page_map s) (page_map u) → R.answer ≡ Granted o n → block_at (page_map u) o ≡ none → group_of b ≡ g → room_of b ≡ r → Only (page_map u) (page_map R.after) o (some b) → Allocated s g r R
made-from s u g r o n b R k ans fresh grp rm only =
    gives o n b ans (sym (k.0 o) ∙ fresh) grp rm (only.0, λ q ne. only.1 q ne ∙ k.0 q, only.2 ∙ k.1)

module _ (s : State) where
  -- Pages are taken from the state as it is, or from the trimmed one.
  source-still : (n : ℕ) (f : Source) → (sought n s).chosen ≡ some f → Still (page_map s) (page_map f.state)
  source-still n f e = (sought-from n s f e).either (λ u. Still (page_map s) (page_map u)) (λ q. refl, refl) (trimmed-still s)

  source-claimed : (n : ℕ) (f : Source) → (sought n s).chosen ≡ some f → (claim n (page_map f.state)).chosen ≡ some f.free
  source-claimed n f e = ap (λ l. l.chosen) (claim-retold occupancy n _) ∙ (sought-from n s f e).claimed

  direct-law : (n g k : ℕ) → 0 < n → (h : Option Source) → (sought n s).chosen ≡ h → Allocated s g (n * page_bytes) (direct_from n g s k h)
  direct-law n g k p none e = denies NoRoom k refl refl
  direct-law n g k p (some f) e =
      let m = page_map f.state in
      let found = source-claimed n f e in
      made-from s f.state g _ _ k (whole n g) _ (source-still n f e) refl (carve-fresh m f.free n p found) refl refl
      (rw (carve-retold occupancy f.free n _ _) (carve-only m f.free n _ p found refl (direct-alone n g)))

  module _ (c g : ℕ) (class : c < class_count) (least : 0 < g) where
    zone-law : (k : ℕ) (h : Option Source) → (sought zone_pages s).chosen ≡ h → Allocated s g (room c) (zone_from c g s k h)
    zone-law k none e = denies NoRoom k refl refl
    zone-law k (some f) e =
        let m = page_map f.state in
        let found = source-claimed zone_pages f e in
        made-from s f.state g _ _ k (chunk c 0 g) _ (source-still zone_pages f e) refl (carve-fresh m f.free zone_pages (omega arith) found) refl refl
        (rw (carve-retold occupancy f.free zone_pages _ _, ← new-first c g class least) (carve-only m f.free zone_pages _ (omega arith) found refl (new-alone c g)))

    spare-law : Valid s → (l : List ℕ) → s.spare ≡ l → Allocated s g (room c) (from_spare c g s l)
    spare-law v [] e = zone-law _ (sought zone_pages s).chosen refl
    spare-law v (q ∷ qs) e =
        let f = v.spared q (rw e (Memᴰ.head refl)) in
        let there = shown-at s.segments q f.0 f.1 in
        gives (q * page_bytes) 0 (chunk c 0 g) refl (put-fresh (q * page_bytes) (page_map s) _ there (λ d. idle-block_in d (occupancy f.0) f.2)) refl refl
        (rw (edit-retold occupancy (q * page_bytes) (λ _. zone (new_zone c g) ∷ []) (λ _. zone (occupancy (new_zone c g)) ∷ []) (λ _. refl) _, ← new-first c g class least)
        (put_only (q * page_bytes) (page_map s) _ _ 0 there refl (omega arith) (λ d. idle-block_in d (occupancy f.0) f.2) (new-alone c g)))

    served-law : (p : ℕ) (ps : List ℕ) (z : Zone) → ZoneAt s.segments p z → z.class ≡ c → Grants g (next_chunk z) z (granted g z) → Allocated s g (room c) (served c g p ps s z)
    served-law p ps z e k G =
        let i = next_chunk z in
        let z' = granted g z in
        let inside : i < chunks c = omega (arith, ap chunks k) in
        let there : Begins (p * page_bytes) (page_map s) (zone (record { class = c; groups = padded (chunks c) z.owners })) = shown-at s.segments p z e ∙ ap (λ y. some (record { away = 0; segment = zone y })) (shown-zone c z k) in
        let new : chunk_of c i (get_or (padded (chunks c) z'.owners) i 0) ≡ some (chunk c i g) = ap (chunk_of c i) (padded-in (chunks c) _ i inside ∙ G.is-owned) ∙ live-chunk c i g least in
        gives _ 0 (chunk c i g) refl (chunk-fresh (p * page_bytes) (page_map s) c i _ there (chunk-begins c i inside) (padded-in (chunks c) z.owners i inside ∙ G.was_free)) refl refl
        (rw (edit-retold occupancy (p * page_bytes) (λ _. zone z' ∷ []) (λ _. zone (occupancy z') ∷ []) (λ _. refl) _, ← new)
        (chunk-only (p * page_bytes) (λ _. zone (occupancy z') ∷ []) (page_map s) 0 c i _ _ there (ap (λ y. zone y ∷ []) (shown-zone c z' (G.same_class ∙ k))) (chunk-begins c i inside) (padded-other (chunks c) z.owners _ i G.others) (p * page_bytes) (omega arith)))

    chunk-law : Valid s → g ≤ most_group → (l : List ℕ) → list_of s c ≡ l → Allocated s g (room c) (chunk_from c g s l)
    chunk-law v most [] e = spare-law v s.spare refl
    chunk-law v most (p ∷ ps) e =
        let f = v.listed c p (rw e (Memᴰ.head refl)) in
        let ok : ValidZone f.0 = each-locate ValidSegment s.segments (p * page_bytes) v.sound f.1 in
        rw f.1 (served-law p ps f.0 f.1 f.2 (grants g least most f.0 ok f.3))

  pub allocated : Valid s → (c g n : ℕ) → Allocated s g (room_for n) (allocate c g n s)
  allocated v c g n = bool (group_ok g)
      (λ t. rw t (bool (size_ok n)
      (λ u. rw u (bool (within c g n (page_map s))
      (λ r. rw r (bool (ltb n 8192)
      (λ w. rw w (chunk-law (class_of n) g (classed n (size-least n u) (ltb-true n 8192 w)).below (group-least g t) v (group-most g t) (list_of s (class_of n)) refl))
      (λ w. rw w (direct-law _ g _ (omega (arith, ltb-false)) (sought (pages_for n) s).chosen refl))))
      (λ r. rw r (denies OverCeiling 0 refl refl))))
      (λ u. rw u (denies BadSize 0 refl refl))))
      (λ t. rw t (denies BadGroup 0 refl refl))

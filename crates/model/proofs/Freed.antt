-- What freeing does to the live blocks: the block that comes back is gone, all others stay. Where a block begins, the segments
-- say of it what the page map says. Assumes nothing.
use Prim.Native.Nat.{ℕ, ◌+◌, ◌-◌, ◌*◌, ◌/◌, ◌<◌}
use mathlib.Core.Path.{◌≡◌, refl, sym, ◌∙◌, ap, subst}
use mathlib.Core.List.{List, [], ◌∷◌}
use mathlib.Core.Option.{Option, none, some}
use mathlib.Core.Bool.{cond, ◌&&◌}
use native.Mathlib.Omega.{arith}
use lib.Dec.{ltb}
use lib.ListN.{length, get_or, set, get_or-eq_default}
use lib.Seq.{get_or-set_other}
use borrow.Author.Tests.{ltb-true, ltb-false}
use Rattle.lemmas.proofs.Cases.{bool, either, and_left, clash}
use Rattle.model.specs.Numbers.{most_spare, page_bytes}
use Rattle.model.specs.Sizes.{room, chunks}
use Rattle.model.specs.Arena.{Segment, run, direct, zone, retold, locate, edit}
use Rattle.model.specs.Zone.{Zone, full, put_back}
use Rattle.model.specs.State.{State, list_of, arranged, Begins, ZoneAt, zone_in, put_zone}
use Rattle.model.specs.PageMap.{Occupancy, padded, occupancy, page_map, idle_zone, Block, whole, chunk, chunk_of, block_at}
use Rattle.model.specs.Free.{settled, chunk_back, freed, freed_if}
use Rattle.model.proofs.Sizes.{chunk-begins}
use Rattle.model.proofs.Arena.{locate-retold, retold_place, edit-retold, begins-new, start_of, under}
use Rattle.model.proofs.Joins.{release-retold}
use Rattle.model.proofs.Zones.{set-zero}
use Rattle.model.proofs.Blocks.{padded-in, padded-length, padded-other, Only, Still, chunk-only}
use Rattle.model.proofs.Released.{begins, whole-there, chunk-there, still-only, release-only, release-still}

-- What stands in the segments ---------------------------------------------------------------------------------

zone-under : (x : Segment Zone) (l : Occupancy) → retold occupancy x ≡ zone l → (z : Zone) × (x ≡ zone z) × (occupancy z ≡ l)
zone-under (run n) l e = clash (cc)
zone-under (direct n g) l e = clash (cc)
zone-under (zone z) l e = (z, refl, cc)

direct-under : (x : Segment Zone) (n g : ℕ) → retold occupancy x ≡ direct n g → x ≡ direct n g
direct-under (run k) n g e = clash (cc)
direct-under (direct k h) n g e = let p : k ≡ n = cc in let q : h ≡ g = cc in cc
direct-under (zone z) n g e = clash (cc)

-- A direct block begins at o.
pub direct-at : (s : State) (o n g : ℕ) → block_at (page_map s) o ≡ some (whole n g) → Begins o s.segments (direct n g)
direct-at s o n g e =
    let B = begins _ (whole n g) e in
    let W = whole-there n g _ _ B.2 in
    let U = under occupancy s.segments o B.1 in
    U.there ∙ (λ i. some (record { away = W.1 i; segment = direct-under U.segment n g (U.shows ∙ W.0) i }))

-- Chunk i of class c, live with group g, begins at o: it is in the zone at a page.
pub record ChunkAt (s : State) (o c i g : ℕ) : Type 0 where
  pub page : ℕ
  pub here : Zone
  pub there : ZoneAt s.segments page here
  pub at : page * page_bytes + i * room c ≡ o
  pub page-is : (o - i * room c) / page_bytes ≡ page
  pub class : here.class ≡ c
  pub inside : i < chunks c
  pub owner : get_or here.owners i 0 ≡ g
  pub live : 0 < g

padded-live : (n : ℕ) (l : List ℕ) (i : ℕ) → 0 < get_or (padded n l) i 0 → i < n
padded-live n l i p = bool (ltb i n) (λ t. ltb-true i n t) (λ t. absurd (omega (arith, get_or-eq_default (padded n l) 0 {n = i} (omega (arith, ltb-false, padded-length n l)))))

pub chunk-at : (s : State) (o c i g : ℕ) → block_at (page_map s) o ≡ some (chunk c i g) → ChunkAt s o c i g
chunk-at s o c i g e =
    let B = begins _ _ e in
    let C = chunk-there c i g _ _ B.2 in
    let U = under occupancy s.segments o B.1 in
    let Y = zone-under _ _ (U.shows ∙ C.is-zone) in
    let z = Y.0 in
    let loc : locate o s.segments ≡ some (record { away = B.0.away; segment = zone z }) = U.there ∙ ap (λ x. some (record { away = B.0.away; segment = x })) Y.1 in
    let S = start_of s.segments o loc in
    let class : z.class ≡ c = ap (λ l. l.class) Y.2 in
    let groups : padded (chunks z.class) z.owners ≡ C.groups = ap (λ l. l.groups) Y.2 in
    let shows : get_or (padded (chunks z.class) z.owners) i 0 ≡ g = cc in
    let inside : i < chunks z.class = padded-live _ z.owners i (omega arith) in
    record {
      page = S.0;
      here = z;
      there = S.3;
      at = omega arith;
      page-is = let q : o ≡ S.0 * page_bytes + i * room c = omega arith in omega arith;
      class = class;
      inside = omega (arith, ap chunks class);
      owner = sym (padded-in _ z.owners i inside) ∙ shows;
      live = C.live;
    }

-- A chunk comes back -------------------------------------------------------------------------------------------

-- What becomes of the zone and the lists does not touch the blocks.
settled-still : (c p : ℕ) (l : List ℕ) (z : Zone) (s : State) → ZoneAt s.segments p z → Still (page_map s) (page_map (settled c p l z s))
settled-still c p l z s there = either P (idle_zone z && ltb 1 (length l)) _ _
    (λ t. either P (ltb (length s.spare) most_spare) _ _ (λ _. same)
    (λ _. rw (release-retold occupancy (p * page_bytes) _) (release-still (p * page_bytes) (page_map s) 0 (occupancy z) (cc (locate-retold occupancy (p * page_bytes) _)) (and_left _ _ t))))
    (λ _. same)
  where
    P : State → Type 0
    P t = Still (page_map s) (page_map t)

    same : Still (page_map s) (page_map s)
    same = (λ q. refl, refl)

-- The zone with the chunk put back stands at its page.
pub put-back-at : (s : State) (p : ℕ) (z z' : Zone) → ZoneAt s.segments p z → ZoneAt (put_zone p z' s.segments) p z'
put-back-at s p z z' there = begins-new (p * page_bytes) (λ _. zone z' ∷ []) s.segments there (p * page_bytes) (zone z') [] (omega arith) refl (omega arith)

back-only : (s : State) (o c i g : ℕ) (C : ChunkAt s o c i g) → Only (page_map s) (page_map (chunk_back c i C.page C.here s)) o none
back-only s o c i g C =
    let p = C.page in
    let z = C.here in
    let z' = put_back i z in
    let t : State = arranged s (put_zone p z' s.segments) s.lists s.spare in
    let as-c : (y : Zone) → y.class ≡ c → occupancy y ≡ record { class = c; groups = padded (chunks c) y.owners } = λ y e. ap (λ k. record { class = k; groups = padded (chunks k) y.owners }) e in
    let there : Begins (p * page_bytes) (page_map s) (zone (record { class = c; groups = padded (chunks c) z.owners })) = locate-retold occupancy (p * page_bytes) s.segments ∙ ap (retold_place occupancy) C.there ∙ ap (λ y. some (record { away = 0; segment = zone y })) (as-c z C.class) in
    let gone : chunk_of c i (get_or (padded (chunks c) (set z.owners i 0)) i 0) ≡ none = ap (chunk_of c i) (padded-in (chunks c) _ i C.inside ∙ set-zero z.owners i) in
    let R = chunk-only (p * page_bytes) (λ _. zone (occupancy z') ∷ []) (page_map s) 0 c i _ _ there (ap (λ y. zone y ∷ []) (as-c z' C.class)) (chunk-begins c i C.inside) (padded-other (chunks c) z.owners _ i (λ j ne. get_or-set_other z.owners i j 0 0 ne)) (p * page_bytes) (omega arith) in
    let one : Only (page_map s) (edit (p * page_bytes) (λ _. zone (occupancy z') ∷ []) (page_map s)) o none = subst (λ k. Only (page_map s) (edit (p * page_bytes) (λ _. zone (occupancy z') ∷ []) (page_map s)) k none) C.at (rw gone at R) in
    still-only (page_map s) (page_map t) (page_map (chunk_back c i p z s)) o none
    (rw (edit-retold occupancy (p * page_bytes) (λ _. zone z' ∷ []) (λ _. zone (occupancy z') ∷ []) (λ _. refl) _) one)
    (settled-still c p (cond (full z) (p ∷ list_of s c) (list_of s c)) z' t (put-back-at s p z z' C.there))

-- The state after a chunk came back, by its zone.
pub freed-chunk : (s : State) (o c i g : ℕ) (C : ChunkAt s o c i g) → freed o (chunk c i g) s ≡ chunk_back c i C.page C.here s
freed-chunk s o c i g C = rw C.page-is (ap (λ x. chunk_back c i C.page (zone_in x) s) C.there)

-- Any block comes back -----------------------------------------------------------------------------------------

pub freed-only : (s : State) (o : ℕ) (b : Block) → block_at (page_map s) o ≡ some b → Only (page_map s) (page_map (freed o b s)) o none
freed-only s o (whole n g) e = rw (release-retold occupancy o _) (release-only o (page_map s) n g (cc (locate-retold occupancy o _, direct-at s o n g e)))
freed-only s o (chunk c i g) e = let C = chunk-at s o c i g e in rw (freed-chunk s o c i g C) (back-only s o c i g C)

pub freed_if-only : (s : State) (o : ℕ) (b : Option Block) → block_at (page_map s) o ≡ b → Only (page_map s) (page_map (freed_if o b s)) o none
freed_if-only s o none e = (e, (λ q ne. refl), refl)
freed_if-only s o (some b) e = freed-only s o b e

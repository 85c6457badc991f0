-- Allocation keeps validity. Assumes nothing.
use Prim.Native.Nat.{ℕ, ◌+◌, ◌-◌, ◌*◌, ◌≤◌, ◌<◌}
use mathlib.Core.Path.{◌≡◌, refl, sym, ◌∙◌, ap, subst}
use mathlib.Core.Logic.{◌⊎◌, inl, inr}
use mathlib.Core.List.{List, [], ◌∷◌, ◌++◌, Memᴰ}
use mathlib.Core.Option.{Option, none, some}
use mathlib.Core.Bool.{Bool, false, cond}
use native.Mathlib.Omega.{arith}
use lib.Dec.{ltb}
use lib.ListN.{length}
use borrow.Author.Tests.{ltb-true, ltb-false}
use Rattle.lemmas.specs.Times.{Distinct}
use Rattle.lemmas.proofs.Cases.{bool, either, clash}
use Rattle.model.specs.Numbers.{most_group, class_count, page_bytes, zone_pages}
use Rattle.model.specs.Sizes.{class_of, pages_for}
use Rattle.model.specs.Arena.{Segment, run, direct, zone, pages, total, locate, Each}
use Rattle.model.specs.Zone.{Zone, full, new_zone, next_chunk, granted}
use Rattle.model.specs.State.{State, list_of, Begins, ZoneAt}
use Rattle.model.specs.PageMap.{page_map}
use Rattle.model.specs.Valid.{Apart, ValidZone, ValidSegment, Valid}
use Rattle.model.specs.Pages.{FreeRun, claim, with_run, carve}
use Rattle.model.specs.Calls.{group_ok, size_ok}
use Rattle.model.specs.Ceilings.{within}
use Rattle.model.specs.Allocate.{Source, found_in, sought, direct_from, zone_from, from_spare, served, chunk_from, allocate}
use Rattle.model.proofs.Sizes.{classed}
use Rattle.model.proofs.Arena.{total-edit, begins-kept, begins-new, begins-back, each-edit, each-locate}
use Rattle.model.proofs.Claim.{claim-found}
use Rattle.model.proofs.Joins.{cut-zone, run-append, apart-run, edit-apart, each-run, total-with_run}
use Rattle.model.proofs.Zones.{new-valid, new-open, Grants, grants}
use Rattle.model.proofs.Trimmed.{trimmed-empty}
use Rattle.model.proofs.Sought.{sought-from}
use Rattle.model.proofs.ValidTrim.{trimmed-valid}
use Rattle.model.proofs.Allocated.{group-least, group-most, size-least}
use Rattle.model.proofs.Moves.{one-zone, not-run, same-zones, rearranged, put-size, put-kept, put-new, put-sound, put-back, put-apart, put_is}

-- A member of a list other than its first stands behind it.
behind : (q p : ℕ) (ps : List ℕ) → (q ≡ p → ⊥) → Memᴰ q (p ∷ ps) → Memᴰ q ps
behind q p ps ne i = go (mathlib.Core.List.Memᴰ.cases_cons i)
  where
    go : (q ≡ p) ⊎ Memᴰ q ps → Memᴰ q ps
    go (inl e) = absurd (ne e)
    go (inr e) = e

-- Pages carved from the free run h for the segment x -----------------------------------------------------------------

module _ (m : List (Segment Zone)) (n : ℕ) (x : Segment Zone) (h : FreeRun) (pos : 0 < n) (pages-is : pages x ≡ n) (e : (claim n m).chosen ≡ some h) where
  abbrev carved : List (Segment Zone)
  carved = carve h n x m

  there : Begins (h.page * page_bytes) m (run h.size)
  there = (claim-found n m h pos e).0

  fills : pages x + total (with_run {Z = Zone} (h.size - n) []) ≡ h.size
  fills = omega (arith, total-with_run {Z = Zone} (h.size - n) [], (claim-found n m h pos e).1)

  carved-size : total carved ≡ total m
  carved-size = total-edit _ (λ _. x ∷ with_run (h.size - n) []) m there fills

  carved-sound : ValidSegment x → Each ValidSegment m → Each ValidSegment carved
  carved-sound k ok = each-edit ValidSegment _ (λ _. x ∷ with_run (h.size - n) []) (λ _ _. (k, each-run ValidSegment (λ _. tt) (h.size - n) [] tt)) m ok

  carved-kept : (q : ℕ) (y : Zone) → ZoneAt m q y → ZoneAt carved q y
  carved-kept q y b = begins-kept _ (λ _. x ∷ with_run (h.size - n) []) m there fills (q * page_bytes) (zone y) b
      (λ z. not-run m (q * page_bytes) h.size y (rw (let w : h.page * page_bytes ≡ q * page_bytes = omega arith in w) at there) b)

  carved-new : Begins (h.page * page_bytes) carved x
  carved-new = begins-new _ (λ _. x ∷ with_run (h.size - n) []) m there _ x _ (omega arith) refl (omega arith)

  -- A zone that begins after the carving began before it, or is what was put in.
  carved-back : (q : ℕ) (y : Zone) → ZoneAt carved q y → ZoneAt m q y ⊎ ((q ≡ h.page) × (x ≡ zone y))
  carved-back q y b = go (begins-back _ (λ _. x ∷ with_run (h.size - n) []) m there fills (q * page_bytes) (zone y) b)
    where
      go : ZoneAt m q y ⊎ ((d : ℕ) × (q * page_bytes + 0 ≡ h.page * page_bytes + d) × (locate d (x ∷ with_run (h.size - n) []) ≡ some (record { away = 0; segment = zone y }))) → ZoneAt m q y ⊎ ((q ≡ h.page) × (x ≡ zone y))
      go (inl a) = inl a
      go (inr a) = let c = cut-zone x (h.size - n) a.0 y a.2 in inr (omega arith, c.1)

  carved-apart : ((c : Bool) (r : List (Segment Zone)) → Apart false r → Apart c (x ∷ r)) → Apart false m → Apart false carved
  carved-apart k ok = edit-apart false _ (λ _. x ∷ with_run (h.size - n) []) m there
      (λ c r a. k c (with_run (h.size - n) [] ++ r) (rw (run-append _ r) (apart-run (h.size - n) r a.2))) ok

module _ (s : State) (h : Valid s) (g : ℕ) (least : 0 < g) (most : g ≤ most_group) where
  -- Whole pages from a run of the state.
  direct-in : (n k : ℕ) → 0 < n → (o : FreeRun) → (claim n s.segments).chosen ≡ some o → Valid (direct_from n g s k (some (found_in s o))).after
  direct-in n k pos o e = same-zones s _ h (record {
    size = carved-size _ n _ o pos refl e;
    apart = carved-apart _ n _ o pos refl e (λ c r k. k) h.apart;
    sound = carved-sound _ n _ o pos refl e (pos, least, most) h.sound;
    kept = carved-kept _ n _ o pos refl e;
    back = λ q y b. go q y (carved-back _ n _ o pos refl e q y b);
  })
    where
      go : (q : ℕ) (y : Zone) → ZoneAt s.segments q y ⊎ ((q ≡ o.page) × (◌≡◌ {A = Segment Zone} (direct n g) (zone y))) → ZoneAt s.segments q y
      go q y (inl a) = a
      go q y (inr a) = let u = a.1 in clash (cc)

  module _ (c : ℕ) (class : c < class_count) where
    -- A new zone at page p, where no zone was or an idle one, is the only one on its class's list.
    zone-in : list_of s c ≡ [] → (k : ℕ) (o : FreeRun) → (claim zone_pages s.segments).chosen ≡ some o → Valid (zone_from c g s k (some (found_in s o))).after
    zone-in el k o e =
        let p = o.page in
        let new = zone (new_zone c g) in
        let m = carve o zone_pages new s.segments in
        let run-there = (claim-found zone_pages _ o (omega arith) e).0 in
        let begun : ZoneAt m p (new_zone c g) = carved-new _ zone_pages new o (omega arith) refl e in
        let no-zone : (z : Zone) → ZoneAt s.segments p z → ⊥ = λ z. not-run s.segments (p * page_bytes) o.size z run-there in
        rearranged s m c p (p ∷ []) s.spare h (record {
          size = carved-size _ zone_pages new o (omega arith) refl e;
          apart = carved-apart _ zone_pages new o (omega arith) refl e (λ k r a. a) h.apart;
          sound = carved-sound _ zone_pages new o (omega arith) refl e (new-valid c g class least most) h.sound;
          kept = λ q y b ne. carved-kept _ zone_pages new o (omega arith) refl e q y b;
          back = λ q y b ne. go q y ne (carved-back _ zone_pages new o (omega arith) refl e q y b);
          alone = λ k ne i. let w = h.listed k p i in no-zone w.0 w.1;
          here-listed = λ _. (new_zone c g, begun, refl, new-open c g class);
          here-spared = λ i. absurd (let w = h.spared p i in no-zone w.0 w.1);
          here-complete = λ y b _. inl (cc (one-zone m (p * page_bytes) y _ b begun), mathlib.Core.List.Memᴰ.head refl);
          here-once = λ _ i. let w = h.spared p i in no-zone w.0 w.1;
          list-old = λ q ne i. absurd (ne (mathlib.Core.List.Memᴰ.eq_of_singleton i));
          list-kept = λ q ne i. absurd (mathlib.Core.List.Memᴰ.not-nil (rw el at i));
          spare-old = λ q ne i. i;
          spare-kept = λ q ne i. i;
          once = (λ i. mathlib.Core.List.Memᴰ.not-nil i, tt);
          once-spare = h.once-spare;
          few = h.few;
        })
      where
        go : (q : ℕ) (y : Zone) → (q ≡ o.page → ⊥) → ZoneAt s.segments q y ⊎ ((q ≡ o.page) × (◌≡◌ {A = Segment Zone} (zone (new_zone c g)) (zone y))) → ZoneAt s.segments q y
        go q y ne (inl a) = a
        go q y ne (inr a) = absurd (ne a.0)

-- Pages are found in the state as it is or in the trimmed one, and both are valid.
module _ (s : State) (h : Valid s) (g : ℕ) (least : 0 < g) (most : g ≤ most_group) where
  direct-valid : (n k : ℕ) → 0 < n → (o : Option Source) → (sought n s).chosen ≡ o → Valid (direct_from n g s k o).after
  direct-valid n k pos none e = h
  direct-valid n k pos (some f) e =
      let d = sought-from n s f e in
      direct-in f.state (d.either (λ u. Valid u) h (trimmed-valid s h)) g least most n k pos f.free d.claimed

  module _ (c : ℕ) (class : c < class_count) where
    zone-valid : list_of s c ≡ [] → (k : ℕ) (o : Option Source) → (sought zone_pages s).chosen ≡ o → Valid (zone_from c g s k o).after
    zone-valid el k none e = h
    zone-valid el k (some f) e =
        let d = sought-from zone_pages s f e in
        let u = d.either (λ u. Valid u × (list_of u c ≡ [])) (h, el) (trimmed-valid s h, trimmed-empty s c el) in
        zone-in f.state u.0 g least most c class u.1 k f.free d.claimed

    spare-valid : list_of s c ≡ [] → (l : List ℕ) → s.spare ≡ l → Valid (from_spare c g s l).after
    spare-valid el [] e = zone-valid el _ (sought zone_pages s).chosen refl
    spare-valid el (p ∷ ps) e =
        let inn : Memᴰ p s.spare = rw e (mathlib.Core.List.Memᴰ.head refl) in
        let w = h.spared p inn in
        let nd : Distinct (p ∷ ps) = rw e at h.once-spare in
        let m = s.segments in
        let z = w.0 in
        let z' = new_zone c g in
        rearranged s _ c p (p ∷ []) ps h (record {
          size = put-size m p z z' w.1;
          apart = put-apart m p z z' w.1 h.apart;
          sound = put-sound m p z z' w.1 (new-valid c g class least most) h.sound;
          kept = put-kept m p z z' w.1;
          back = put-back m p z z' w.1;
          alone = λ k ne i. h.not-both k p i inn;
          here-listed = λ _. (z', put-new m p z z' w.1, refl, new-open c g class);
          here-spared = λ i. absurd (nd.0 i);
          here-complete = λ y b _. inl (cc (put_is m p z z' w.1 y b), mathlib.Core.List.Memᴰ.head refl);
          here-once = λ _ i. nd.0 i;
          list-old = λ q ne i. absurd (ne (mathlib.Core.List.Memᴰ.eq_of_singleton i));
          list-kept = λ q ne i. absurd (mathlib.Core.List.Memᴰ.not-nil (rw el at i));
          spare-old = λ q ne i. rw e (mathlib.Core.List.Memᴰ.tail i);
          spare-kept = λ q ne i. behind q p ps ne (rw e at i);
          once = (λ i. mathlib.Core.List.Memᴰ.not-nil i, tt);
          once-spare = nd.1;
          few = omega (arith, ap length e);
        })

    -- The first zone of its class's list serves.
    served-valid : (p : ℕ) (ps : List ℕ) (z : Zone) → list_of s c ≡ p ∷ ps → ZoneAt s.segments p z → z.class ≡ c → Grants g (next_chunk z) z (granted g z) → Valid (served c g p ps s z).after
    served-valid p ps z e b k G =
        let z' = granted g z in
        let inn : Memᴰ p (list_of s c) = rw e (mathlib.Core.List.Memᴰ.head refl) in
        let nd : Distinct (p ∷ ps) = rw e at (h.once c) in
        let m = s.segments in
        rearranged s _ c p _ s.spare h (record {
          size = put-size m p z z' b;
          apart = put-apart m p z z' b h.apart;
          sound = put-sound m p z z' b G.stays-valid h.sound;
          kept = put-kept m p z z' b;
          back = put-back m p z z' b;
          alone = λ n ne j. let w = h.listed n p j in ne (cc (one-zone m (p * page_bytes) w.0 z w.1 b));
          here-listed = bool (full z') (λ t. rw t (λ j. absurd (nd.0 j))) (λ t _. (z', put-new m p z z' b, G.same_class ∙ k, t));
          here-spared = λ j. absurd (h.not-both c p inn j);
          here-complete = λ y a f. let y-is = put_is m p z z' b y a in
              inl (cc, subst (λ t. Memᴰ p (cond t ps (p ∷ ps))) (sym f ∙ ap full y-is) (mathlib.Core.List.Memᴰ.head refl));
          here-once = λ _ j. h.not-both c p inn j;
          list-old = λ q ne j. rw e (bool (full z') (λ t. mathlib.Core.List.Memᴰ.tail (rw t at j)) (λ t. rw t at j));
          list-kept = λ q ne j. bool (full z') (λ t. rw t (behind q p ps ne (rw e at j))) (λ t. rw t (rw e at j));
          spare-old = λ q ne j. j;
          spare-kept = λ q ne j. j;
          once = either (λ l. Distinct l) (full z') ps (p ∷ ps) (λ _. nd.1) (λ _. nd);
          once-spare = h.once-spare;
          few = h.few;
        })

    pub chunk-valid : (l : List ℕ) → list_of s c ≡ l → Valid (chunk_from c g s l).after
    chunk-valid [] e = spare-valid e s.spare refl
    chunk-valid (p ∷ ps) e =
        let w = h.listed c p (rw e (mathlib.Core.List.Memᴰ.head refl)) in
        let ok : ValidZone w.0 = each-locate ValidSegment s.segments (p * page_bytes) h.sound w.1 in
        rw w.1 (served-valid p ps w.0 e w.1 w.2 (grants g least most w.0 ok w.3))

pub allocate-valid : (s : State) → Valid s → (c g n : ℕ) → Valid (allocate c g n s).after
allocate-valid s h c g n = bool (group_ok g)
    (λ t. rw t (bool (size_ok n)
    (λ u. rw u (bool (within c g n (page_map s))
    (λ r. rw r (bool (ltb n 8192)
    (λ v. rw v (chunk-valid s h g (group-least g t) (group-most g t) (class_of n) (classed n (size-least n u) (ltb-true n 8192 v)).below (list_of s (class_of n)) refl))
    (λ v. rw v (direct-valid s h g (group-least g t) (group-most g t) _ _ (omega (arith, ltb-false)) (sought (pages_for n) s).chosen refl))))
    (λ r. rw r h)))
    (λ u. rw u h)))
    (λ t. rw t h)

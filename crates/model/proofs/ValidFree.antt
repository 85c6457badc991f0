-- Freeing and reset keep validity. Assumes nothing.
use Prim.Native.Nat.{ℕ, ◌+◌, ◌*◌, ◌<◌}
use mathlib.Core.Path.{◌≡◌, refl, sym, ◌∙◌, ap, subst}
use mathlib.Core.Logic.{◌⊎◌, inl, inr}
use mathlib.Core.List.Memᴰ
use mathlib.Core.List.{List, [], ◌∷◌, Memᴰ}
use mathlib.Core.Option.{Option, none, some}
use mathlib.Core.Bool.{true, false, cond, ◌&&◌}
use native.Mathlib.Omega.{arith}
use lib.Dec.{ltb, eqb}
use lib.ListN.{length, set}
use borrow.Author.Tests.{ltb-true}
use Rattle.lemmas.specs.Times.{Distinct, remove}
use Rattle.lemmas.proofs.Cases.{bool, either, true-false, and_left, clash}
use Rattle.lemmas.proofs.Distinct.{remove-in, remove-keeps, remove-gone, remove-distinct}
use Rattle.model.specs.Numbers.{most_spare, page_bytes}
use Rattle.model.specs.Sizes.{chunks}
use Rattle.model.specs.Arena.{Segment, run, direct, zone, pages, total, locate, edit, Each}
use Rattle.model.specs.Zone.{Zone, full, put_back}
use Rattle.model.specs.State.{State, list_of, arranged, Begins, ZoneAt, put_zone}
use Rattle.model.specs.PageMap.{padded, page_map, idle_zone, Block, whole, chunk, group_of, block_at}
use Rattle.model.specs.Valid.{Apart, ValidZone, ValidSegment, Valid}
use Rattle.model.specs.Pages.{free_pages, release}
use Rattle.model.specs.Calls.{group_ok}
use Rattle.model.specs.Free.{chunk_back, freed, free_block, free, freed_if, freed_all, offsets_of, reset}
use Rattle.model.proofs.Arena.{total-edit, begins-kept, begins-new, begins-back, each-edit, each-locate, same-segment}
use Rattle.model.proofs.Joins.{cut-zone, joined-begins, joined_back, joined-apart, each-joined, total-joined}
use Rattle.model.proofs.Zones.{put_back-valid, put_back-open}
use Rattle.model.proofs.Blocks.{all_zero-get_or, padded-in}
use Rattle.model.proofs.Freed.{direct-at, ChunkAt, chunk-at, freed-chunk}
use Rattle.model.proofs.Moves.{one-zone, not-run, same-zones, Move, rearranged, put-size, put-kept, put-new, put-sound, put-back, put-apart, put_is}

-- Pages come back: the segment x that begins at o is released --------------------------------------------------------

module _ (m : List (Segment Zone)) (o : ℕ) (x : Segment Zone) (b : Begins o m x) where
  abbrev opened : List (Segment Zone)
  opened = edit o free_pages m

  released-size : total (release o m) ≡ total m
  released-size = total-joined (λ _. false) 0 opened ∙ omega (arith, total-edit o free_pages m b (omega arith))

  released-sound : Each ValidSegment m → Each ValidSegment (release o m)
  released-sound h = each-joined ValidSegment (λ _. tt) (λ _. false) 0 opened (each-edit ValidSegment o free_pages (λ _ _. (tt, tt)) m h)

  released-apart : Apart false (release o m)
  released-apart = joined-apart (λ _. false) 0 opened

  released-kept : (q : ℕ) (y : Zone) → ZoneAt m q y → (q * page_bytes ≡ o → ⊥) → ZoneAt (release o m) q y
  released-kept q y a ne = joined-begins (λ _. false) opened (q * page_bytes) y refl (begins-kept o free_pages m b (omega arith) (q * page_bytes) (zone y) a (λ e. ne (omega arith)))

  released-back : (q : ℕ) (y : Zone) → ZoneAt (release o m) q y → ZoneAt m q y
  released-back q y a = go (begins-back o free_pages m b (omega arith) (q * page_bytes) (zone y) (joined_back (λ _. false) opened (q * page_bytes) y refl a))
    where
      go : ZoneAt m q y ⊎ ((d : ℕ) × (q * page_bytes + 0 ≡ o + d) × (locate d (run (pages x) ∷ []) ≡ some (record { away = 0; segment = zone y }))) → ZoneAt m q y
      go (inl a) = a
      go (inr a) = let u : run (pages x) ≡ zone y = (cut-zone _ 0 a.0 y a.2).1 in clash (cc)

  -- No zone is left there.
  released-gone : 0 < pages x → (q : ℕ) → q * page_bytes ≡ o → (y : Zone) → ZoneAt (release o m) q y → ⊥
  released-gone pos q e y a = not-run opened (q * page_bytes) (pages x) y (begins-new o free_pages m b (q * page_bytes) _ [] (omega arith) refl pos) (joined_back (λ _. false) opened (q * page_bytes) y refl a)

-- A chunk comes back -------------------------------------------------------------------------------------------------

module _ (s : State) (h : Valid s) (o c i g : ℕ) (C : ChunkAt s o c i g) where
  abbrev p : ℕ
  p = C.page

  abbrev z : Zone
  z = C.here

  abbrev z' : Zone
  z' = put_back i z

  -- The segments with the chunk on its zone's chain, and the list of its class with the zone on it.
  abbrev chained : List (Segment Zone)
  chained = put_zone p z' s.segments

  abbrev relisted : List ℕ
  relisted = cond (full z) (p ∷ list_of s c) (list_of s c)

  z-valid : ValidZone z
  z-valid = each-locate ValidSegment s.segments (p * page_bytes) h.sound C.there

  z'-valid : ValidZone z'
  z'-valid = put_back-valid i z z-valid (omega arith)

  -- The zone has a live chunk, so it is not on the empty list.
  not-spare : Memᴰ p s.spare → ⊥
  not-spare j =
      let w = h.spared p j in
      let e = one-zone s.segments (p * page_bytes) w.0 z w.1 C.there in
      let inside : i < chunks z.class = omega (arith, ap chunks C.class) in
      omega (arith, all_zero-get_or (padded (chunks z.class) z.owners) (cc) i, padded-in _ z.owners i inside)

  -- It stands on no other class's list, nor on its own if it was full.
  own-class : (k : ℕ) → Memᴰ p (list_of s k) → (k ≡ c) × (full z ≡ false)
  own-class k j =
      let w = h.listed k p j in
      let e = one-zone s.segments (p * page_bytes) w.0 z w.1 C.there in
      (cc, cc)

  relisted-once : Distinct relisted
  relisted-once = either (λ l. Distinct l) (full z) (p ∷ list_of s c) (list_of s c) (λ t. (λ j. true-false t (own-class c j).1, h.once c)) (λ _. h.once c)

  relisted-old : (q : ℕ) → (q ≡ p → ⊥) → Memᴰ q relisted → Memᴰ q (list_of s c)
  relisted-old q ne j = bool (full z) (λ t. go (Memᴰ.cases_cons (rw t at j))) (λ t. rw t at j)
    where
      go : (q ≡ p) ⊎ Memᴰ q (list_of s c) → Memᴰ q (list_of s c)
      go (inl e) = absurd (ne e)
      go (inr e) = e

  relisted-kept : (q : ℕ) → Memᴰ q (list_of s c) → Memᴰ q relisted
  relisted-kept q j = bool (full z) (λ t. rw t (Memᴰ.tail j)) (λ t. rw t j)

  relisted-here : Memᴰ p relisted
  relisted-here = bool (full z) (λ t. rw t (Memᴰ.head refl)) (λ t. rw t (go (h.complete p z C.there t)))
    where
      go : Memᴰ p (list_of s z.class) ⊎ Memᴰ p s.spare → Memᴰ p (list_of s c)
      go (inl x) = subst (λ k. Memᴰ p (list_of s k)) C.class x
      go (inr x) = absurd (not-spare x)

  -- The three ends: the zone stays on its list, ..
  stays : Move s chained c p relisted s.spare
  stays = record {
    size = put-size s.segments p z z' C.there;
    apart = put-apart s.segments p z z' C.there h.apart;
    sound = put-sound s.segments p z z' C.there z'-valid h.sound;
    kept = put-kept s.segments p z z' C.there;
    back = put-back s.segments p z z' C.there;
    alone = λ k ne j. ne (own-class k j).0;
    here-listed = λ _. (z', put-new s.segments p z z' C.there, C.class, put_back-open i z);
    here-spared = λ j. absurd (not-spare j);
    here-complete = λ y a _. inl (cc (put_is s.segments p z z' C.there y a), relisted-here);
    here-once = λ _ j. not-spare j;
    list-old = relisted-old;
    list-kept = λ q ne j. relisted-kept q j;
    spare-old = λ q ne j. j;
    spare-kept = λ q ne j. j;
    once = relisted-once;
    once-spare = h.once-spare;
    few = h.few;
  }

  pub stays-valid : Valid (arranged s chained (set s.lists c relisted) s.spare)
  stays-valid = rearranged s chained c p relisted s.spare h stays

  -- .. or it moves to the front of the empty list, ..
  retires : idle_zone z' ≡ true → length s.spare < most_spare → Move s chained c p (remove p relisted) (p ∷ s.spare)
  retires t u = record {
    size = stays.size;
    apart = stays.apart;
    sound = stays.sound;
    kept = stays.kept;
    back = stays.back;
    alone = stays.alone;
    here-listed = λ j. absurd (remove-gone p relisted j);
    here-spared = λ _. (z', put-new s.segments p z z' C.there, t);
    here-complete = λ y a _. inr (Memᴰ.head refl);
    here-once = λ j _. remove-gone p relisted j;
    list-old = λ q ne j. relisted-old q ne (remove-in p relisted j).1;
    list-kept = λ q ne j. remove-keeps p (λ e. ne (sym e)) (relisted-kept q j);
    spare-old = λ q ne j. go q ne (Memᴰ.cases_cons j);
    spare-kept = λ q ne j. Memᴰ.tail j;
    once = remove-distinct p relisted relisted-once;
    once-spare = (not-spare, h.once-spare);
    few = u;
  }
    where
      go : (q : ℕ) → (q ≡ p → ⊥) → (q ≡ p) ⊎ Memᴰ q s.spare → Memᴰ q s.spare
      go q ne (inl e) = absurd (ne e)
      go q ne (inr e) = e

  -- .. or it is given back to the runs.
  returns : Move s (release (p * page_bytes) chained) c p (remove p relisted) s.spare
  returns = let new = put-new s.segments p z z' C.there in record {
    size = released-size chained (p * page_bytes) (zone z') new ∙ stays.size;
    apart = released-apart chained (p * page_bytes) (zone z') new;
    sound = released-sound chained (p * page_bytes) (zone z') new stays.sound;
    kept = λ q y b ne. released-kept chained (p * page_bytes) (zone z') new q y (stays.kept q y b ne) (λ e. ne (omega arith));
    back = λ q y a ne. stays.back q y (released-back chained (p * page_bytes) (zone z') new q y a) ne;
    alone = stays.alone;
    here-listed = λ j. absurd (remove-gone p relisted j);
    here-spared = λ j. absurd (not-spare j);
    here-complete = λ y a _. absurd (released-gone chained (p * page_bytes) (zone z') new (omega arith) p refl y a);
    here-once = λ j _. remove-gone p relisted j;
    list-old = λ q ne j. relisted-old q ne (remove-in p relisted j).1;
    list-kept = λ q ne j. remove-keeps p (λ e. ne (sym e)) (relisted-kept q j);
    spare-old = λ q ne j. j;
    spare-kept = λ q ne j. j;
    once = remove-distinct p relisted relisted-once;
    once-spare = h.once-spare;
    few = h.few;
  }

  pub chunk_back-valid : Valid (chunk_back c i p z s)
  chunk_back-valid = either Valid (idle_zone z' && ltb 1 (length relisted)) _ _
      (λ t. either Valid (ltb (length s.spare) most_spare) _ _
      (λ u. rearranged s chained c p _ _ h (retires (and_left _ _ t) (ltb-true _ 2 u)))
      (λ _. rearranged s _ c p _ s.spare h returns))
      (λ _. stays-valid)

-- Any block comes back -----------------------------------------------------------------------------------------------

pub freed-valid : (s : State) → Valid s → (o : ℕ) (b : Block) → block_at (page_map s) o ≡ some b → Valid (freed o b s)
freed-valid s h o (whole n g) e =
    let b = direct-at s o n g e in
    same-zones s _ h (record {
      size = released-size s.segments o _ b;
      apart = released-apart s.segments o _ b;
      sound = released-sound s.segments o _ b h.sound;
      kept = λ q y a. released-kept s.segments o _ b q y a (λ z. not-zone y (same-segment (sym b ∙ ap (λ k. locate k s.segments) (sym z) ∙ a)));
      back = released-back s.segments o _ b;
    })
  where
    not-zone : (y : Zone) → ◌≡◌ {A = Segment Zone} (direct n g) (zone y) → ⊥
    not-zone y u = clash (cc)
freed-valid s h o (chunk c i g) e = let C = chunk-at s o c i g e in rw (freed-chunk s o c i g C) (chunk_back-valid s h o c i g C)

freed_if-valid : (s : State) → Valid s → (o : ℕ) (b : Option Block) → block_at (page_map s) o ≡ b → Valid (freed_if o b s)
freed_if-valid s h o none e = h
freed_if-valid s h o (some b) e = freed-valid s h o b e

pub freed_all-valid : (l : List ℕ) (s : State) → Valid s → Valid (freed_all l s)
freed_all-valid [] s h = h
freed_all-valid (o ∷ r) s h = freed_all-valid r _ (freed_if-valid s h o (block_at (page_map s) o) refl)

pub free-valid : (s : State) → Valid s → (g o : ℕ) → Valid (free g o s).after
free-valid s h g o = bool (group_ok g) (λ t. rw t (go (block_at (page_map s) o) refl)) (λ t. rw t h)
  where
    go : (b : Option Block) → block_at (page_map s) o ≡ b → Valid (free_block g o s b).after
    go none e = h
    go (some b) e = bool (eqb (group_of b) g) (λ t. rw t (freed-valid s h o b e)) (λ t. rw t h)

pub reset-valid : (s : State) → Valid s → (g : ℕ) → Valid (reset g s).after
reset-valid s h g = bool (group_ok g) (λ t. rw t (freed_all-valid (offsets_of g s) s h)) (λ t. rw t h)

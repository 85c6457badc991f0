-- Validity is kept where segments change and the lists do not, and where one zone, its class's list and the empty list change
-- together. Assumes nothing.
use Prim.Native.Nat.{ℕ, ◌+◌, ◌*◌, ◌≤◌, ◌<◌}
use mathlib.Core.Path.{◌≡◌, refl, sym, ◌∙◌, subst}
use mathlib.Core.Logic.{◌⊎◌, inl, inr}
use mathlib.Core.List.Memᴰ
use mathlib.Core.List.{List, [], ◌∷◌, Memᴰ}
use mathlib.Core.Option.{some}
use mathlib.Core.Bool.{false}
use native.Mathlib.Omega.{arith}
use lib.Dec.{ltb, eqb}
use lib.ListN.{length, get_or, set, length-set, get_or-eq_default}
use lib.Seq.{get_or-set_same, get_or-set_other}
use borrow.Author.Tests.{ltb-true, ltb-false, eqb-true, eqb-false}
use Rattle.lemmas.specs.Times.{Distinct}
use Rattle.lemmas.proofs.Cases.{bool, clash, by-eq}
use Rattle.model.specs.Numbers.{class_count, most_spare, page_bytes}
use Rattle.model.specs.Arena.{Segment, run, zone, total, locate, Each}
use Rattle.model.specs.Zone.{Zone, full}
use Rattle.model.specs.State.{State, list_of, arranged, Begins, ZoneAt, put_zone}
use Rattle.model.specs.Valid.{Apart, ValidZone, ValidSegment, OpenAt, IdleAt, Valid}
use Rattle.model.proofs.Arena.{total-edit, begins-kept, begins-new, begins-back, each-edit, each-locate, same-segment}
use Rattle.model.proofs.Joins.{cut-zone, edit-apart}

-- What stands on a list after one list was set.
in-set : (ls : List (List ℕ)) (c k p : ℕ) (l : List ℕ) → Memᴰ p (get_or (set ls c l) k []) → ((k ≡ c) × Memᴰ p l) ⊎ ((k ≡ c → ⊥) × Memᴰ p (get_or ls k []))
in-set ls c k p l i = bool (eqb k c)
    (λ t. inl (
      eqb-true k c t,
      bool (ltb c (length ls))
          (λ u. rw (get_or-set_same ls c l [] (ltb-true c (length ls) u)) at (rw (eqb-true k c t) at i))
          (λ u. absurd (Memᴰ.not-nil (rw (get_or-eq_default (set ls c l) [] {n = k} (omega (arith, ltb-false, length-set ls c l, eqb-true))) at i))),
    ))
    (λ t. inr (eqb-false k c t, rw (get_or-set_other ls c k l [] (eqb-false k c t)) at i))

once-set : (ls : List (List ℕ)) (c k : ℕ) (l : List ℕ) → Distinct l → Distinct (get_or ls k []) → Distinct (get_or (set ls c l) k [])
once-set ls c k l a b = bool (eqb k c)
    (λ t. bool (ltb c (length ls))
    (λ u. rw (eqb-true k c t) (rw (get_or-set_same ls c l [] (ltb-true c (length ls) u)) a))
    (λ u. rw (get_or-eq_default (set ls c l) [] {n = k} (omega (arith, ltb-false, length-set ls c l, eqb-true))) tt))
    (λ t. rw (get_or-set_other ls c k l [] (eqb-false k c t)) b)

in-here : (ls : List (List ℕ)) (c p : ℕ) (l : List ℕ) → c < length ls → Memᴰ p l → Memᴰ p (get_or (set ls c l) c [])
in-here ls c p l h i = rw (get_or-set_same ls c l [] h) i

in-other : (ls : List (List ℕ)) (c k p : ℕ) (l : List ℕ) → (k ≡ c → ⊥) → Memᴰ p (get_or ls k []) → Memᴰ p (get_or (set ls c l) k [])
in-other ls c k p l ne i = rw (get_or-set_other ls c k l [] ne) i

zone-inj : (z y : Zone) → ◌≡◌ {A = Segment Zone} (zone z) (zone y) → z ≡ y
zone-inj z y e = cc

-- At most one zone begins at a byte.
pub one-zone : (m : List (Segment Zone)) (q : ℕ) (z y : Zone) → Begins q m (zone z) → Begins q m (zone y) → z ≡ y
one-zone m q z y a b = zone-inj z y (same-segment (sym a ∙ b))

-- Segments change, lists do not ---------------------------------------------------------------------------------

-- What is asked of the new segments m: the zones stand where they stood.
pub record SameZones (s : State) (m : List (Segment Zone)) : Type 0 where
  pub size : total m ≡ total s.segments
  pub apart : Apart false m
  pub sound : Each ValidSegment m
  pub kept : (q : ℕ) (y : Zone) → ZoneAt s.segments q y → ZoneAt m q y
  pub back : (q : ℕ) (y : Zone) → ZoneAt m q y → ZoneAt s.segments q y

pub same-zones : (s : State) (m : List (Segment Zone)) → Valid s → SameZones s m → Valid (arranged s m s.lists s.spare)
same-zones s m h v = record {
  least = omega arith;
  most = omega arith;
  apart = v.apart;
  sound = v.sound;
  classes = h.classes;
  listed = λ c p i. let f = h.listed c p i in (f.0, v.kept p f.0 f.1, f.2, f.3);
  complete = λ p z b f. h.complete p z (v.back p z b) f;
  few = h.few;
  spared = λ p i. let f = h.spared p i in (f.0, v.kept p f.0 f.1, f.2);
  once = h.once;
  once-spare = h.once-spare;
  not-both = h.not-both;
}

-- One zone and its lists change ---------------------------------------------------------------------------------

-- What is asked of new segments m, a new list l of class c and a new empty list sp, where only the zone at page p changes.
pub record Move (s : State) (m : List (Segment Zone)) (c p : ℕ) (l sp : List ℕ) : Type 0 where
  -- the segments
  pub size : total m ≡ total s.segments
  pub apart : Apart false m
  pub sound : Each ValidSegment m
  pub kept : (q : ℕ) (y : Zone) → ZoneAt s.segments q y → (q ≡ p → ⊥) → ZoneAt m q y
  pub back : (q : ℕ) (y : Zone) → ZoneAt m q y → (q ≡ p → ⊥) → ZoneAt s.segments q y
  -- the zone at p stands on no other class's list, and where it stands now it belongs
  pub alone : (k : ℕ) → (k ≡ c → ⊥) → Memᴰ p (list_of s k) → ⊥
  pub here-listed : Memᴰ p l → OpenAt m c p
  pub here-spared : Memᴰ p sp → IdleAt m p
  pub here-complete : (y : Zone) → ZoneAt m p y → full y ≡ false → ((y.class ≡ c) × Memᴰ p l) ⊎ Memᴰ p sp
  pub here-once : Memᴰ p l → Memᴰ p sp → ⊥
  -- the other zones stand where they stood
  pub list-old : (q : ℕ) → (q ≡ p → ⊥) → Memᴰ q l → Memᴰ q (list_of s c)
  pub list-kept : (q : ℕ) → (q ≡ p → ⊥) → Memᴰ q (list_of s c) → Memᴰ q l
  pub spare-old : (q : ℕ) → (q ≡ p → ⊥) → Memᴰ q sp → Memᴰ q s.spare
  pub spare-kept : (q : ℕ) → (q ≡ p → ⊥) → Memᴰ q s.spare → Memᴰ q sp
  pub once : Distinct l
  pub once-spare : Distinct sp
  pub few : length sp ≤ most_spare

pub rearranged : (s : State) (m : List (Segment Zone)) (c p : ℕ) (l sp : List ℕ) → Valid s → Move s m c p l sp → Valid (arranged s m (set s.lists c l) sp)
rearranged s m c p l sp h v = record {
  least = omega arith;
  most = omega arith;
  apart = v.apart;
  sound = v.sound;
  classes = cc (length-set s.lists c l);
  listed = λ k q i. list-case k q (in-set s.lists c k q l i);
  complete = λ q y b f. by-eq q p
      (λ e. rw e (comp-here y (class_of q y b) (v.here-complete y (rw e at b) f)))
      (λ ne. comp-old q y ne (class_of q y b) (h.complete q y (v.back q y b ne) f));
  few = v.few;
  spared = λ q i. by-eq q p
      (λ e. rw e (v.here-spared (rw e at i)))
      (λ ne. let f = h.spared q (v.spare-old q ne i) in (f.0, v.kept q f.0 f.1 ne, f.2));
  once = λ k. once-set s.lists c k l v.once (h.once k);
  once-spare = v.once-spare;
  not-both = λ k q i j. apart-case k q j (in-set s.lists c k q l i);
}
  where
    class_of : (q : ℕ) (y : Zone) → ZoneAt m q y → y.class < class_count
    class_of q y b = let k : ValidZone y = each-locate ValidSegment m (q * page_bytes) v.sound b in k.class

    comp-here : (y : Zone) → y.class < class_count → ((y.class ≡ c) × Memᴰ p l) ⊎ Memᴰ p sp → Memᴰ p (get_or (set s.lists c l) y.class []) ⊎ Memᴰ p sp
    comp-here y u (inl a) = inl (subst (λ k. Memᴰ p (get_or (set s.lists c l) k [])) (sym a.0) (in-here s.lists c p l (omega arith) a.1))
    comp-here y u (inr a) = inr a

    comp-old : (q : ℕ) (y : Zone) → (q ≡ p → ⊥) → y.class < class_count → Memᴰ q (list_of s y.class) ⊎ Memᴰ q s.spare → Memᴰ q (get_or (set s.lists c l) y.class []) ⊎ Memᴰ q sp
    comp-old q y ne u (inl a) = inl (by-eq y.class c
        (λ e. rw e (in-here s.lists c q l (omega arith) (v.list-kept q ne (rw e at a))))
        (λ nc. in-other s.lists c y.class q l nc a))
    comp-old q y ne u (inr a) = inr (v.spare-kept q ne a)

    old : (k q : ℕ) → (q ≡ p → ⊥) → Memᴰ q (list_of s k) → OpenAt m k q
    old k q ne i = let f = h.listed k q i in (f.0, v.kept q f.0 f.1 ne, f.2, f.3)

    list-case : (k q : ℕ) → ((k ≡ c) × Memᴰ q l) ⊎ ((k ≡ c → ⊥) × Memᴰ q (list_of s k)) → OpenAt m k q
    list-case k q (inl a) = by-eq q p
        (λ e. subst (λ j. OpenAt m j q) (sym a.0) (rw e (v.here-listed (rw e at a.1))))
        (λ ne. subst (λ j. OpenAt m j q) (sym a.0) (old c q ne (v.list-old q ne a.1)))
    list-case k q (inr a) = by-eq q p
        (λ e. absurd (v.alone k a.0 (rw e at a.1)))
        (λ ne. old k q ne a.1)

    apart-case : (k q : ℕ) → Memᴰ q sp → ((k ≡ c) × Memᴰ q l) ⊎ ((k ≡ c → ⊥) × Memᴰ q (list_of s k)) → ⊥
    apart-case k q j (inl a) = by-eq q p
        (λ e. v.here-once (rw e at a.1) (rw e at j))
        (λ ne. h.not-both c q (v.list-old q ne a.1) (v.spare-old q ne j))
    apart-case k q j (inr a) = by-eq q p
        (λ e. v.alone k a.0 (rw e at a.1))
        (λ ne. h.not-both k q a.1 (v.spare-old q ne j))

-- A zone gives way to another --------------------------------------------------------------------------------------

module _ (m : List (Segment Zone)) (p : ℕ) (z z' : Zone) (b : ZoneAt m p z) where
  pub put-size : total (put_zone p z' m) ≡ total m
  put-size = total-edit (p * page_bytes) (λ _. zone z' ∷ []) m b refl

  pub put-kept : (q : ℕ) (y : Zone) → ZoneAt m q y → (q ≡ p → ⊥) → ZoneAt (put_zone p z' m) q y
  put-kept q y a ne = begins-kept (p * page_bytes) (λ _. zone z' ∷ []) m b refl (q * page_bytes) (zone y) a (λ e. ne (omega arith))

  pub put-new : ZoneAt (put_zone p z' m) p z'
  put-new = begins-new (p * page_bytes) (λ _. zone z' ∷ []) m b (p * page_bytes) (zone z') [] (omega arith) refl (omega arith)

  pub put-sound : ValidZone z' → Each ValidSegment m → Each ValidSegment (put_zone p z' m)
  put-sound k h = each-edit ValidSegment (p * page_bytes) (λ _. zone z' ∷ []) (λ _ _. (k, tt)) m h

  pub put-back : (q : ℕ) (y : Zone) → ZoneAt (put_zone p z' m) q y → (q ≡ p → ⊥) → ZoneAt m q y
  put-back q y a ne = go (begins-back (p * page_bytes) (λ _. zone z' ∷ []) m b refl (q * page_bytes) (zone y) a)
    where
      go : ZoneAt m q y ⊎ ((d : ℕ) × (q * page_bytes + 0 ≡ p * page_bytes + d) × (locate d (zone z' ∷ []) ≡ some (record { away = 0; segment = zone y }))) → ZoneAt m q y
      go (inl x) = x
      go (inr x) = absurd (ne (omega (arith, (cut-zone (zone z') 0 x.0 y x.2).0)))

  pub put-apart : Apart false m → Apart false (put_zone p z' m)
  put-apart h = edit-apart false (p * page_bytes) (λ _. zone z' ∷ []) m b (λ c r k. k) h

  pub put_is : (y : Zone) → ZoneAt (put_zone p z' m) p y → y ≡ z'
  put_is y a = one-zone (put_zone p z' m) (p * page_bytes) y z' a put-new

-- No run begins where a zone does.
pub not-run : (m : List (Segment Zone)) (q k : ℕ) (z : Zone) → Begins q m (run k) → Begins q m (zone z) → ⊥
not-run m q k z a b = let e : run k ≡ zone z = same-segment (sym a ∙ b) in clash (cc)

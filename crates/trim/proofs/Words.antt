-- What lent words say of a segment, and the words once a zone has been given back. Assumes nothing.
use Prim.Native.Nat.{ℕ, zero, suc, ◌+◌, ◌-◌, ◌*◌, ◌<◌}
use mathlib.Core.Path.{◌≡◌, refl, sym, ap, ◌∙◌, subst}
use mathlib.Core.List.{List, ◌∷◌, ◌++◌}
use mathlib.Core.Bool.{true, false}
use mathlib.Core.Logic.{◌⊎◌, inl, inr}
use native.Mathlib.Omega.{arith}
use Rattle.lemmas.proofs.Cases.{clash, true-false}
use Rattle.model.specs.Numbers.{zone_pages, class_count, most_pages, page_bytes}
use Rattle.model.specs.Arena.{Segment, run, direct, zone, pages, total, Each}
use Rattle.model.specs.Zone.{Zone}
use Rattle.model.specs.State.{State, ZoneAt, zone_at}
use Rattle.model.specs.PageMap.{idle_zone}
use Rattle.model.specs.Pages.{with_run, release}
use Rattle.model.specs.Valid.{Apart}
use Rattle.model.proofs.Arena.{each_append}
use Rattle.header.specs.Encoding.{Fits}
use Rattle.header.proofs.Kept.{fits-remove}
use Rattle.pages.specs.Encoding.{Writable}
use Rattle.pages.specs.Places.{kind_in, Stands, run_pages}
use Rattle.pages.specs.declared.Kind.TheVariants as kind
use Rattle.pages.proofs.Laws.{each_left, each_right}
use Rattle.pages.proofs.Inverse.{zone-by-kind}
use Rattle.metadata.specs.Encoding.{encode}
use Rattle.metadata.specs.Decoding.{decode}
use Rattle.steps.specs.Lent.{Encodes, Lent, ZoneHere}
use Rattle.steps.specs.Moves.{unlisted, released}
use Rattle.steps.proofs.Lent.{lent, lent-decoded, zone-valid, zone-inside}
use Rattle.steps.proofs.Body.{stands-begins, release-total}
use Rattle.steps.proofs.Zones.{zone-at, zone-there as zone-begun}
use Rattle.trim.specs.Between.{idle_segment, Between}
use Rattle.trim.proofs.Places.{between-stands, between-released, between_run}

-- What holds of a state holds of the state that its words decode to.
pub in_words {ℓ} : {w : List ℕ} {s : State} → Encodes w s → (P : State → Type ℓ) → P s → P (decode w)
in_words h P k = rw (lent-decoded h) k

-- ---- a segment that begins at page p

pub no-zone : (x : Segment Zone) → (kind_in x ≡ kind.Run) ⊎ (kind_in x ≡ kind.Direct) → false ≡ idle_segment x
no-zone (run n) e = refl
no-zone (direct n g) e = refl
no-zone (zone z) e = elim e [ inl f ↦ clash (cc) | inr f ↦ clash (cc) ]

pub idle-zone : (x : Segment Zone) → idle_segment x ≡ true → (z : Zone) × (x ≡ zone z) × (idle_zone z ≡ true)
idle-zone (run n) e = true-false e refl
idle-zone (direct n g) e = true-false e refl
idle-zone (zone z) e = (z, refl, e)

-- The zone that begins there.
module _ {m : List (Segment Zone)} {p b : ℕ} {z : Zone} (s : Stands m p b (zone z)) where
  pub zone-there : zone_at p m ≡ z
  zone-there = zone-at m p z (stands-begins s (omega arith))

  pub zone-here : ZoneAt m p (zone_at p m)
  zone-here = zone-begun m p z (stands-begins s (omega arith))

module _ {m : List (Segment Zone)} {p b : ℕ} {x : Segment Zone} (s : Stands m p b x) (k : kind_in x ≡ kind.Zone) where
  pub kind-here : ZoneAt m p (zone_at p m)
  kind-here = let q = zone-by-kind x k in zone-here {b = b} {z = q.0} (subst (λ y. Stands m p b y) q.1 s)

  pub kind-idle : idle_zone (zone_at p m) ≡ idle_segment x
  kind-idle = let q = zone-by-kind x k in rw (zone-there {b = b} {z = q.0} (subst (λ y. Stands m p b y) q.1 s)) (ap (λ y. idle_segment y) (sym q.1))

-- ---- a zone is given back

-- A zone that begins at the page p: its class, and the page as a number for the lists.
module _ {w : List ℕ} (h : Lent w) (p : ℕ) (b : ZoneHere (decode w) p) where
  pub class_low : (zone_at p (decode w).segments).class < class_count
  class_low = (zone-valid h p _ b).class

  pub page-low : p < most_pages
  page-low = let r = zone-inside h p _ b in omega arith

each-behind : (b : ℕ) (r : List (Segment Zone)) → Each Writable (with_run b r) → Each Writable r
each-behind zero r h = h
each-behind (suc b) r h = h.1

module _ {w : List ℕ} (h : Lent w) (apart : Apart false (decode w).segments) {p b a : ℕ} {z : Zone} (t : Between (decode w).segments p b a z) where
  abbrev m : List (Segment Zone)
  m = (decode w).segments

  stands : Stands m p b (zone z)
  stands = between-stands t

  pub given-here : ZoneHere (decode w) p
  given-here = zone-here stands

  class-is : (zone_at p m).class ≡ z.class
  class-is = cc (zone-there stands)

  listed-fits : Fits (total m) (decode w).spare (unlisted z.class p (decode w)).lists
  listed-fits = fits-remove h.fits z.class p (rw class-is at (class_low h p given-here))

  -- It has left its class's list.
  pub given-listed : {v : List ℕ} → v ≡ encode (unlisted (zone_at p m).class p (decode w)) → Encodes v (unlisted z.class p (decode w))
  given-listed f = record { words = cc (f, class-is); fits = listed-fits; sound = h.sound }

  sound-all : Each Writable (t.before ++ with_run b (zone z ∷ with_run a t.behind))
  sound-all = subst (λ l. Each Writable l) t.whole h.sound

  released-sound : Each Writable (release (p * page_bytes) m)
  released-sound = subst (λ l. Each Writable l) (sym (between-released t apart))
      (each_append Writable t.before _ (each_left t.before _ sound-all)
      ((omega arith, tt), each-behind a t.behind (each-behind b _ (each_right t.before _ sound-all)).1))

  -- Its pages have come back.
  pub given_back : (v : List ℕ) → v ≡ encode (released p (unlisted z.class p (decode w))) → Encodes v (released p (unlisted z.class p (decode w)))
  given_back v e = record { words = e; fits = rw (release-total stands (omega arith)) listed-fits; sound = released-sound }

  pub given-after : {v₁ v₂ : List ℕ} → Encodes v₁ (unlisted z.class p (decode w)) → v₂ ≡ encode (released p (decode v₁)) → Encodes v₂ (released p (unlisted z.class p (decode w)))
  given-after {v₁} {v₂} h₁ e = given_back v₂ (cc (lent-decoded h₁))

  -- The run that they are now part of.
  pub run-there : {v : List ℕ} → Encodes v (released p (unlisted z.class p (decode w))) → Stands (decode v).segments (p - b) 0 (run (b + zone_pages + a))
  run-there k = in_words k (λ s. Stands s.segments (p - b) 0 (run (b + zone_pages + a))) (between_run t apart)

  -- What the steps on such words ask.
  module _ (n : ℕ) (all : n ≡ total m) {v : List ℕ} where
    pub give-asks : Encodes v (unlisted z.class p (decode w)) → (Lent v × (n ≡ total (decode v).segments)) ×
        (Apart false (decode v).segments × ((x : Segment Zone) × Stands (decode v).segments p b x × (pages x ≡ zone_pages) × (run_pages x ≡ 0)))
    give-asks k = ((lent k, in_words k (λ s. n ≡ total s.segments) all), (in_words k (λ s. Apart false s.segments) apart, (zone z, in_words k (λ s. Stands s.segments p b (zone z)) stands, refl, refl)))

    pub size-asks : Encodes v (released p (unlisted z.class p (decode w))) → (Lent v × (n ≡ total (decode v).segments)) × ((b' : ℕ) × (x : Segment Zone) × Stands (decode v).segments (p - b) b' x)
    size-asks k = ((lent k, in_words k (λ s. n ≡ total s.segments) (all ∙ sym (release-total stands (omega arith)))), (0, run (b + zone_pages + a), run-there k))

-- A zone without a live chunk leaves its class's list. Assumes nothing.
use Prim.Native.Nat.{ℕ, ◌≤◌, ◌<◌}
use mathlib.Core.Path.{◌≡◌, refl, sym, ap, ◌∙◌, subst}
use mathlib.Core.List.{List, ◌∷◌}
use mathlib.Core.Bool.{true, false}
use native.Mathlib.Omega.{arith}
use lib.Dec.{ltb}
use lib.ListN.{length}
use borrow.Author.Tests.{lt-ltb, le-ltb}
use Rattle.model.specs.Numbers.{zone_pages, class_count, most_pages, most_spare}
use Rattle.model.specs.Arena.{Segment, zone, pages, total}
use Rattle.model.specs.Zone.{Zone}
use Rattle.model.specs.State.{State, list_of}
use Rattle.model.specs.Valid.{Apart}
use Rattle.model.specs.Free.{retired}
use Rattle.header.specs.Encoding.{spare_slots}
use Rattle.pages.specs.Places.{Stands, run_pages}
use Rattle.metadata.specs.Encoding.{encode}
use Rattle.metadata.specs.Decoding.{decode}
use Rattle.steps.specs.Lent.{Encodes, Lent, Good}
use Rattle.steps.specs.Moves.{unlisted, spared, released}
use Rattle.steps.proofs.Lent.{lent, lent-decoded}
use Rattle.steps.proofs.Kept.{kept-without}
use Rattle.steps.proofs.Zones.{stands-inside, zone-valid}

module _ {w : List ℕ} {n p b c : ℕ} (good : Good w n) (z : Zone) (t : Stands (decode w).segments p b (zone z)) (class : c ≡ z.class) where
  abbrev s : State
  s = decode w

  pub zone-page : p < most_pages
  zone-page = omega (arith, stands-inside t, good.valid.most)

  pub zone-class : c < class_count
  zone-class = omega (arith, (zone-valid s p b z t good.valid).class)

  -- Off its list.
  module _ {v : List ℕ} (e : v ≡ encode (unlisted c p (decode w))) where
    off : Encodes v (unlisted c p s)
    off = kept-without good.lent v c p zone-class e

    pub off-lent : Lent v
    off-lent = lent off

    off-decoded : decode v ≡ unlisted c p s
    off-decoded = lent-decoded off

    -- How many the empty list has.
    pub off-count : (k : ℕ) → k ≡ length (decode v).spare → k ≡ length (decode w).spare
    off-count k f = f ∙ ap (λ x. length x.spare) off-decoded

    pub off-room : length (decode w).spare < most_spare → length (decode v).spare < spare_slots
    off-room h = subst (λ x. length x.spare < spare_slots) (sym off-decoded) h

    pub off-spared : length (decode w).spare < most_spare → (u : List ℕ) → u ≡ encode (spared (p ∷ (decode v).spare) (decode v)) →
        (u ≡ encode (retired c p (list_of (decode w) c) (decode w))) × (true ≡ ltb (length (decode w).spare) most_spare)
    off-spared h u f =
        (f ∙ ap (λ x. encode (spared (p ∷ x.spare) x)) off-decoded ∙ ap encode (sym (rw (lt-ltb (length s.spare) most_spare h))), sym (lt-ltb (length s.spare) most_spare h))

    pub off-stands : ((x : Segment Zone) × Stands (decode v).segments p b x × (pages x ≡ zone_pages) × (run_pages x ≡ 0))
    off-stands = (zone z, subst (λ x. Stands x.segments p b (zone z)) (sym off-decoded) t, refl, refl)

    pub off-apart : Apart false (decode v).segments
    off-apart = subst (λ x. Apart false x.segments) (sym off-decoded) good.valid.apart

    pub off-total : n ≡ total (decode v).segments
    off-total = good.pages ∙ ap (λ x. total x.segments) (sym off-decoded)

    pub off-released : most_spare ≤ length (decode w).spare → (u : List ℕ) → u ≡ encode (released p (decode v)) →
        (u ≡ encode (retired c p (list_of (decode w) c) (decode w))) × (false ≡ ltb (length (decode w).spare) most_spare)
    off-released h u f =
        (f ∙ ap (λ x. encode (released p x)) off-decoded ∙ ap encode (sym (rw (le-ltb (length s.spare) most_spare h))), sym (le-ltb (length s.spare) most_spare h))

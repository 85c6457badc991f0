-- A live chunk of a zone that stands in lent words, and the words when it is on its zone's chain. Assumes nothing.
use Prim.Native.Nat.{ℕ, ◌+◌, ◌-◌, ◌*◌, ◌/◌, ◌<◌}
use mathlib.Core.Path.{◌≡◌, refl, sym, ap, ◌∙◌, subst}
use mathlib.Core.List.{List, ◌∷◌}
use mathlib.Core.Bool.{Bool, true, cond}
use native.Mathlib.Omega.{arith}
use lib.ListN.{length, get_or, set}
use Rattle.model.specs.Numbers.{page_bytes, class_count, most_pages}
use Rattle.model.specs.Sizes.{room}
use Rattle.model.specs.Arena.{zone, total}
use Rattle.model.specs.Zone.{Zone, full, put_back}
use Rattle.model.specs.State.{State, list_of, arranged, zone_at, put_zone}
use Rattle.model.specs.Valid.{ValidZone, Valid}
use Rattle.model.proofs.Zones.{owned-touched, put_back-valid}
use Rattle.model.proofs.Freed.{ChunkAt}
use Rattle.model.proofs.ValidFree.{stays-valid, chunk_back-valid}
use Rattle.model.specs.Free.{chunk_back}
use Rattle.model.proofs.Moves.{put-size}
use Rattle.header.specs.Keys.{keys_of}
use Rattle.header.specs.Encoding.{list_slots}
use Rattle.pages.specs.Places.{Stands}
use Rattle.metadata.specs.Encoding.{encode}
use Rattle.metadata.specs.Decoding.{decode}
use Rattle.steps.specs.Lent.{Encodes, Lent, ZoneHere, Good}
use Rattle.steps.specs.Moves.{fronted, rezoned}
use Rattle.steps.proofs.Lent.{lent, lent-decoded}
use Rattle.steps.proofs.Kept.{kept-zone, had-room, good_of, good-decoded, put-stands, put-zone-at}
use Rattle.steps.proofs.Zones.{stands-inside, zone-begins, zone-is, zone-stands, zone-valid}
use Rattle.free.specs.Back.{chained, LiveChunk}

-- A chunk that is live, where its zone begins.
abbrev chunk-there : (s : State) → Valid s → (p b i : ℕ) (z : Zone) → Stands s.segments p b (zone z) → 0 < get_or z.owners i 0 → ChunkAt s (p * page_bytes + i * room z.class) z.class i (get_or z.owners i 0)
chunk-there s v p b i z t h = record {
  page = p;
  here = z;
  there = zone-begins s p b z t;
  at = refl;
  page-is = let e : p * page_bytes + i * room z.class - i * room z.class ≡ p * page_bytes = omega arith in ap (λ k. k / page_bytes) e ∙ omega arith;
  class = refl;
  inside = omega (arith, owned-touched z.owners i h, (zone-valid s p b z t v).fits);
  owner = refl;
  live = h;
}

module _ {w : List ℕ} {n p b i : ℕ} (good : Good w n) (live : LiveChunk (decode w) p b i) where
  abbrev s : State
  s = decode w

  -- The zone, and the zone with the chunk on its chain.
  abbrev z : Zone
  z = zone_at p (decode w).segments

  abbrev z' : Zone
  z' = put_back i z

  is : z ≡ live.z
  is = zone-is s p b live.z live.stands

  live-stands : Stands (decode w).segments p b (zone (zone_at p (decode w).segments))
  live-stands = subst (λ y. Stands s.segments p b (zone y)) (sym is) live.stands

  pub live_here : ZoneHere (decode w) p
  live_here = zone-stands s p b live.z live.stands

  pub live-owner : 0 < get_or (zone_at p (decode w).segments).owners i 0
  live-owner = subst (λ y. 0 < get_or y.owners i 0) (sym is) live.live

  valid : ValidZone z
  valid = zone-valid s p b z live-stands good.valid

  pub live-class : (zone_at p (decode w).segments).class < class_count
  live-class = valid.class

  pub live-page : p < most_pages
  live-page = omega (arith, stands-inside live-stands, good.valid.most)

  abbrev chunk : ChunkAt s (p * page_bytes + i * room z.class) z.class i (get_or z.owners i 0)
  chunk = chunk-there s good.valid p b i z live-stands live-owner

  chained-valid : Valid (chained (zone_at p (decode w).segments).class i p (zone_at p (decode w).segments) (decode w))
  chained-valid = stays-valid s good.valid (p * page_bytes + i * room z.class) z.class i (get_or z.owners i 0) chunk

  pub back-valid : Valid (chunk_back (zone_at p (decode w).segments).class i p (zone_at p (decode w).segments) (decode w))
  back-valid = chunk_back-valid s good.valid (p * page_bytes + i * room z.class) z.class i (get_or z.owners i 0) chunk

  chained-stands : Stands (put_zone p (put_back i (zone_at p (decode w).segments)) (decode w).segments) p b (zone (put_back i (zone_at p (decode w).segments)))
  chained-stands = put-stands z' live-stands

  -- The chunk is on the chain, the lists are as they were.
  module _ {v : List ℕ} (e : v ≡ encode (rezoned p (put_back i (zone_at p (decode w).segments)) (decode w))) where
    mid-encodes : Encodes v (rezoned p z' s)
    mid-encodes = kept-zone good.lent v p z z' live_here (put_back-valid i z valid live-owner) e

    pub mid-lent : Lent v
    mid-lent = lent mid-encodes

    mid-decoded : decode v ≡ rezoned p z' s
    mid-decoded = lent-decoded mid-encodes

    -- The chunk is on the chain, and the class's list as it is for a zone that was full (true) or not.
    abbrev relists : Bool → State
    relists x = arranged s (put_zone p z' s.segments) (set s.lists z.class (cond x (p ∷ list_of s z.class) (list_of s z.class))) s.spare

    pub mid-room : full (zone_at p (decode w).segments) ≡ true → length (keys_of (decode v).lists) < list_slots
    mid-room t =
        let ok : Valid (relists true) = subst (λ x. Valid (relists x)) t chained-valid in
        subst (λ k. length (keys_of k.lists) < list_slots) (sym mid-decoded) (had-room s z.class p (put_zone p z' s.segments) s.spare ok (omega (arith, valid.class, good.valid.classes)))

    -- A zone that was full goes on its list; another stays there.
    pub mid-front : full (zone_at p (decode w).segments) ≡ true → (c : ℕ) → c ≡ (zone_at p (decode w).segments).class → (u : List ℕ) → u ≡ encode (fronted c p (decode v)) →
        u ≡ encode (chained (zone_at p (decode w).segments).class i p (zone_at p (decode w).segments) (decode w))
    mid-front t c k u f = f ∙ (λ j. encode (fronted (k j) p (mid-decoded j))) ∙ ap (λ x. encode (relists x)) (sym t)

  -- The chunk is on the chain and the zone on its list: a valid state again.
  module _ {v : List ℕ} (e : v ≡ encode (chained (zone_at p (decode w).segments).class i p (zone_at p (decode w).segments) (decode w))) where
    abbrev A : State
    A = chained z.class i p z s

    same_total : n ≡ total A.segments
    same_total = good.pages ∙ sym (put-size s.segments p z z' live_here)

    pub chained-good : Good v n
    chained-good = good_of v A n chained-valid e same_total

    pub chained-decoded : decode v ≡ chained (zone_at p (decode w).segments).class i p (zone_at p (decode w).segments) (decode w)
    chained-decoded = good-decoded v A chained-valid e

    pub zone-back : zone_at p (decode v).segments ≡ put_back i (zone_at p (decode w).segments)
    zone-back = ap (λ k. zone_at p k.segments) chained-decoded ∙ put-zone-at s.segments p z z' live_here

    pub back-stands : Stands (decode v).segments p b (zone (put_back i (zone_at p (decode w).segments)))
    back-stands = subst (λ k. Stands k.segments p b (zone z')) (sym chained-decoded) chained-stands

    pub back-here : ZoneHere (decode v) p
    back-here = zone-stands (decode v) p b z' back-stands

-- The first zone on its class's list serves: what each step asks, and that the words left are those of the state that the rule
-- makes. Assumes nothing.
use Prim.Native.Nat.{ℕ, ◌+◌, ◌*◌, ◌<◌}
use mathlib.Core.Path.{◌≡◌, refl, sym, ap, ◌∙◌, subst}
use mathlib.Core.Bool.{Bool, true, false, cond}
use mathlib.Core.List.{List, [], ◌∷◌, Memᴰ}
use native.Mathlib.Omega.{arith}
use lib.ListN.{set}
use Rattle.std.specs.Prelude.{Some}
use Rattle.lemmas.specs.Times.{Distinct, remove}
use Rattle.lemmas.proofs.Sets.{set_same}
use Rattle.lemmas.proofs.Distinct.{remove-here, remove_absent}
use Rattle.model.specs.declared.groups.Group.{Group}
use Rattle.model.specs.Numbers.{page_bytes, zone_bytes, most_pages}
use Rattle.model.specs.declared.Answer.TheVariants.{Granted}
use Rattle.model.specs.Sizes.{room, chunks}
use Rattle.model.specs.Arena.{Segment}
use Rattle.model.specs.Zone.{Zone, full, next_chunk, granted}
use Rattle.model.specs.State.{State, list_of, ZoneAt, zone_at, put_zone}
use Rattle.model.specs.Valid.{OpenAt, Valid}
use Rattle.model.specs.Allocate.{served, chunk_from}
use Rattle.model.proofs.Sizes.{chunk-begins}
use Rattle.model.proofs.Zones.{grants}
use Rattle.model.proofs.Moves.{put-new}
use Rattle.model.proofs.ValidAllocate.{chunk-valid}
use Rattle.header.specs.Front.{front_of}
use Rattle.metadata.specs.Encoding.{encode}
use Rattle.metadata.specs.Decoding.{decode}
use Rattle.steps.specs.Lent.{Encodes, ZoneHere}
use Rattle.steps.specs.Moves.{rezoned, unlisted}
use Rattle.steps.proofs.Lent.{lent-decoded, zone-valid}
use Rattle.allocate.specs.Asked.{Asked}
use Rattle.allocate.proofs.Found.{front-page}
use Rattle.steps.proofs.Zones.{zone-at, zone-there}
use Rattle.allocate.proofs.Between.{follows, between}

module _ (group : Group) {w : List ℕ} {n c : ℕ} (h : Asked w n c) {p : ℕ} (front : front_of (list_of (decode w) c) ≡ Some p) where
  abbrev g : ℕ
  g = group.number

  abbrev s : State
  s = decode w

  abbrev m : List (Segment Zone)
  m = s.segments

  abbrev z : Zone
  z = zone_at p m

  abbrev ps : List ℕ
  ps = (front-page (list_of s c) p front).0

  list-is : list_of s c ≡ p ∷ ps
  list-is = (front-page (list_of s c) p front).1

  rule : chunk_from c g s (list_of s c) ≡ served c g p ps s z
  rule = ap (chunk_from c g s) list-is

  after-valid : Valid (served c g p ps s z).after
  after-valid = subst (λ o. Valid o.after) rule (chunk-valid s h.good.valid g group.least group.most c h.class (list_of s c) refl)

  on_list : Memᴰ p (list_of s c)
  on_list = subst (Memᴰ p) (sym list-is) (Memᴰ.head refl)

  opens : OpenAt m c p
  opens = h.good.valid.listed c p on_list

  pub serve-page : p < most_pages
  serve-page = h.good.lent.fits.list-pages c p on_list

  pub serve-zone : ZoneHere s p
  serve-zone = zone-there m p opens.0 opens.1

  pub serve-open : full z ≡ false
  serve-open = ap (λ y. full y) (zone-at m p opens.0 opens.1) ∙ opens.3

  class-is : z.class ≡ c
  class-is = ap (λ y. y.class) (zone-at m p opens.0 opens.1) ∙ opens.2

  -- The chunk lies inside the zone.
  pub serve-inside : {i r : ℕ} → i ≡ next_chunk z → r ≡ room c → i * r < zone_bytes
  serve-inside {i} {r} e f =
      let k : next_chunk z < chunks c = subst (λ y. next_chunk z < chunks y) class-is (grants g group.least group.most z (zone-valid h.good.lent p z serve-zone) serve-open).inside in
      let q : i * r ≡ next_chunk z * room c = λ j. e j * f j in
      omega (arith, chunk-begins c (next_chunk z) k)

  pub serve-answer : {i r : ℕ} → i ≡ next_chunk z → r ≡ room c → Granted (p * page_bytes + i * r) 0 ≡ (chunk_from c g s (list_of s c)).answer
  serve-answer e f = (λ j. Granted (p * page_bytes + e j * f j) 0) ∙ ap (λ o. o.answer) (sym rule)

  -- The chunk has been granted.
  module _ {w₁ : List ℕ} (e : w₁ ≡ encode (rezoned p (granted g z) s)) where
    pub granted-words : Encodes w₁ (rezoned p (granted g z) s)
    granted-words = between s (served c g p ps s z).after h.good.lent.fits after-valid e

    here : ZoneAt (put_zone p (granted g z) m) p (granted g z)
    here = put-new m p z (granted g z) serve-zone

    pub granted-zone : ZoneHere (decode w₁) p
    granted-zone = subst (λ x. ZoneHere x p) (sym (lent-decoded granted-words)) (zone-there (put_zone p (granted g z) m) p (granted g z) here)

    granted-full : {t : Bool} → t ≡ full (zone_at p (decode w₁).segments) → t ≡ full (granted g z)
    granted-full q = q ∙ ap (λ x. full (zone_at p x.segments)) (lent-decoded granted-words) ∙ ap (λ y. full y) (zone-at (put_zone p (granted g z) m) p (granted g z) here)

    -- The zone stays on its list, or leaves it.
    abbrev listing : Bool → List (List ℕ)
    listing t = set s.lists c (cond t ps (p ∷ ps))

    as-ruled : {t : Bool} {w₂ : List ℕ} (ls : List (List ℕ)) → t ≡ full (granted g z) → ls ≡ listing t →
        w₂ ≡ encode (record { segments = put_zone p (granted g z) m; lists = ls; spare = s.spare }) → w₂ ≡ encode (chunk_from c g s (list_of s c)).after
    as-ruled ls q k f = f ∙ (λ i. encode (record { segments = put_zone p (granted g z) m; lists = (k ∙ ap listing q) i; spare = s.spare })) ∙ ap (λ o. encode o.after) (sym rule)

    pub stays : {t : Bool} → t ≡ full (zone_at p (decode w₁).segments) → t ≡ false → w₁ ≡ encode (chunk_from c g s (list_of s c)).after
    stays q f = as-ruled s.lists (sym f ∙ granted-full q) (sym (set_same s.lists c (p ∷ ps) [] list-is)) e

    once : Distinct (p ∷ ps)
    once = subst (λ l. Distinct l) list-is (h.good.valid.once c)

    pub leaves : {t : Bool} {w₂ : List ℕ} → t ≡ full (zone_at p (decode w₁).segments) → t ≡ true → w₂ ≡ encode (unlisted c p (decode w₁)) → w₂ ≡ encode (chunk_from c g s (list_of s c)).after
    leaves q f k =
        let gone = ap (remove p) list-is ∙ remove-here p ps refl ∙ remove_absent p ps once.0 in
        as-ruled (set s.lists c (remove p (list_of s c))) (sym f ∙ granted-full q) (ap (set s.lists c) gone) (follows (λ x. unlisted c p x) granted-words k)

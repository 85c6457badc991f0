-- A zone is set up for a class that has none with a chunk left: what each step asks, and that the words left are those of the state
-- that the rule makes. Assumes nothing.
use Prim.Native.Nat.{ℕ, ◌*◌, ◌<◌}
use mathlib.Core.Path.{◌≡◌, refl, sym, ap, ◌∙◌, subst}
use mathlib.Core.List.{List, [], ◌∷◌, Memᴰ}
use mathlib.Core.Option.{some}
use native.Mathlib.Omega.{arith}
use lib.ListN.{length, get_or, set, drop}
use Rattle.std.specs.Prelude.{Some, None}
use Rattle.model.specs.declared.groups.Group.{Group}
use Rattle.model.specs.Numbers.{page_bytes, zone_pages, most_pages}
use Rattle.model.specs.declared.Answer.TheVariants.{Granted}
use Rattle.model.specs.Arena.{Segment, zone}
use Rattle.model.specs.Zone.{Zone, new_zone}
use Rattle.model.specs.State.{State, list_of, arranged, put_zone}
use Rattle.model.specs.Pages.{carve}
use Rattle.model.specs.Valid.{Valid}
use Rattle.model.specs.Calls.{Outcome}
use Rattle.model.specs.Allocate.{sought, opened, zone_from, from_spare, chunk_from}
use Rattle.model.proofs.Trimmed.{trimmed-empty}
use Rattle.model.proofs.Sought.{sought-from}
use Rattle.model.proofs.ValidAllocate.{chunk-valid}
use Rattle.header.specs.Front.{front_of}
use Rattle.header.specs.Keys.{keys_of}
use Rattle.header.specs.Encoding.{list_slots}
use Rattle.header.proofs.Kept.{fits-spare-pop}
use Rattle.pages.specs.declared.Choice.{Choice}
use Rattle.pages.specs.declared.Run.{Run}
use Rattle.metadata.specs.Encoding.{encode}
use Rattle.metadata.specs.Decoding.{decode}
use Rattle.steps.specs.Lent.{Encodes, ZoneHere, Good}
use Rattle.steps.specs.Moves.{fronted, spared, rezoned, carved}
use Rattle.steps.proofs.Lent.{lent-decoded}
use Rattle.steps.proofs.Kept.{had-room}
use Rattle.allocate.specs.Asked.{Asked}
use Rattle.allocate.specs.Finds.{Finds}
use Rattle.allocate.proofs.Sourced.{Sourced, sourced}
use Rattle.allocate.proofs.Found.{front-page, front-nothing}
use Rattle.steps.proofs.Zones.{zone-there}
use Rattle.allocate.proofs.Places.{Free, free}
use Rattle.allocate.proofs.Between.{follows, between}

module _ (group : Group) {w : List ℕ} {n c : ℕ} (h : Asked w n c) (empty : front_of (list_of (decode w) c) ≡ None) where
  abbrev g : ℕ
  g = group.number

  abbrev s : State
  s = decode w

  abbrev m : List (Segment Zone)
  m = s.segments

  abbrev new : Zone
  new = new_zone c g

  none_open : list_of s c ≡ []
  none_open = front-nothing (list_of s c) empty

  classes : {v : List ℕ} → Good v n → c < length (decode v).lists
  classes k = omega (arith, k.lent.fits.classes, h.class)

  result-valid : (o : Outcome State) → chunk_from c g s (list_of s c) ≡ o → Valid o.after
  result-valid o e = subst (λ x. Valid x.after) e (chunk-valid s h.good.valid g group.least group.most c h.class (list_of s c) refl)

  -- The new zone at page p goes onto its list. The state t, in which that list is empty, was laid anew: the segments are now m' and the
  -- empty list is sp. j runs were looked at.
  module _ (t : State) (bare : list_of t c ≡ []) (classes : c < length t.lists) (p : ℕ) (m' : List (Segment Zone)) (sp : List ℕ) {j : ℕ}
      (rule : chunk_from c g s (list_of s c) ≡ opened c t m' p sp j) (s₂ : State) (same : s₂.lists ≡ t.lists) {w₂ : List ℕ} (k : Encodes w₂ s₂) where
    list-room : length (keys_of (decode w₂).lists) < list_slots
    list-room =
        let ok : Valid (arranged t m' (set t.lists c (p ∷ list_of t c)) sp) = subst (λ l. Valid (arranged t m' (set t.lists c (p ∷ l)) sp)) (sym bare) (result-valid (opened c t m' p sp j) rule) in
        subst (λ x. length (keys_of x) < list_slots) (sym (ap (λ x. x.lists) (lent-decoded k) ∙ same)) (had-room t c p m' sp ok classes)

    list_put : s₂.segments ≡ m' → s₂.spare ≡ sp → {w₃ : List ℕ} → w₃ ≡ encode (fronted c p (decode w₂)) → w₃ ≡ encode (chunk_from c g s (list_of s c)).after
    list_put a b e =
        let ls = ap (λ ls. set ls c (p ∷ get_or ls c [])) same ∙ ap (λ l. set t.lists c (p ∷ l)) bare in
        follows (λ x. fronted c p x) k e ∙ (λ i. encode (record { segments = a i; lists = ls i; spare = b i })) ∙ ap (λ o. encode o.after) (sym rule)

  -- The first zone of the empty list ------------------------------------------------------------------------------------------------

  module _ {p : ℕ} (front : front_of s.spare ≡ Some p) where
    abbrev ps : List ℕ
    ps = (front-page s.spare p front).0

    spare-is : s.spare ≡ p ∷ ps
    spare-is = (front-page s.spare p front).1

    renew-rule : chunk_from c g s (list_of s c) ≡ opened c s (put_zone p new m) p ps 0
    renew-rule = ap (chunk_from c g s) none_open ∙ ap (from_spare c g s) spare-is

    on-spare : Memᴰ p s.spare
    on-spare = subst (Memᴰ p) (sym spare-is) (Memᴰ.head refl)

    pub renew-page : p < most_pages
    renew-page = h.good.lent.fits.spare-pages p on-spare

    pub renew-answer : Granted (p * page_bytes) 0 ≡ (chunk_from c g s (list_of s c)).answer
    renew-answer = ap (λ o. o.answer) (sym renew-rule)

    abbrev s₁ : State
    s₁ = spared (drop 1 s.spare) s

    module _ {w₁ : List ℕ} (e : w₁ ≡ encode (spared (drop 1 s.spare) s)) where
      pub behind-words : Encodes w₁ s₁
      behind-words = record { words = e; fits = fits-spare-pop h.good.lent.fits; sound = h.good.lent.sound }

      pub behind-zone : ZoneHere (decode w₁) p
      behind-zone = let f = h.good.valid.spared p on-spare in subst (λ x. ZoneHere x p) (sym (lent-decoded behind-words)) (zone-there m p f.0 f.1)

      module _ {w₂ : List ℕ} (e₂ : w₂ ≡ encode (rezoned p new (decode w₁))) where
        pub renewed-words : Encodes w₂ (rezoned p new s₁)
        renewed-words = between s₁ (opened c s (put_zone p new m) p ps 0).after behind-words.fits (result-valid (opened c s (put_zone p new m) p ps 0) renew-rule) (follows (λ x. rezoned p new x) behind-words e₂)

        pub renewed-room : length (keys_of (decode w₂).lists) < list_slots
        renewed-room = list-room s none_open (classes h.good) p (put_zone p new m) ps renew-rule (rezoned p new s₁) refl renewed-words

        pub renewed : {w₃ : List ℕ} → w₃ ≡ encode (fronted c p (decode w₂)) → w₃ ≡ encode (chunk_from c g s (list_of s c)).after
        renewed e₃ = list_put s none_open (classes h.good) p (put_zone p new m) ps renew-rule (rezoned p new s₁) refl renewed-words refl (ap (drop 1) spare-is) e₃

  -- Pages from the runs -------------------------------------------------------------------------------------------------------------

  module _ (bare : front_of s.spare ≡ None) where
    zone-rule : chunk_from c g s (list_of s c) ≡ (let l = sought zone_pages s in zone_from c g s l.looked l.chosen)
    zone-rule = ap (chunk_from c g s) none_open ∙ ap (from_spare c g s) (front-nothing s.spare bare)

    some-pages : 0 < zone_pages
    some-pages = omega arith

    module _ {v : List ℕ} {r : Choice} {f : Run} (told : r.run ≡ Some f) (e : Finds s (sought zone_pages s) r v) where
      from : Sourced h.good zone_pages v f.at f.len r.looked
      from = sourced h.good zone_pages told e

      abbrev t : State
      t = decode v

      abbrev m' : List (Segment Zone)
      m' = carve (record { page = f.at; size = f.len }) zone_pages (zone new) t.segments

      open-rule : chunk_from c g s (list_of s c) ≡ opened c t m' f.at t.spare r.looked
      open-rule =
          zone-rule ∙ ap (λ l. zone_from c g s l.looked l.chosen) from.is
          ∙ ap (λ x. zone_from c g s r.looked (some (record { state = from.source.state; free = x }))) from.free
          ∙ ap (λ u. opened c u (carve (record { page = f.at; size = f.len }) zone_pages (zone new) u.segments) f.at u.spare r.looked) (sym from.decoded)

      -- The class's list is empty in the state that the pages are taken from, too.
      open-bare : list_of t c ≡ []
      open-bare =
          ap (λ u. list_of u c) from.decoded
          ∙ (sought-from zone_pages s from.source (ap (λ l. l.chosen) from.is)).either (λ u. list_of u c ≡ []) none_open (trimmed-empty s c none_open)

      pub open-good : Good v n
      open-good = from.good

      pub open_free : Free t.segments zone_pages f.at f.len
      open_free = free t.segments zone_pages f.at f.len some-pages from.claimed

      pub open-page : f.at < most_pages
      open-page = omega (arith, open_free.inside, open_free.enough, open-good.lent.fits.most)

      pub open-answer : Granted (f.at * page_bytes) r.looked ≡ (chunk_from c g s (list_of s c)).answer
      open-answer = ap (λ o. o.answer) (sym open-rule)

      abbrev t₁ : State
      t₁ = carved (record { page = f.at; size = f.len }) zone_pages (zone new) t

      module _ {w₁ : List ℕ} (y : w₁ ≡ encode (carved (record { page = f.at; size = f.len }) zone_pages (zone new) (decode v))) where
        pub open-words : Encodes w₁ t₁
        open-words = between t (opened c t m' f.at t.spare r.looked).after open-good.lent.fits (result-valid (opened c t m' f.at t.spare r.looked) open-rule) y

        pub open-room : length (keys_of (decode w₁).lists) < list_slots
        open-room = list-room t open-bare (classes open-good) f.at m' t.spare open-rule t₁ refl open-words

        pub opened-words : {w₂ : List ℕ} → w₂ ≡ encode (fronted c f.at (decode w₁)) → w₂ ≡ encode (chunk_from c g s (list_of s c)).after
        opened-words e₂ = list_put t open-bare (classes open-good) f.at m' t.spare open-rule t₁ refl open-words refl refl e₂

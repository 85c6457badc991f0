-- The walk of a reset: over the segments, and over the chunks of a zone. Assumes nothing.
use Prim.Native.Nat.{ℕ, ◌+◌, ◌*◌, ◌≤◌, ◌<◌}
use mathlib.Core.Path.{◌≡◌, refl, sym, ap, ◌∙◌, subst}
use mathlib.Core.List.{List, [], ◌∷◌, ◌++◌, append_assoc}
use mathlib.Core.Bool.{Bool, true, false}
use native.Mathlib.Omega.{arith}
use native.Mathlib.Nat.{mul-div_cancel, mul-mod_left}
use lib.ListN.{length, get_or, length-set}
use borrow.Author.Tests.{eq-eqb}
use Rattle.std.specs.Prelude.{Some}
use Rattle.model.specs.Numbers.{zone_pages, most_bytes, page_bytes}
use Rattle.model.specs.Sizes.{room, chunks}
use Rattle.model.specs.Arena.{Segment, direct, zone, pages, total}
use Rattle.model.specs.Zone.{Zone, touched, put_back}
use Rattle.model.specs.State.{State, zone_at, put_zone}
use Rattle.model.specs.PageMap.{page_map, chunk_of, block_at}
use Rattle.model.specs.Valid.{ValidZone, Valid}
use Rattle.model.specs.Pages.{release}
use Rattle.model.specs.Free.{chunk_back, freed_if, freed_all, offsets_of}
use Rattle.model.proofs.Arena.{total-append}
use Rattle.model.proofs.Moves.{put-size, put-apart, put-sound}
use Rattle.model.proofs.Sizes.{room-pos, chunk-begins}
use Rattle.model.proofs.Zones.{owned-touched, put_back-valid}
use Rattle.model.proofs.ValidFree.{freed-valid}
use Rattle.model.proofs.Blocks.{live-chunk}
use Rattle.pages.proofs.Laws.{each_right}
use Rattle.pages.specs.Places.{run_pages, Stands}
use Rattle.pages.proofs.Walk.{run-at-end}
use Rattle.pages.proofs.Middle.{edit-stands}
use Rattle.metadata.specs.Encoding.{encode}
use Rattle.metadata.specs.Decoding.{decode}
use Rattle.steps.specs.Lent.{Good}
use Rattle.steps.specs.Moves.{released}
use Rattle.steps.proofs.Body.{release-total}
use Rattle.steps.proofs.Kept.{good_of, good-decoded, put-stands, put-zone-at}
use Rattle.blocks.specs.declared.Block.TheVariants.{Whole, Chunk}
use Rattle.blocks.specs.Places.{Tells}
use Rattle.steps.proofs.Zones.{zone-begins, zone-is, zone-valid}
use Rattle.blocks.proofs.Standing.{block_here, group-shown, found-whole}
use Rattle.free.specs.Back.{LiveChunk, Remains}
use Rattle.free.proofs.Live.{back-valid}
use Rattle.free.proofs.Answers.{whole-freed, chunk-freed}
use Rattle.reset.specs.Sweep.{offsets_at, offsets_in, Sweep, InZone}
use Rattle.reset.proofs.Offsets.{at-direct, in-skip, in_take, in-back, in-past, in-idle, few-offsets}
use Rattle.pages.proofs.Given.{Joined}
use Rattle.reset.proofs.Behind.{joined-run}

-- A reset counts no more blocks than the arena has bytes.
pub few-in-all : {w : List ℕ} {n : ℕ} (g : ℕ) → Good w n → length (offsets_of g (decode w)) ≤ most_bytes
few-in-all {w} {n} g h = omega (arith, few-offsets g 0 (decode w).segments h.valid.sound)

-- Behind the last page everything has.
pub sweep-end : {g c n p b k : ℕ} {t : State} {w : List ℕ} → Sweep g t c w n p b k → n ≤ p → (k ≡ c) × (w ≡ encode t)
sweep-end {g} {c} {n} {p} {b} {k} {t} {w} i h = go i.left refl
  where
    go : (l : List (Segment Zone)) → i.left ≡ l → (k ≡ c) × (w ≡ encode t)
    go [] e = (omega (arith, ap (λ x. length (offsets_at g p x)) e), cc)
    go (x ∷ r) e = absurd (omega (arith, ap (λ l. total l) i.whole, total-append i.before i.left, ap (λ l. total l) e, positive x r e))
      where
        positive : (x : Segment Zone) (r : List (Segment Zone)) → i.left ≡ x ∷ r → 0 < pages x
        positive x r e = (each_right i.before (x ∷ r) (rw (i.whole ∙ ap (λ l. i.before ++ l) e) at i.good.lent.sound)).0.0

-- The segment at the walk's page.
pub record Here {g c n p b k : ℕ} {t : State} {w : List ℕ} (i : Sweep g t c w n p b k) : Type 0 where
  pub x : Segment Zone
  pub rest : List (Segment Zone)
  pub left_is : i.left ≡ x ∷ rest

module _ {g c n p b k : ℕ} {t : State} {w : List ℕ} (i : Sweep g t c w n p b k) where
  pub here : p < n → Here i
  here h = go i.left refl
    where
      go : (l : List (Segment Zone)) → i.left ≡ l → Here i
      go [] e = absurd (omega (arith, ap (λ l. total l) i.whole, total-append i.before i.left, ap (λ l. total l) e))
      go (x ∷ r) e = record { x = x; rest = r; left_is = e }

  abbrev pub here-stands : (h : Here i) → Stands (decode w).segments p b h.x
  here-stands h = record { before = i.before; behind = h.rest; whole = i.whole ∙ ap (λ l. i.before ++ l) h.left_is; starts = i.starts; ends = i.ends }

  here-rest : (h : Here i) → freed_all (offsets_at g p (h.x ∷ h.rest)) (decode w) ≡ t
  here-rest h = cc

  here-counted : (h : Here i) → k + length (offsets_at g p (h.x ∷ h.rest)) ≡ c
  here-counted h = cc

  -- A segment that holds no block of the group.
  pub sweep-past : (h : Here i) → offsets_at g p (h.x ∷ h.rest) ≡ offsets_at g (p + pages h.x) h.rest → (len next before j : ℕ) → len ≡ pages h.x → next ≡ p + len
      → before ≡ run_pages h.x → j ≡ k → Sweep g t c w n next before j
  sweep-past h e len next before j el en eb ej = record {
    good = i.good;
    before = i.before ++ (h.x ∷ []);
    left = h.rest;
    whole = cc (append_assoc i.before (h.x ∷ []) h.rest);
    starts = omega (arith, total-append i.before (h.x ∷ []));
    ends = run-at-end 0 i.before h.x ∙ sym eb;
    rest = cc (here-rest h);
    counted = (λ y. ej y + length (offsets_at g (at y) h.rest)) ∙ ap (λ l. k + length l) (sym e) ∙ here-counted h;
  }
    where
      at : next ≡ p + pages h.x
      at = omega arith

-- The state of the words w once chunk i of the zone at page p has come back, and what has become of the zone.
abbrev pub returned : List ℕ → ℕ → ℕ → State
returned w p i = chunk_back (zone_at p (decode w).segments).class i p (zone_at p (decode w).segments) (decode w)

abbrev pub Rests : Bool → List ℕ → ℕ → ℕ → Type 0
Rests y w p i = Remains y i p (zone_at p (decode w).segments) (decode w) (returned w p i)

-- The chunks of a zone ------------------------------------------------------------------------------------------------------------

-- The live chunk i is a block of its group.
pub chunk-told : (s : State) → Valid s → {p b : ℕ} (i g : ℕ) (z : Zone) → Stands s.segments p b (zone z) → get_or z.owners i 0 ≡ g → 0 < g → Tells s (p * page_bytes + i * room z.class) (Some (Chunk (record { at = p; before = b }) z.class i g))
chunk-told s v {p} {b} i g z st e h =
    let ok = zone-valid s p b z st v in
    let low : i < chunks z.class = omega (arith, owned-touched z.owners i (omega (arith, e))) in
    let block : block_at (page_map s) (p * page_bytes + i * room z.class) ≡ chunk_of z.class i g =
    block_here s st _ (i * room z.class) refl (chunk-begins z.class i low)
    ∙ rw (eq-eqb _ 0 (mul-mod_left i (room z.class)))
    (cc (mul-div_cancel i (room-pos z.class), group-shown z ok i)) in
    (block ∙ live-chunk z.class i g h, (z, st, refl, e), refl)

module _ {g c n p b i k : ℕ} {t : State} {w : List ℕ} (h : InZone g t c w n p b i k) where
  abbrev s : State
  s = decode w

  abbrev z : Zone
  z = h.z

  abbrev tail : List ℕ
  tail = offsets_at g (p + zone_pages) h.stands.behind

  ok : ValidZone z
  ok = zone-valid s p b z h.stands h.good.valid

  inside : i < touched z → i < chunks z.class
  inside l = omega (arith, ok.fits)

  -- A chunk that is not the group's.
  pub zone-skip : i < touched h.z → (get_or h.z.owners i 0 ≡ g → ⊥) → InZone g t c w n p b (i + 1) k
  zone-skip l f = let e = in-skip g p i z ok (inside l) f in record {
    good = h.good;
    z = z;
    stands = h.stands;
    rest = cc;
    counted = cc;
  }

  -- Behind the last chunk.
  pub zone-done : 0 < g → touched h.z ≤ i → (next before j : ℕ) → next ≡ p + zone_pages → before ≡ 0 → j ≡ k → Sweep g t c w n next before j
  zone-done pos l next before j en eb ej = let e = in-past g p i z pos l in record {
    good = h.good;
    before = h.stands.before ++ (zone z ∷ []);
    left = h.stands.behind;
    whole = cc (append_assoc h.stands.before (zone z ∷ []) h.stands.behind);
    starts = omega (arith, total-append h.stands.before (zone z ∷ []));
    ends = run-at-end 0 h.stands.before (zone z) ∙ sym eb;
    rest = cc;
    counted = (λ y. ej y + length (offsets_at g (en y) h.stands.behind)) ∙ ap (λ x. k + length (x ++ tail)) (sym e) ∙ h.counted;
  }

  -- A chunk of the group comes back.
  module _ (pos : 0 < g) (mine : get_or h.z.owners i 0 ≡ g) where
    zone-live : LiveChunk (decode w) p b i
    zone-live = record { z = z; stands = h.stands; live = omega arith }

    is : zone_at p s.segments ≡ z
    is = zone-is s p b z h.stands

    taken : offsets_in g p i z ≡ (p * page_bytes + i * room z.class) ∷ offsets_in g p (i + 1) z
    taken = in_take g p i z ok (inside (owned-touched z.owners i (omega arith))) mine

    told : Tells s (p * page_bytes + i * room z.class) (Some (Chunk (record { at = p; before = b }) z.class i g))
    told = chunk-told s h.good.valid i g z h.stands mine pos

    abbrev s' : State
    s' = returned w p i

    after : freed_all (offsets_in g p (i + 1) z ++ tail) s' ≡ t
    after =
        ap (freed_all (offsets_in g p (i + 1) z ++ tail)) (sym (chunk-freed s z.class i told))
        ∙ ap (λ y. freed_all (offsets_in g p (i + 1) z ++ tail) (freed_if (p * page_bytes + i * room z.class) y s)) (sym told.0)
        ∙ ap (λ x. freed_all (x ++ tail) s) (sym taken)
        ∙ h.rest

    left : k + 1 + length (offsets_in g p (i + 1) z ++ tail) ≡ c
    left = omega (arith, ap (λ x. length (x ++ tail)) taken)

    -- The zone with the chunk on its chain.
    put : Stands (put_zone p (put_back i z) s.segments) p b (zone (put_back i z))
    put = put-stands _ h.stands

    put_whole : put_zone p (put_back i z) s.segments ≡ h.stands.before ++ (zone (put_back i z) ∷ h.stands.behind)
    put_whole = edit-stands h.stands (λ _. zone (put_back i z) ∷ []) (omega arith)

    put-total : total (put_zone p (put_back i z) s.segments) ≡ total s.segments
    put-total = put-size s.segments p z _ (zone-begins s p b z h.stands)

    same-zone : put_zone p (put_back i (zone_at p s.segments)) s.segments ≡ put_zone p (put_back i z) s.segments
    same-zone = cc is

    module _ {v : List ℕ} (e : v ≡ encode (returned w p i)) where
      valid : Valid s'
      valid = back-valid h.good zone-live

      good : total s'.segments ≡ total (decode w).segments → Good v n
      good size = good_of v s' n valid e (cc)

      decoded : decode v ≡ s'
      decoded = good-decoded v s' valid e

      -- The zone stands.
      pub zone-stays : Rests true w p i → InZone g t c v n p b (i + 1) (k + 1)
      zone-stays m = let as-put : s'.segments ≡ put_zone p (put_back i z) s.segments = m ∙ same-zone in record {
        good = good (rw as-put put-total);
        z = put_back i z;
        stands = record { before = h.stands.before; behind = h.stands.behind; whole = cc (decoded, as-put, put_whole); starts = h.stands.starts; ends = h.stands.ends };
        rest = (λ j. freed_all (sym (in-back g p i z ok) j ++ tail) (decoded j)) ∙ after;
        counted = cc (in-back g p i z ok, left);
      }

      -- It has handed out as many chunks as before.
      pub stays-touched : Rests true w p i → touched (zone_at p (decode v).segments) ≡ touched (zone_at p (decode w).segments)
      stays-touched m =
          cc (decoded, m, same-zone, put-zone-at s.segments p z (put_back i z) (zone-begins s p b z h.stands), length-set z.owners i 0, is)

      -- Its pages have come back.
      module _ (m : Rests false w p i) where
        freed-as : s'.segments ≡ release (p * page_bytes) (put_zone p (put_back i z) s.segments)
        freed-as = cc (m.0, same-zone)

        size : total s'.segments ≡ total s.segments
        size = cc (freed-as, release-total put (omega arith), put-total)

        pub gone-good : Good v n
        gone-good = good size

        pub gone-segments : (decode v).segments ≡ release (p * page_bytes) (put_zone p (put_back i h.z) (decode w).segments)
        gone-segments = rw decoded freed-as

        pub gone-joined : Joined (put_zone p (put_back i h.z) (decode w).segments) p b zone_pages h.stands.behind
        gone-joined =
            joined-run _ p b _
            (put-apart s.segments p z _ (zone-begins s p b z h.stands) h.good.valid.apart)
            (put-sound s.segments p z _ (zone-begins s p b z h.stands) (put_back-valid i z ok (omega arith)) h.good.valid.sound)
            (omega (arith, put-total))
            (record { before = h.stands.before; behind = h.stands.behind; whole = put_whole; starts = h.stands.starts; ends = h.stands.ends })
            refl

        none_left : offsets_in g p (i + 1) z ≡ []
        none_left = in-back g p i z ok ∙ in-idle g p (i + 1) (put_back i z) pos (cc (is, m.1))

        pub gone-rest : freed_all (offsets_at g (p + zone_pages) h.stands.behind) (decode v) ≡ t
        gone-rest = cc (decoded, none_left, after)

        pub gone-counted : k + 1 + length (offsets_at g (p + zone_pages) h.stands.behind) ≡ c
        gone-counted = cc (none_left, left)

-- A direct block ------------------------------------------------------------------------------------------------------------------

module _ {g c n p b k len : ℕ} {t : State} {w : List ℕ} (i : Sweep g t c w n p b k) (behind : List (Segment Zone)) (is : i.left ≡ direct len g ∷ behind) {v : List ℕ} (e : v ≡ encode (released p (decode w))) where
  abbrev block : Stands (decode w).segments p b (direct len g)
  block = record { before = i.before; behind = behind; whole = i.whole ∙ ap (λ l. i.before ++ l) is; starts = i.starts; ends = i.ends }

  some-pages : 0 < len
  some-pages = (each_right i.before _ (rw (i.whole ∙ ap (λ l. i.before ++ l) is) at i.good.lent.sound)).0.0

  block-told : Tells (decode w) (p * page_bytes) (Some (Whole (record { at = p; before = b }) len g))
  block-told = found-whole (decode w) block (p * page_bytes) refl some-pages

  valid-after : Valid (released p (decode w))
  valid-after = subst Valid (whole-freed (decode w) len block-told) (freed-valid (decode w) i.good.valid (p * page_bytes) _ block-told.0)

  block-decoded : decode v ≡ released p (decode w)
  block-decoded = good-decoded v _ valid-after e

  pub block-good : Good v n
  block-good = good_of v _ n valid-after e (cc (release-total block some-pages))

  pub block-segments : (decode v).segments ≡ release (p * page_bytes) (decode w).segments
  block-segments = cc block-decoded

  pub block-joined : Joined (decode w).segments p b len behind
  block-joined = joined-run _ p b _ i.good.valid.apart i.good.valid.sound i.good.valid.most block refl

  all-offsets : offsets_at g p i.left ≡ (p * page_bytes) ∷ offsets_at g (p + len) behind
  all-offsets = cc (at-direct g p behind len)

  pub block-rest : freed_all (offsets_at g (p + len) behind) (decode v) ≡ t
  block-rest =
      cc (block-decoded, whole-freed (decode w) len block-told, block-told.0, all-offsets, i.rest)

  pub block-counted : k + 1 + length (offsets_at g (p + len) behind) ≡ c
  block-counted = omega (arith, ap (λ l. length l) all-offsets)

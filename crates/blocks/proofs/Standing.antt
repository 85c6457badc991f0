-- The live block at a byte, told from the segment that stands there. Assumes nothing.
use Prim.Native.Nat.{ℕ, ◌+◌, ◌*◌, ◌/◌, ◌%◌, ◌≤◌, ◌<◌}
use mathlib.Core.Path.{◌≡◌, refl, sym, ap, ◌∙◌}
use mathlib.Core.Option.{none, some}
use native.Mathlib.Omega.{arith}
use native.Mathlib.Nat.{div-add-mod'}
use lib.Dec.{ltb, eqb}
use lib.ListN.{get_or, get_or-eq_default}
use borrow.Author.Tests.{ltb-true, ltb-false, eqb-true, eqb-false, eq-eqb, ne_eqb}
use Rattle.std.specs.Prelude.{Some, None}
use Rattle.lemmas.proofs.Cases.{bool}
use Rattle.model.specs.Numbers.{page_bytes, zone_bytes}
use Rattle.model.specs.Sizes.{room, chunks}
use Rattle.model.specs.Arena.{Segment, run, direct, zone, bytes, total, retold}
use Rattle.model.specs.Zone.{Zone}
use Rattle.model.specs.State.{State, zone_at}
use Rattle.model.specs.PageMap.{padded, occupancy, page_map, chunk, chunk_of, block_in, block_there, block_at}
use Rattle.model.specs.Valid.{ValidZone, Valid}
use Rattle.model.proofs.Arena.{locate-past, retold_place, locate-retold, total-retold}
use Rattle.model.proofs.Sizes.{room-pos}
use Rattle.model.proofs.Blocks.{padded-in, padded-length}
use Rattle.model.proofs.Blocks.{live-chunk}
use Rattle.pages.specs.Places.{Stands}
use Rattle.pages.proofs.Spots.{stands-locate}
use Rattle.steps.proofs.Zones.{zone-is, zone-valid}
use Rattle.blocks.specs.declared.Block.TheVariants.{Whole, Chunk}
use Rattle.blocks.specs.Places.{Tells}

-- The block d bytes behind the start of a segment.
pub block_here : (s : State) {p b : ℕ} {x : Segment Zone} → Stands s.segments p b x → (o d : ℕ) → o ≡ p * page_bytes + d → d < bytes x → block_at (page_map s) o ≡ block_in d (retold occupancy x)
block_here s {p} {b} {x} t o d e h = ap block_there (locate-retold occupancy o s.segments) ∙ ap (λ a. block_there (retold_place occupancy a)) (stands-locate t o d e h)

pub block-past : (s : State) (o : ℕ) → total s.segments * page_bytes ≤ o → block_at (page_map s) o ≡ none
block-past s o h = ap block_there (locate-past (page_map s) o (omega (arith, total-retold occupancy s.segments)))

-- A chunk's group, as the page map shows it.
pub group-shown : (z : Zone) → ValidZone z → (i : ℕ) → get_or (padded (chunks z.class) z.owners) i 0 ≡ get_or z.owners i 0
group-shown z v i = bool (ltb i (chunks z.class))
    (λ t. padded-in (chunks z.class) z.owners i (ltb-true i (chunks z.class) t))
    (λ f.
    let h = ltb-false i (chunks z.class) f in
    get_or-eq_default (padded (chunks z.class) z.owners) 0 (omega (arith, padded-length (chunks z.class) z.owners))
    ∙ sym (get_or-eq_default z.owners 0 (omega (arith, v.fits))))

-- The chunk d bytes behind the start of a zone: none where no chunk begins or the chunk is not live.
module _ (s : State) (v : Valid s) {p b : ℕ} (z : Zone) (t : Stands s.segments p b (zone z)) (d : ℕ) (h : d < zone_bytes) where
  here : block_at (page_map s) (p * page_bytes + d) ≡ block_in d (zone (occupancy z))
  here = block_here s t (p * page_bytes + d) d refl h

  chunk-off : (d % room z.class ≡ 0 → ⊥) → block_at (page_map s) (p * page_bytes + d) ≡ none
  chunk-off f = here ∙ rw (ne_eqb (d % room z.class) 0 f)

  module _ (e : d % room z.class ≡ 0) where
    there : block_at (page_map s) (p * page_bytes + d) ≡ chunk_of z.class (d / room z.class) (get_or z.owners (d / room z.class) 0)
    there = here ∙ rw (eq-eqb (d % room z.class) 0 e) (ap (chunk_of z.class (d / room z.class)) (group-shown z (zone-valid s p b z t v) (d / room z.class)))

    chunk-dead : get_or z.owners (d / room z.class) 0 ≡ 0 → block_at (page_map s) (p * page_bytes + d) ≡ none
    chunk-dead g = there ∙ ap (chunk_of z.class (d / room z.class)) g

    chunk-live : 0 < get_or z.owners (d / room z.class) 0 → block_at (page_map s) (p * page_bytes + d) ≡ some (chunk z.class (d / room z.class) (get_or z.owners (d / room z.class) 0))
    chunk-live g = there ∙ live-chunk z.class (d / room z.class) (get_or z.owners (d / room z.class) 0) g

    chunk-starts : d / room z.class * room z.class ≡ d
    chunk-starts = let a = room-pos z.class in omega (arith, div-add-mod' d (room z.class))

-- The same as the code has it: with the class c, the chunk size r and the group g that it has read.
module _ (s : State) (v : Valid s) {p b : ℕ} (z : Zone) (t : Stands s.segments p b (zone z)) (d : ℕ) (h : d < zone_bytes) (c r : ℕ) (ec : c ≡ (zone_at p s.segments).class) (er : r ≡ room c) where
  class-is : c ≡ z.class
  class-is = ec ∙ ap (λ y. y.class) (zone-is s p b z t)

  room-is : r ≡ room z.class
  room-is = er ∙ ap room class-is

  pub found-off : (d % r ≡ 0 → ⊥) → Tells s (p * page_bytes + d) None
  found-off f = chunk-off s v z t d h (λ e. f (ap (λ k. d % k) room-is ∙ e))

  whole_is : d % r ≡ 0 → d % room z.class ≡ 0
  whole_is e = ap (λ k. d % k) (sym room-is) ∙ e

  module _ (g : ℕ) (eg : g ≡ get_or (zone_at p s.segments).owners (d / r) 0) where
    group-is : get_or z.owners (d / room z.class) 0 ≡ g
    group-is = (λ i. get_or ((sym (zone-is s p b z t)) i).owners (d / (sym room-is) i) 0) ∙ sym eg

    -- The chunk that holds the byte is not live: no block begins there, whether or not the chunk does.
    pub found-dead : g ≡ 0 → Tells s (p * page_bytes + d) None
    found-dead f = bool (eqb (d % r) 0)
        (λ u. chunk-dead s v z t d h (whole_is (eqb-true (d % r) 0 u)) (group-is ∙ f))
        (λ u. found-off (eqb-false (d % r) 0 u))

    pub found-live : d % r ≡ 0 → (g ≡ 0 → ⊥) → Tells s (p * page_bytes + d) (Some (Chunk (record { at = p; before = b }) c (d / r) g))
    found-live e f =
        let live : 0 < get_or z.owners (d / room z.class) 0 = omega (arith, group-is, bool (ltb 0 g) (λ u. ltb-true 0 g u) (λ u. absurd (f (omega (arith, ltb-false 0 g u))))) in (
          chunk-live s v z t d h (whole_is e) live ∙ (λ i. some (chunk ((sym class-is) i) (d / (sym room-is) i) (group-is i))),
          (z, t, sym class-is, ap (λ k. get_or z.owners (d / k) 0) room-is ∙ group-is),
          ap (λ k. p * page_bytes + k) ((λ i. d / room-is i * room (class-is i)) ∙ chunk-starts s v z t d h (whole_is e)),
        )

-- A direct block begins at its segment's first byte.
pub found-whole : (s : State) {p b k g : ℕ} (t : Stands s.segments p b (direct k g)) (o : ℕ) → o ≡ p * page_bytes → 0 < k → Tells s o (Some (Whole (record { at = p; before = b }) k g))
found-whole s {p} {b} {k} {g} t o e h = (block_here s t o 0 (omega arith) (omega arith), t, sym e)

pub whole-off : (s : State) {p b k g : ℕ} (t : Stands s.segments p b (direct k g)) (o d : ℕ) → o ≡ p * page_bytes + d → d < k * page_bytes → (d ≡ 0 → ⊥) → block_at (page_map s) o ≡ none
whole-off s {p} {b} {k} {g} t o d e h f = block_here s t o d e h ∙ rw (ne_eqb d 0 f)

pub run_none : (s : State) {p b k : ℕ} (t : Stands s.segments p b (run k)) (o d : ℕ) → o ≡ p * page_bytes + d → d < k * page_bytes → block_at (page_map s) o ≡ none
run_none s {p} {b} {k} t o d e h = block_here s t o d e h

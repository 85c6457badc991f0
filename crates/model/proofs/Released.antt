-- What stands where a live block begins, and what pages that come back and pages that are taken do to the blocks of a page map.
-- Assumes nothing.
use Prim.Native.Nat.{ℕ, zero, suc, ◌+◌, ◌*◌, ◌/◌, ◌%◌, ◌<◌}
use mathlib.Core.Path.{◌≡◌, refl, sym, ◌∙◌, ap}
use mathlib.Core.List.{List, [], ◌∷◌}
use mathlib.Core.Option.{Option, none, some}
use mathlib.Core.Bool.{Bool, true, false, cond}
use native.Mathlib.Omega.{arith}
use native.Mathlib.Nat.{div-add-mod'}
use lib.Dec.{eqb}
use lib.ListN.{get_or}
use borrow.Author.Tests.{eqb-true, ne_eqb}
use Rattle.lemmas.proofs.Cases.{bool, clash, none-some}
use Rattle.model.specs.Numbers.{page_bytes, zone_bytes, zone_pages}
use Rattle.model.specs.Sizes.{room}
use Rattle.model.specs.Arena.{Segment, run, direct, zone, Place, locate, edit}
use Rattle.model.specs.PageMap.{Occupancy, PageMap, idle, Block, whole, chunk, chunk_of, block_in, block_there, block_at}
use Rattle.model.specs.Pages.{FreeRun, claim, joined, free_pages, release}
use Rattle.model.proofs.Blocks.{rejoined-blocks, edited, one_block, Only, Still, block_in-at, idle-still}
use Rattle.model.proofs.Claim.{claim-found}
use Rattle.model.proofs.Joins.{total-joined}

-- The converse: what stands where a block begins.
pub begins : (x : Option (Place Occupancy)) (b : Block) → block_there x ≡ some b → (pl : Place Occupancy) × (x ≡ some pl) × (block_in pl.away pl.segment ≡ some b)
begins none b e = none-some e
begins (some pl) b e = (pl, refl, e)

pub whole-there : (n g d : ℕ) (x : Segment Occupancy) → block_in d x ≡ some (whole n g) → (x ≡ direct n g) × (d ≡ 0)
whole-there n g d (run k) e = none-some e
whole-there n g d (direct k h) e = bool (eqb d 0)
    (λ t. let u : some (whole k h) ≡ some (whole n g) = rw t at e in let p : k ≡ n = cc in let q : h ≡ g = cc in (cc, eqb-true d 0 t))
    (λ t. none-some (rw t at e))
whole-there n g d (zone l) e = absurd (no_whole _ (get_or l.groups (d / room l.class) 0) (eqb (d % room l.class) 0) e)
  where
    no_whole : (i k : ℕ) (b : Bool) → cond b (chunk_of l.class i k) none ≡ some (whole n g) → ⊥
    no_whole i zero true u = none-some u
    no_whole i (suc k) true u = clash (cc)
    no_whole i zero false u = none-some u
    no_whole i (suc k) false u = none-some u

pub record ChunkThere (c i g d : ℕ) (x : Segment Occupancy) : Type 0 where
  pub groups : List ℕ
  pub is-zone : x ≡ zone (record { class = c; groups = groups })
  pub at : d ≡ i * room c
  pub owner : get_or groups i 0 ≡ g
  pub live : 0 < g

chunk-parts : (c i g d j k : ℕ) (b : Bool) → cond b (chunk_of d j k) none ≡ some (chunk c i g) → (b ≡ true) × (d ≡ c) × (j ≡ i) × (k ≡ g) × (0 < k)
chunk-parts c i g d j zero true u = none-some u
chunk-parts c i g d j (suc k) true u = (refl, cc, cc, cc, omega arith)
chunk-parts c i g d j zero false u = none-some u
chunk-parts c i g d j (suc k) false u = none-some u

pub chunk-there : (c i g d : ℕ) (x : Segment Occupancy) → block_in d x ≡ some (chunk c i g) → ChunkThere c i g d x
chunk-there c i g d (run k) e = none-some e
chunk-there c i g d (direct k h) e = bool (eqb d 0)
    (λ t. let u : some (whole k h) ≡ some (chunk c i g) = rw t at e in clash (cc))
    (λ t. none-some (rw t at e))
chunk-there c i g d (zone l) e =
    let f = chunk-parts c i g l.class _ (get_or l.groups (d / room l.class) 0) (eqb (d % room l.class) 0) e in
    record {
      groups = l.groups;
      is-zone = ap (λ k. zone (record { class = k; groups = l.groups })) f.1;
      at = sym (div-add-mod' d (room l.class)) ∙ omega (arith, eqb-true) ∙ ap (λ k. k * room l.class) f.2 ∙ ap (λ k. i * room k) f.1;
      owner = cc;
      live = omega arith;
    }

-- Pages that come back.
pub still-only : (m m₁ m₂ : PageMap) (o : ℕ) (v : Option Block) → Only m m₁ o v → Still m₁ m₂ → Only m m₂ o v
still-only m m₁ m₂ o v a b = (b.0 o ∙ a.0, λ q ne. b.0 q ∙ a.1 q ne, b.1 ∙ a.2)

rejoined-still : (m : PageMap) → Still m (joined (λ _. false) 0 m)
rejoined-still m = (rejoined-blocks m, omega (arith, total-joined (λ _. false) 0 m))

pub release-only : (o : ℕ) (m : PageMap) (n g : ℕ) → locate o m ≡ some (record { away = 0; segment = direct n g }) → Only m (release o m) o none
release-only o m n g e =
    let E = edited o free_pages m e (omega arith) in
    still-only m (edit o free_pages m) (release o m) o none (
      cc (E.now 0 E.inside, one_block (run n) 0 E.inside),
      λ q ne. E.rest (λ j. j ≡ o → ⊥) (λ d l j. one_block (run n) d l ∙ sym (rw (ne_eqb d 0 (λ z. j (omega arith))))) q ne,
      E.size,
    )
    (rejoined-still (edit o free_pages m))

pub release-still : (o : ℕ) (m : PageMap) (d : ℕ) (l : Occupancy) → locate o m ≡ some (record { away = d; segment = zone l }) → idle l ≡ true → Still m (release o m)
release-still o m d l e i =
    let a = idle-still o free_pages m d l e i refl (λ k h. one_block (run zone_pages) k h) in
    let b = rejoined-still (edit o free_pages m) in
    (λ q. b.0 q ∙ a.0 q, b.1 ∙ a.1)

-- Nothing began there before.
pub put-fresh : (o : ℕ) (m : PageMap) (x₀ : Segment Occupancy) → locate o m ≡ some (record { away = 0; segment = x₀ }) → ((d : ℕ) → block_in d x₀ ≡ none) → block_at m o ≡ none
put-fresh o m x₀ e bare = cc (bare 0)

pub carve-fresh : (m : PageMap) (h : FreeRun) (n : ℕ) → 0 < n → (claim n m).chosen ≡ some h → block_at m (h.page * page_bytes) ≡ none
carve-fresh m h n pos e = put-fresh _ m _ (claim-found n m h pos e).0 (λ d. refl)

pub chunk-fresh : (o : ℕ) (m : PageMap) (c i : ℕ) (l : List ℕ) → locate o m ≡ some (record { away = 0; segment = zone (record { class = c; groups = l }) }) → i * room c < zone_bytes → get_or l i 0 ≡ 0 → block_at m (o + i * room c) ≡ none
chunk-fresh o m c i l e h z =
    let E = edited o (λ x. x ∷ []) m e (omega arith) in
    ap (block_at m) (let q : o + i * room c ≡ E.base + i * room c = omega arith in q) ∙ E.was _ h ∙ block_in-at c i l ∙ ap (chunk_of c i) z

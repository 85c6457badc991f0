-- What becomes of a group's live blocks and held bytes at each call: a grant adds one block and its room to the figures of its group, a
-- return takes one block and its room away, a reset leaves its group nothing, and everything else leaves them. Assumes nothing.
use Prim.Native.Nat.{ℕ, ◌+◌, ◌*◌, ◌<◌}
use mathlib.Core.Path.{◌≡◌, refl, sym, ◌∙◌, ap}
use mathlib.Core.Option.{Option, none, some}
use mathlib.Core.Bool.{true, cond}
use native.Mathlib.Omega.{arith}
use lib.Dec.{eqb}
use borrow.Author.Tests.{eqb-true}
use Rattle.lemmas.proofs.Cases.{bool, true-false}
use Rattle.model.specs.declared.Refusal.{Refusal}
use Rattle.model.specs.declared.Answer.TheVariants.{Granted, Refused, Done}
use Rattle.model.specs.Numbers.{page_bytes}
use Rattle.model.specs.Sizes.{room_for}
use Rattle.model.specs.Arena.{total}
use Rattle.model.specs.State.{State}
use Rattle.model.specs.PageMap.{page_map, Block, group_of, room_of, block_at}
use Rattle.model.specs.Holdings.{figure_of, blocks_of, held_of}
use Rattle.model.specs.Valid.{Valid}
use Rattle.model.specs.Calls.{group_ok, is_refused}
use Rattle.model.specs.Allocate.{allocate}
use Rattle.model.specs.Free.{freed, free_block, free, freed_all, offsets_of, reset}
use Rattle.model.specs.Trim.{trimmed}
use Rattle.model.proofs.Blocks.{Only}
use Rattle.model.proofs.Trimmed.{trimmed-still}
use Rattle.model.proofs.Allocated.{Allocated, gives, denies, allocated, group-least}
use Rattle.model.proofs.Freed.{freed-only}
use Rattle.model.proofs.Reset.{reset-blocks}
use Rattle.model.proofs.ValidAllocate.{allocate-valid}
use Rattle.model.proofs.ValidFree.{freed-valid, reset-valid}
use Rattle.model.proofs.ValidTrim.{trimmed-valid}
use Rattle.model.proofs.Disjoint.{sized-map}
use Rattle.model.proofs.Sums.{Measure, by_one, by-room, share, begins-inside, figure-only, figure-still, figure-gone}

-- ---- a block more, a block less, for any figure

module _ (f : Measure) (h : ℕ) (pos : 0 < h) (s t : State) (v : Valid s) (u : Valid t) (o : ℕ) (b : Block) where
  pub block_more : block_at (page_map s) o ≡ none → Only (page_map s) (page_map t) o (some b) →
      figure_of f.each h (page_map t) ≡ figure_of f.each h (page_map s) + cond (eqb (group_of b) h) (f.worth b) 0
  block_more fresh only =
      let inside : o < total (page_map s) * page_bytes = omega (arith, begins-inside (page_map t) o b only.0, only.2) in
      let e = figure-only f h pos (page_map s) (page_map t) (sized-map s v) (sized-map t u) o (some b) inside only in
      omega (arith, e, ap (λ c. share f h pos c) fresh)

  pub block-less : block_at (page_map s) o ≡ some b → Only (page_map s) (page_map t) o none →
      figure_of f.each h (page_map t) + cond (eqb (group_of b) h) (f.worth b) 0 ≡ figure_of f.each h (page_map s)
  block-less there only =
      let inside = begins-inside (page_map s) o b there in
      let e = figure-only f h pos (page_map s) (page_map t) (sized-map s v) (sized-map t u) o none inside only in
      omega (arith, e, ap (λ c. share f h pos c) there)

-- ---- the two figures, call by call

-- The group h has in t as many blocks and bytes as in s, and b and r more.
pub record Gains (h : ℕ) (s t : State) (b r : ℕ) : Type 0 where
  pub blocks : blocks_of h (page_map t) ≡ blocks_of h (page_map s) + b
  pub held : held_of h (page_map t) ≡ held_of h (page_map s) + r

module _ (s : State) (v : Valid s) (h : ℕ) (pos : 0 < h) where
  -- A grant of n bytes to the group g.
  pub grant-gains : (c g n o k : ℕ) → (allocate c g n s).answer ≡ Granted o k → Gains h s (allocate c g n s).after (cond (eqb g h) 1 0) (cond (eqb g h) (room_for n) 0)
  grant-gains c g n o k e = go (allocated s v c g n)
    where
      go : Allocated s g (room_for n) (allocate c g n s) → Gains h s (allocate c g n s).after (cond (eqb g h) 1 0) (cond (eqb g h) (room_for n) 0)
      go (denies i j ans st) = true-false (ap is_refused ans) (ap is_refused e)
      go (gives q j b ans fresh grp rm only) =
          let u = allocate-valid s v c g n in record {
            blocks = block_more by_one h pos s (allocate c g n s).after v u q b fresh only ∙ ap (λ i. blocks_of h (page_map s) + cond (eqb i h) 1 0) grp;
            held = block_more by-room h pos s (allocate c g n s).after v u q b fresh only
                ∙ (λ i. held_of h (page_map s) + cond (eqb (grp i) h) (rm i) 0);
          }

  -- A return by the group g: there was a block of it, and the figures were by that much more.
  pub return-gains : (g o : ℕ) → (free g o s).answer ≡ Done →
      (b : Block) × (block_at (page_map s) o ≡ some b) × (group_of b ≡ g) × Gains h (free g o s).after s (cond (eqb g h) 1 0) (cond (eqb g h) (room_of b) 0)
  return-gains g o e = bool (group_ok g) (λ t. rw t (found (block_at (page_map s) o) refl (rw t at e))) (λ t. refused (rw t at e))
    where
      refused : {k : Refusal} {P : Type 0} → Refused k ≡ Done → P
      refused e = true-false (ap is_refused (sym e)) refl

      less : (b : Block) → block_at (page_map s) o ≡ some b → group_of b ≡ g → Gains h (freed o b s) s (cond (eqb g h) 1 0) (cond (eqb g h) (room_of b) 0)
      less b there own =
          let u = freed-valid s v o b there in
          let only = freed-only s o b there in record {
            blocks = sym (block-less by_one h pos s (freed o b s) v u o b there only) ∙ ap (λ i. blocks_of h (page_map (freed o b s)) + cond (eqb i h) 1 0) own;
            held = sym (block-less by-room h pos s (freed o b s) v u o b there only)
                ∙ ap (λ i. held_of h (page_map (freed o b s)) + cond (eqb i h) (room_of b) 0) own;
          }

      found : (x : Option Block) → block_at (page_map s) o ≡ x → (free_block g o s x).answer ≡ Done →
          (b : Block) × (x ≡ some b) × (group_of b ≡ g) × Gains h (free_block g o s x).after s (cond (eqb g h) 1 0) (cond (eqb g h) (room_of b) 0)
      found none there d = refused d
      found (some b) there d = bool (eqb (group_of b) g)
          (λ t. let own = eqb-true (group_of b) g t in (b, refl, own, rw t (less b there own)))
          (λ t. refused (rw t at d))

  -- A reset of the group g.
  pub reset-leaves : (g : ℕ) → group_ok g ≡ true →
      (blocks_of h (page_map (reset g s).after) ≡ cond (eqb g h) 0 (blocks_of h (page_map s))) × (held_of h (page_map (reset g s).after) ≡ cond (eqb g h) 0 (held_of h (page_map s)))
  reset-leaves g t =
      let r = reset-blocks g s (group-least g t) (sized-map s v) in
      let u : Valid (freed_all (offsets_of g s) s) = rw t at (reset-valid s v g) in
      let w = sized-map (freed_all (offsets_of g s) s) u in
      rw t (
        figure-gone by_one h pos (page_map s) (page_map (freed_all (offsets_of g s) s)) (sized-map s v) w g r.0 r.1,
        figure-gone by-room h pos (page_map s) (page_map (freed_all (offsets_of g s) s)) (sized-map s v) w g r.0 r.1,
      )

  -- A trim.
  pub trim-gains : Gains h s (trimmed s) 0 0
  trim-gains =
      let k = trimmed-still s in
      let w = sized-map (trimmed s) (trimmed-valid s v) in record {
        blocks = figure-still by_one h pos (page_map s) (page_map (trimmed s)) (sized-map s v) w k ∙ omega arith;
        held = figure-still by-room h pos (page_map s) (page_map (trimmed s)) (sized-map s v) w k ∙ omega arith;
      }

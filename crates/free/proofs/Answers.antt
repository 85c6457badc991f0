-- The answers to a return, by the tests that the code makes. Assumes nothing.
use Prim.Native.Nat.{ℕ, ◌-◌, ◌*◌, ◌/◌}
use mathlib.Core.Path.{◌≡◌, sym, ap, ◌∙◌}
use mathlib.Core.Bool.{true}
use mathlib.Core.Option.{some}
use native.Mathlib.Omega.{arith}
use borrow.Author.Tests.{eq-eqb, ne_eqb}
use Rattle.std.specs.Prelude.{Some}
use Rattle.model.specs.Numbers.{page_bytes}
use Rattle.model.specs.declared.Refusal.TheVariants.{OtherGroup}
use Rattle.model.specs.declared.Answer.TheVariants.{Done}
use Rattle.model.specs.Sizes.{room}
use Rattle.model.specs.State.{State, arranged, zone_at}
use Rattle.model.specs.PageMap.{page_map, whole, chunk, Block, group_of, block_at}
use Rattle.model.specs.Pages.{release}
use Rattle.model.specs.Calls.{refuses, answers, group_ok}
use Rattle.model.specs.Free.{chunk_back, freed, free}
use Rattle.steps.specs.Moves.{released}
use Rattle.blocks.specs.declared.Block.TheVariants.{Whole, Chunk}
use Rattle.blocks.specs.Places.{Tells}
use Rattle.steps.proofs.Zones.{zone-is}

module _ (s : State) (g o : ℕ) where
  module _ (ok : group_ok g ≡ true) where
    pub free_other : (b : Block) → block_at (page_map s) o ≡ some b → (group_of b ≡ g → ⊥) → free g o s ≡ refuses s OtherGroup
    free_other b e f = rw (ok, e, ne_eqb (group_of b) g f)

    pub free-done : (b : Block) → block_at (page_map s) o ≡ some b → group_of b ≡ g → free g o s ≡ answers (freed o b s) Done
    free-done b e f = rw (ok, e, eq-eqb (group_of b) g f)

-- The block that was found comes back.
module _ (s : State) {o p b g : ℕ} where
  pub whole-freed : (k : ℕ) → Tells s o (Some (Whole (record { at = p; before = b }) k g)) → freed o (whole k g) s ≡ released p s
  whole-freed k t = ap (λ q. arranged s (release q s.segments) s.lists s.spare) (sym t.2)

  module _ (c i : ℕ) (t : Tells s o (Some (Chunk (record { at = p; before = b }) c i g))) where
    zone-here : zone_at p s.segments ≡ t.1.0
    zone-here = zone-is s p b t.1.0 t.1.1

    pub chunk-freed : freed o (chunk c i g) s ≡ chunk_back (zone_at p s.segments).class i p (zone_at p s.segments) s
    chunk-freed = ap (λ q. chunk_back c i q (zone_at q s.segments) s) page ∙ ap (λ k. chunk_back k i p (zone_at p s.segments) s) (sym (ap (λ z. z.class) zone-here ∙ t.1.2))
      where
        page : (o - i * room c) / page_bytes ≡ p
        page = let e : o - i * room c ≡ p * page_bytes = omega (arith, t.2) in ap (λ k. k / page_bytes) e ∙ omega arith

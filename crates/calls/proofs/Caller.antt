-- What the figures' steps have in common: the group whose call was not refused, the other groups, and that no figure is beyond the
-- largest arena's bytes.
-- Assumes nothing.
use Prim.Native.Nat.{ℕ, suc, ◌-◌, ◌≤◌, ◌<◌}
use mathlib.Core.Path.{◌≡◌}
use mathlib.Core.Bool.{Bool, true, false, cond}
use native.Mathlib.Omega.{arith}
use lib.Dec.{eqb}
use borrow.Author.Tests.{eq-eqb, ne_eqb}
use Rattle.model.specs.Numbers.{most_group, most_bytes}
use Rattle.model.specs.declared.Operation.{Operation}
use Rattle.model.specs.State.{State}
use Rattle.model.specs.PageMap.{page_map}
use Rattle.model.specs.Holdings.{blocks_of, held_of}
use Rattle.model.specs.Valid.{Valid}
use Rattle.model.specs.Calls.{is_refused}
use Rattle.model.specs.Perform.{asked}
use Rattle.model.proofs.Allocated.{group-least, group-most}
use Rattle.model.proofs.Validity.{asked-group}
use Rattle.model.proofs.Held.{held-most, blocks-most}
use Rattle.model.proofs.Figures.{Gains}

-- The group whose call was not refused is one of the groups.
pub caller : (c g : ℕ) (q : Operation) (s : State) → is_refused (asked c g q s).answer ≡ false → (0 < g) × (g ≤ most_group)
caller c g q s done = let t = asked-group c g q s done in (group-least g t, group-most g t)

-- The groups other than g.
pub other-group : (g i : ℕ) → 0 < g → (i ≡ g - 1 → ⊥) → eqb g (suc i) ≡ false
other-group g i p n = ne_eqb g (suc i) (λ e. n (omega arith))

pub own-group : (g : ℕ) → 0 < g → eqb g (suc (g - 1)) ≡ true
own-group g p = eq-eqb g (suc (g - 1)) (omega arith)

pub gains-other : (b : Bool) (h k : ℕ) (s t : State) → b ≡ false → Gains h s t (cond b 1 0) (cond b k 0) → Gains h s t 0 0
gains-other b h k s t e g = rw e at g

pub gains-own : (b : Bool) (h k : ℕ) (s t : State) → b ≡ true → Gains h s t (cond b 1 0) (cond b k 0) → Gains h s t 1 k
gains-own b h k s t e g = rw e at g

-- A figure is no more than the bytes of the largest arena.
module _ (s : State) (v : Valid s) (i : ℕ) where
  pub blocks-few : blocks_of (suc i) (page_map s) ≤ most_bytes
  blocks-few = omega (arith, blocks-most (suc i) s.segments v.sound, v.most)

  pub held-few : held_of (suc i) (page_map s) ≤ most_bytes
  held-few = omega (arith, held-most (suc i) s.segments v.sound, v.most)

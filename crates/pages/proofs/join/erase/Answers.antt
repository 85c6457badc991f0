-- `join::erase` meets its contract. Assumes nothing.
use mathlib.Core.Path.{◌≡◌, sym, ap, ◌∙◌}
use Prim.Native.Nat.{ℕ}
use Rattle.std.proofs.Common.{◌⊎◌, inl, inr}
use Rattle.lemmas.proofs.Cases.{clash}
use Rattle.zone.specs.Encoding.{kind_zone}
use Rattle.pages.specs.declared.Kind.{Kind}
use Rattle.pages.specs.declared.Kind.TheVariants as kind
use Rattle.pages.specs.Places.{kind_by}
use Rattle.pages.proofs.Fused.{segment-long, erased}
use lib.ListN.{length-set}
use native.Mathlib.Omega.{arith}
use Rattle.pages.proofs.join.erase.Goals as goal

-- A segment that is told as a run or a direct block has not the number of a zone in front.
no-zone : {w : ℕ} {k : Kind} → k ≡ kind_by w → (k ≡ kind.Run) ⊎ (k ≡ kind.Direct) → w ≡ kind_zone → ⊥
no-zone e (inl r) z = let f = sym r ∙ e ∙ ap kind_by z in clash (cc)
no-zone e (inr d) z = let f = sym d ∙ e ∙ ap kind_by z in clash (cc)

pub bounds-part-0 : goal.bounds-part-0
bounds-part-0 c = omega (arith, segment-long _ _ c.requires.1 c.requires.2)

pub bounds-part-1 : goal.bounds-part-1
bounds-part-1 c = simp length-set (omega (arith, segment-long _ _ c.requires.1 c.requires.2))

pub bounds-part-2 : goal.bounds-part-2
bounds-part-2 c = simp length-set (omega (arith, segment-long _ _ c.requires.1 c.requires.2))

pub returns-in-Run : goal.returns-in-Run
returns-in-Run c = erased _ _ c.requires.1 c.requires.2 (no-zone c.told_by.ensures c.in-Run.is)

-- Setting a ceiling: the state stays, whatever the group holds; the group's ceiling is the new one, every other stays; the account stays
-- valid; and a refused setting leaves everything. Assumes nothing.
use Prim.Native.Nat.{ℕ, ◌-◌, ◌≤◌, ◌<◌}
use mathlib.Core.Path.{◌≡◌, refl, sym, ◌∙◌, subst}
use mathlib.Core.Bool.{true, cond}
use native.Mathlib.Omega.{arith}
use lib.Dec.{leb, eqb}
use lib.ListN.{length-set}
use borrow.Author.Tests.{leb-true}
use Rattle.lemmas.proofs.Cases.{bool, either, true-false}
use Rattle.lemmas.proofs.Sets.{get_d_set}
use Rattle.model.specs.Numbers.{most_group, most_bytes}
use Rattle.model.specs.Holdings.{Account, ceiling_at}
use Rattle.model.specs.Valid.{ValidAccount}
use Rattle.model.specs.Calls.{is_refused, group_ok}
use Rattle.model.specs.Ceilings.{limited, set_ceiling}
use Rattle.model.proofs.Allocated.{group-least, group-most}

-- A ceiling takes nothing away.
pub setting_same : (g c : ℕ) (x : Account) → (set_ceiling g c x).after.state ≡ x.state
setting_same g c x = bool (group_ok g) (λ t. bool (leb c most_bytes) (λ u. rw (t, u)) (λ u. rw (t, u))) (λ t. rw t)

pub setting-leaves : (g c : ℕ) (x : Account) → is_refused (set_ceiling g c x).answer ≡ true → (set_ceiling g c x).after ≡ x
setting-leaves g c x = bool (group_ok g)
    (λ t. bool (leb c most_bytes) (λ u. rw (t, u) (λ r. true-false r refl)) (λ u. rw (t, u) (λ _. refl)))
    (λ t. rw t (λ _. refl))

-- The ceiling of each group, once that of the group g is c.
pub limited-at : (g c : ℕ) (x : Account) → ValidAccount x → g - 1 < most_group → (i : ℕ) → ceiling_at (limited g c x) i ≡ cond (eqb i (g - 1)) c (ceiling_at x i)
limited-at g c x v h i = get_d_set x.ceilings (g - 1) i c 0 (omega (arith, v.limits))

limited-valid : (g c : ℕ) (x : Account) → ValidAccount x → g - 1 < most_group → c ≤ most_bytes → ValidAccount (limited g c x)
limited-valid g c x v h l = record {
  state = v.state;
  groups = v.groups;
  least = v.least;
  most = v.most;
  limits = length-set x.ceilings (g - 1) c ∙ v.limits;
  ceiling = λ i k. subst (λ b. b ≤ most_bytes) (sym (limited-at g c x v h i)) (either (λ b. b ≤ most_bytes) (eqb i (g - 1)) c (ceiling_at x i) (λ _. l) (λ _. v.ceiling i k));
}

pub setting-valid : (g c : ℕ) (x : Account) → ValidAccount x → ValidAccount (set_ceiling g c x).after
setting-valid g c x v = bool (group_ok g)
    (λ t. bool (leb c most_bytes)
    (λ u. rw (t, u) (limited-valid g c x v (omega (arith, group-least g t, group-most g t)) (leb-true c most_bytes u)))
    (λ u. rw (t, u) v))
    (λ t. rw t v)

-- The figures at a reset and at a trim: their step leaves those of the account that follows. Assumes nothing.
use Prim.Native.Nat.{ℕ, suc, ◌-◌, ◌≤◌, ◌<◌}
use mathlib.Core.Path.{◌≡◌, ap, ◌∙◌}
use mathlib.Core.Bool.{false, cond}
use mathlib.Core.List.{List}
use native.Mathlib.Omega.{arith}
use lib.Dec.{eqb}
use Rattle.model.specs.Numbers.{most_group}
use Rattle.model.specs.declared.Operation.TheVariants.{Reset}
use Rattle.model.specs.State.{State}
use Rattle.model.specs.PageMap.{page_map}
use Rattle.model.specs.Holdings.{blocks_of, held_of, Account, accounted}
use Rattle.model.specs.Valid.{ValidAccount}
use Rattle.model.specs.Calls.{is_refused}
use Rattle.model.specs.Free.{reset}
use Rattle.model.specs.Trim.{trimmed}
use Rattle.model.proofs.Validity.{asked-group}
use Rattle.model.proofs.Figures.{Gains, reset-leaves, trim-gains}
use Rattle.figures.specs.Steps.{cleared}
use Rattle.account.specs.Encoding.{figures_of}
use Rattle.account.proofs.Next.{still-figures, cleared-figures}
use Rattle.calls.proofs.Caller.{caller, other-group, own-group}

module _ (x : Account) (v : ValidAccount x) (g : ℕ) (done : is_refused (reset g x.state).answer ≡ false) where
  legal : (0 < g) × (g ≤ most_group)
  legal = caller 0 g Reset x.state done

  abbrev t : State
  t = (reset g x.state).after

  pub reset-figures : cleared (g - 1) (figures_of x) ≡ figures_of (accounted x (reset g x.state).after)
  reset-figures = cleared-figures x v t (g - 1) (omega (arith, legal.0, legal.1)) others
      ((left (suc (g - 1)) (omega arith)).0 ∙ ap (λ b. cond b 0 (blocks_of (suc (g - 1)) (page_map x.state))) (own-group g legal.0))
      ((left (suc (g - 1)) (omega arith)).1 ∙ ap (λ b. cond b 0 (held_of (suc (g - 1)) (page_map x.state))) (own-group g legal.0))
    where
      left : (h : ℕ) → 0 < h → (blocks_of h (page_map t) ≡ cond (eqb g h) 0 (blocks_of h (page_map x.state))) × (held_of h (page_map t) ≡ cond (eqb g h) 0 (held_of h (page_map x.state)))
      left h p = reset-leaves x.state v.state h p g (asked-group 0 g Reset x.state done)

      others : (i : ℕ) → i < most_group → (i ≡ g - 1 → ⊥) → Gains (suc i) x.state t 0 0
      others i l ne =
          let k = left (suc i) (omega arith) in
          let o = other-group g i legal.0 ne in record {
            blocks = k.0 ∙ ap (λ b. cond b 0 (blocks_of (suc i) (page_map x.state))) o ∙ omega arith;
            held = k.1 ∙ ap (λ b. cond b 0 (held_of (suc i) (page_map x.state))) o ∙ omega arith;
          }

  -- As the code has them: the figures f lent for the step, and the index i.
  module _ (f : List ℕ) (e : f ≡ figures_of x) (i : ℕ) (at : i ≡ g - 1) where
    pub reset-done : (v : List ℕ) → v ≡ cleared i f → v ≡ figures_of (accounted x (reset g x.state).after)
    reset-done v q = q ∙ (λ j. cleared (at j) (e j)) ∙ reset-figures

pub trim-figures : (x : Account) → ValidAccount x → figures_of x ≡ figures_of (accounted x (trimmed x.state))
trim-figures x v = still-figures x v (trimmed x.state) (λ i l. trim-gains x.state v.state (suc i) (omega arith))

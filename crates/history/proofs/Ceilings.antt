-- The ceilings that calls and their answers tell are those that the calls leave, one call after another; and calls by which no ceiling
-- changes leave them all. Assumes nothing.
use Prim.Native.Nat.{ℕ, suc, ◌-◌, ◌<◌}
use mathlib.Core.Path.{◌≡◌, refl, sym, ◌∙◌}
use mathlib.Core.Logic.{◌⊎◌, inl, inr}
use mathlib.Core.List.{[], ◌∷◌}
use mathlib.Core.Bool.{true, cond}
use native.Mathlib.Omega.{arith}
use lib.Dec.{leb, eqb}
use borrow.Author.Tests.{eq-eqb, ne_eqb}
use Rattle.lemmas.proofs.Cases.{bool, by_eqb}
use Rattle.model.specs.Numbers.{most_group, most_bytes}
use Rattle.model.specs.declared.Answer.{Answer}
use Rattle.model.specs.Holdings.{Account, ceiling_at}
use Rattle.model.specs.Valid.{ValidAccount}
use Rattle.model.specs.Calls.{Action, group, trim, query, listing, holdings, ceiling, Command, init, act, is_refused, group_ok}
use Rattle.model.specs.Perform.{Metadata, serve}
use Rattle.model.proofs.Allocated.{group-least, group-most}
use Rattle.model.proofs.Ceilings.{limited-at}
use Rattle.history.specs.Ledger.{begins, unless_refused, ceiling_by}
use Rattle.history.specs.Demand.{History, after}
use Rattle.history.specs.Ceilings.{Idle, StretchCovered}

-- The group of an index.
index-group : (i g : ℕ) → 0 < g → eqb i (g - 1) ≡ eqb (suc i) g
index-group i g p = by_eqb (λ b. b ≡ eqb (suc i) g) i (g - 1) (λ e. sym (eq-eqb (suc i) g (omega arith))) (λ n. sym (ne_eqb (suc i) g (λ e. n (omega arith))))

-- One call on an account whose ceilings are as k tells.
module _ (x : Account) (v : ValidAccount x) (k : ℕ → ℕ) (told : (i : ℕ) → i < most_group → ceiling_at x i ≡ k (suc i)) where
  pub ceilings-served : (a : Action) (i : ℕ) → i < most_group → ceiling_at (serve x a).after i ≡ ceiling_by (act a) (serve x a).answer k (suc i)
  ceilings-served (group c) i h = told i h
  ceilings-served trim i h = told i h
  ceilings-served (query o) i h = told i h
  ceilings-served (listing n) i h = told i h
  ceilings-served (holdings n) i h = told i h
  ceilings-served (ceiling g c) i h = bool (group_ok g)
      (λ t. bool (leb c most_bytes)
      (λ u. rw (t, u) (
      limited-at g c x v (omega (arith, group-least g t, group-most g t)) i ∙ (λ j. cond (index-group i g (group-least g t) j) c (told i h j))))
      (λ u. rw (t, u) (told i h)))
      (λ t. rw t (told i h))

-- A further start is refused, unless it begins anew.
pub no_start : (a : Answer) → (unless_refused a begins ≡ begins → ⊥) → is_refused a ≡ true
no_start a h = bool (is_refused a) (λ t. t) (λ t. absurd (h (rw t)))

module _ (B : Type 0) (view : B → Metadata) (next : B → Command → B) (says : B → Command → Answer) where
  -- A refused setting sets nothing, and one to the same value changes nothing.
  idle-same : (w : History B view next says) (a : Action) → Idle B view next says w a → (g : ℕ) → (after B view next says w (act a)).ceiling g ≡ w.ceiling g
  idle-same w (group c) d g = refl
  idle-same w trim d g = refl
  idle-same w (query o) d g = refl
  idle-same w (listing n) d g = refl
  idle-same w (holdings n) d g = refl
  idle-same w (ceiling h c) d g = go d
    where
      go : (is_refused (says w.lent (act (ceiling h c))) ≡ true) ⊎ (w.ceiling h ≡ c) → (after B view next says w (act (ceiling h c))).ceiling g ≡ w.ceiling g
      go (inl t) = rw t
      go (inr e) = bool (is_refused (says w.lent (act (ceiling h c)))) (λ t. rw t)
          (λ t. rw t (by_eqb (λ b. cond b c (w.ceiling g) ≡ w.ceiling g) g h (λ q. cc) (λ q. refl)))

  pub stretch-covered : StretchCovered B view next says
  unfolding StretchCovered
  stretch-covered w [] s d g t = refl
  stretch-covered w (init n ∷ l) s d g t = stretch-covered (after B view next says w (init n)) l s.1 d g t ∙ rw (no_start (says w.lent (init n)) s.0)
  stretch-covered w (act a ∷ l) s d g t = stretch-covered (after B view next says w (act a)) l s.1 d.1 g t ∙ idle-same w a d.0 g

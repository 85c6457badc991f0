-- The laws of the two searches that a request for pages makes. Proofs use these and not the text of `sought`. Assumes nothing.
use Prim.Native.Nat.{ℕ, ◌<◌}
use mathlib.Core.Path.{◌≡◌, refl, sym, ◌∙◌, ap, subst}
use mathlib.Core.Logic.{◌↔◌}
use mathlib.Core.Option.{Option, none, some, map, map-eq-none_iff, map-eq-some_iff}
use mathlib.Core.Bool.{false}
use Rattle.lemmas.proofs.Cases.{bool, true-false, some_inj, none-some}
use Rattle.model.specs.State.{State}
use Rattle.model.specs.PageMap.{idle_zone}
use Rattle.model.specs.Pages.{FreeRun, onward, claim, has_run}
use Rattle.model.specs.Trim.{trimmed}
use Rattle.model.specs.Allocate.{Source, found_in, searched, sought}
use Rattle.model.proofs.Claim.{claim-has}
use Rattle.model.proofs.Trimmed.{joined-has}

module _ (n : ℕ) (s : State) where
  -- A run is found in the state as it is: nothing is given back.
  pub sought-first : (h : FreeRun) → (claim n s.segments).chosen ≡ some h → sought n s ≡ record { chosen = some (found_in s h); looked = (claim n s.segments).looked }
  unfolding sought
  sought-first h e = rw e

  -- If not, the search on what trim leaves decides, and the runs of both are counted.
  pub sought-second : (claim n s.segments).chosen ≡ none → sought n s ≡ onward (claim n s.segments).looked (searched n (trimmed s))
  unfolding sought
  sought-second e = rw e

  -- What is found is found by a search, in the state as it is or in the trimmed one.
  pub record From (f : Source) : Type 1 where
    pub claimed : (claim n f.state.segments).chosen ≡ some f.free
    pub either : (P : State → Type 0) → P s → P (trimmed s) → P f.state

  pub sought-from : (f : Source) → (sought n s).chosen ≡ some f → From f
  sought-from f e = go (claim n s.segments).chosen refl
    where
      of : (t : State) (h : FreeRun) → (claim n t.segments).chosen ≡ some h → found_in t h ≡ f → ((P : State → Type 0) → P s → P (trimmed s) → P t) → From f
      of t h c q k = record { claimed = ap (λ x. (claim n x.state.segments).chosen) (sym q) ∙ c ∙ ap (λ x. some x.free) q; either = λ P a b. subst (λ x. P x.state) q (k P a b) }

      go : (h : Option FreeRun) → (claim n s.segments).chosen ≡ h → From f
      go none c = let r = (map-eq-some_iff (found_in (trimmed s)) (claim n (trimmed s).segments).chosen).0 (sym (ap (λ l. l.chosen) (sought-second c)) ∙ e) in of (trimmed s) r.0 r.1 r.2 (λ P a b. b)
      go (some h) c = of s h c (some_inj (sym (ap (λ l. l.chosen) (sought-first h c)) ∙ e)) (λ P a b. a)

  -- Nothing is found just if no run of what trim leaves is long enough. (Trim loses no run.)
  pub sought-none : 0 < n → ((sought n s).chosen ≡ none) ↔ (has_run n (trimmed s).segments ≡ false)
  sought-none pos = (λ e. go e (claim n s.segments).chosen refl, λ e. ap (λ l. l.chosen) (sought-second (first e)) ∙ ap (map (found_in (trimmed s))) ((claim-has n (trimmed s).segments pos).1 e))
    where
      go : (sought n s).chosen ≡ none → (h : Option FreeRun) → (claim n s.segments).chosen ≡ h → has_run n (trimmed s).segments ≡ false
      go e none c = (claim-has n (trimmed s).segments pos).0 ((map-eq-none_iff (found_in (trimmed s)) (claim n (trimmed s).segments).chosen).0 (sym (ap (λ l. l.chosen) (sought-second c)) ∙ e))
      go e (some h) c = none-some (sym e ∙ ap (λ l. l.chosen) (sought-first h c))

      first : has_run n (trimmed s).segments ≡ false → (claim n s.segments).chosen ≡ none
      first e = (claim-has n s.segments pos).1 (bool (has_run n s.segments) (λ t. true-false (joined-has idle_zone n 0 s.segments pos t) e) (λ t. t))

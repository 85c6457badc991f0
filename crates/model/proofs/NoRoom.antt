-- Refusal 6, exactly: pages are needed, and after trim no run would have as many. Every other request of a legal group and size, within
-- the ceiling, is granted. And refusal 10, exactly. Assumes nothing.
use Prim.Native.Nat.{ℕ, ◌<◌}
use mathlib.Core.Path.{◌≡◌, refl, sym, ◌∙◌, ap}
use mathlib.Core.Logic.{◌↔◌}
use mathlib.Core.Option.{Option, none, some}
use mathlib.Core.Bool.{true, false}
use Rattle.lemmas.proofs.Cases.{bool, clash, some_inj, none-some}
use Rattle.model.specs.declared.Refusal.TheVariants.{OverCeiling, NoRoom}
use Rattle.model.specs.declared.Answer.{Answer}
use Rattle.model.specs.declared.Answer.TheVariants.{Granted, Denied}
use Rattle.model.specs.State.{State}
use Rattle.model.specs.PageMap.{occupancy, page_map}
use Rattle.model.specs.Pages.{has_run}
use Rattle.model.specs.Trim.{trimmed}
use Rattle.model.specs.Calls.{DeniedBy, GrantedAt, group_ok, size_ok}
use Rattle.model.specs.Ceilings.{within}
use Rattle.model.specs.Allocate.{Source, sought, needed, supplied, allocate}
use Rattle.model.proofs.Answers.{denial-told, grant-told}
use Rattle.model.proofs.Claim.{has-retold}
use Rattle.model.proofs.Sought.{sought-none}
use Rattle.model.proofs.Supplied.{told, Supply, at-hand, from-runs, supply, accepted}

-- A request by a legal group, of a legal size and within the ceiling c, needs k pages, and after trim no run has k.
pub record Short (s : State) (c g n : ℕ) : Type 0 where
  pub group : group_ok g ≡ true
  pub size : size_ok n ≡ true
  pub ceiling : within c g n (page_map s) ≡ true
  pub pages : ℕ
  pub needs : needed n s ≡ some pages
  pub none-long : has_run pages (page_map (trimmed s)) ≡ false

-- Of the pages that an option names, after trim no run has as many.
abbrev Lacks : State → Option ℕ → Type 0
Lacks s o = (k : ℕ) × (o ≡ some k) × (has_run k (page_map (trimmed s)) ≡ false)

-- The answer to a request that the earlier tests let pass, which needs the pages that an option names.
data Decided (s : State) (o : Option ℕ) (a : Answer) : Type 0 where
  refused : (n : ℕ) → a ≡ Denied NoRoom n → Lacks s o → Decided s o a
  served : (q n : ℕ) → a ≡ Granted q n → (Lacks s o → ⊥) → Decided s o a

module _ (s : State) where
  map-has : (k : ℕ) → has_run k (page_map (trimmed s)) ≡ has_run k (trimmed s).segments
  map-has k = has-retold occupancy k (trimmed s).segments

  decided : (g n : ℕ) → Decided s (needed n s) (supplied g n s).answer
  decided g n = go (supply s g n)
    where
      searched : (k : ℕ) → needed n s ≡ some k → 0 < k → (h : Option Source) → (sought k s).chosen ≡ h
          → (supplied g n s).answer ≡ told (sought k s).looked h → Decided s (needed n s) (supplied g n s).answer
      searched k e pos none c a = refused _ a (k, e, map-has k ∙ (sought-none k s pos).0 c)
      searched k e pos (some f) c a = served _ _ a (λ l. none-some (sym (miss l) ∙ c))
        where
          miss : Lacks s (needed n s) → (sought k s).chosen ≡ none
          miss l = (sought-none k s pos).1 (sym (map-has k) ∙ ap (λ j. has_run j (page_map (trimmed s))) (some_inj (sym e ∙ l.1)) ∙ l.2)

      go : Supply s (needed n s) (supplied g n s).answer → Decided s (needed n s) (supplied g n s).answer
      go (at-hand q e a) = served q 0 a (λ l. none-some (sym e ∙ l.1))
      go (from-runs k e pos a) = searched k e pos (sought k s).chosen refl a

  module _ (c g n : ℕ) where
    lacks-short : group_ok g ≡ true → size_ok n ≡ true → within c g n (page_map s) ≡ true → Lacks s (needed n s) → Short s c g n
    lacks-short t u r l = record { group = t; size = u; ceiling = r; pages = l.0; needs = l.1; none-long = l.2 }

    pub no_room : DeniedBy 6 (allocate c g n s).answer ↔ Short s c g n
    no_room = (
      λ e. let d = named.0 e in there d.0 d.1,
      λ h. let d = back (decided g n) h in named.1 (d.0, accepted s c g n h.group h.size h.ceiling ∙ d.1),
    )
      where
        named : DeniedBy 6 (allocate c g n s).answer ↔ ((k : ℕ) × ((allocate c g n s).answer ≡ Denied NoRoom k))
        named = denial-told NoRoom (allocate c g n s).answer

        there : (k : ℕ) → (allocate c g n s).answer ≡ Denied NoRoom k → Short s c g n
        there j e = bool (group_ok g)
            (λ t. bool (size_ok n)
            (λ u. bool (within c g n (page_map s))
            (λ r. go t u r (decided g n) (sym (accepted s c g n t u r) ∙ e))
            (λ r. let k = rw (t, u, r) at e in clash (cc)))
            (λ u. let k = rw (t, u) at e in clash (cc)))
            (λ t. let k = rw t at e in clash (cc))
          where
            go : group_ok g ≡ true → size_ok n ≡ true → within c g n (page_map s) ≡ true → Decided s (needed n s) (supplied g n s).answer → (supplied g n s).answer ≡ Denied NoRoom j → Short s c g n
            go t u r (refused i a l) k = lacks-short t u r l
            go t u r (served q i a l) k = clash (cc)

        back : Decided s (needed n s) (supplied g n s).answer → Short s c g n → (k : ℕ) × ((supplied g n s).answer ≡ Denied NoRoom k)
        back (refused k a l) h = (k, a)
        back (served q k a l) h = absurd (l (h.pages, h.needs, h.none-long))

    -- Refusal 10: the group and the size are legal, and the request would pass the ceiling.
    pub over-ceiling : DeniedBy 10 (allocate c g n s).answer ↔ ((group_ok g ≡ true) × (size_ok n ≡ true) × (within c g n (page_map s) ≡ false))
    over-ceiling = (λ e. let d = named.0 e in there d.0 d.1, λ h. named.1 (0, rw (h.0, h.1, h.2)))
      where
        named : DeniedBy 10 (allocate c g n s).answer ↔ ((k : ℕ) × ((allocate c g n s).answer ≡ Denied OverCeiling k))
        named = denial-told OverCeiling (allocate c g n s).answer

        served-else : (k : ℕ) {P : Type 0} → Decided s (needed n s) (supplied g n s).answer → (supplied g n s).answer ≡ Denied OverCeiling k → P
        served-else k (refused i a l) e = clash (cc)
        served-else k (served q i a l) e = clash (cc)

        there : (k : ℕ) → (allocate c g n s).answer ≡ Denied OverCeiling k → (group_ok g ≡ true) × (size_ok n ≡ true) × (within c g n (page_map s) ≡ false)
        there j e = bool (group_ok g)
            (λ t. bool (size_ok n)
            (λ u. bool (within c g n (page_map s))
            (λ r. served-else j (decided g n) (sym (accepted s c g n t u r) ∙ e))
            (λ r. (t, u, r)))
            (λ u. let k = rw (t, u) at e in clash (cc)))
            (λ t. let k = rw t at e in clash (cc))

    pub granted-else : group_ok g ≡ true → size_ok n ≡ true → within c g n (page_map s) ≡ true → (Short s c g n → ⊥) → (o : ℕ) × GrantedAt o (allocate c g n s).answer
    granted-else t u r h = go (decided g n)
      where
        go : Decided s (needed n s) (supplied g n s).answer → (o : ℕ) × GrantedAt o (allocate c g n s).answer
        go (refused k a l) = absurd (h (lacks-short t u r l))
        go (served q k a l) = (q, (grant-told q (allocate c g n s).answer).1 (k, accepted s c g n t u r ∙ a))

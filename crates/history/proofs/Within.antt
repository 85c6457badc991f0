-- Ceilings over whole lists of calls: the words have those that the calls tell; a group never holds more than its ceiling, if that is not
-- lowered below what it holds; and demand 3, where no ceiling changed. Assumes nothing.
use Prim.Native.Nat.{ℕ, suc, ◌+◌, ◌-◌, ◌≤◌, ◌<◌}
use mathlib.Core.Path.{◌≡◌, refl, sym, ◌∙◌, ap}
use mathlib.Core.List.{List, [], ◌∷◌}
use mathlib.Core.Option.{Option, none, some}
use mathlib.Core.Bool.{Bool, cond}
use native.Mathlib.Omega.{arith}
use lib.ListN.{get_or}
use borrow.Author.Tests.{leb-true}
use Rattle.lemmas.specs.Keep.{keep}
use Rattle.lemmas.proofs.Cases.{bool, by-lt, by_eqb, none-some}
use Rattle.model.specs.Numbers.{most_group}
use Rattle.model.specs.declared.Operation.{Operation}
use Rattle.model.specs.declared.Operation.TheVariants.{Allocate, Free, Reset}
use Rattle.model.specs.declared.Answer.{Answer}
use Rattle.model.specs.Sizes.{room_for}
use Rattle.model.specs.State.{State}
use Rattle.model.specs.PageMap.{page_map}
use Rattle.model.specs.Holdings.{held_of, Account, ceiling_of}
use Rattle.model.specs.Ceilings.{within}
use Rattle.model.specs.Calls.{Action, group, trim, query, listing, holdings, ceiling, Command, init, act, is_refused, grant_of, group_ok, size_ok}
use Rattle.model.specs.Allocate.{allocate}
use Rattle.model.specs.Perform.{Metadata, perform}
use Rattle.history.specs.Ledger.{Held, begins, of_grant, effect, applied}
use Rattle.history.specs.Demand.{History, after, after_all, begun, NoStart, Demand3}
use Rattle.history.specs.Holdings.{bytes_held}
use Rattle.history.specs.Ceilings.{CeilingsTold, NotBelow, EverWithin, CeilingKept, Demand3Asked, StretchCovered}
use Rattle.history.proofs.Ledger.{Entry}
use Rattle.history.proofs.Ceilings.{no_start, stretch-covered}
use Rattle.history.proofs.Theorem.{Reached, keeps-says, held-are, reach, reach-all, peaks, first-reached, split-starts, demand-3}

-- What a request's answer that grants tells of the ceiling.
granted-within : (s : State) (c g n o : ℕ) → grant_of (allocate c g n s).answer ≡ some o → held_of g (page_map s) + room_for n ≤ c
granted-within s c g n o e = bool (group_ok g)
    (λ t. bool (size_ok n)
    (λ u. bool (within c g n (page_map s)) (λ r. leb-true (held_of g (page_map s) + room_for n) c r) (λ r. none-some (rw (t, u, r) at e)))
    (λ u. none-some (rw (t, u) at e)))
    (λ t. none-some (rw t at e))

-- Blocks that come back are held no more.
kept_less : (g : ℕ) (f : Held → Bool) (l : List Held) → bytes_held g (keep f l) ≤ bytes_held g l
unfolding keep
kept_less g f [] = omega arith
kept_less g f (h ∷ l) = bool (f h) (λ t. rw t (omega (arith, kept_less g f l))) (λ t. rw t (omega (arith, kept_less g f l)))

module _ (B : Type 0) (view : B → Metadata) (next : B → Command → B) (says : B → Command → Answer)
    (does : (b : B) (c : Command) → view (next b c) ≡ (perform (view b) c).after)
    (tells : (b : B) (c : Command) → says b c ≡ (perform (view b) c).answer) where
  abbrev Past : Type 0
  Past = History B view next says

  abbrev Fits : ℕ → Past → Type 0
  Fits g w = bytes_held g w.live ≤ w.ceiling g

  -- One call on a history that calls have reached, in which the group at the index i fits its ceiling.
  module _ (N t : ℕ) (M : List Entry) (f : ℕ → ℕ) (w : Past) (r : Reached B view next says does tells N t M f w) (i : ℕ) (l : i < most_group) (h : Fits (suc i) w) where
    abbrev x : Account
    x = r.account

    -- A request: the test of the ceiling let it pass.
    more : (g n : ℕ) → Fits (suc i) (after B view next says w (act (group (record { group = g; operation = Allocate n }))))
    more g n = go (grant_of (says w.lent call)) refl
      where
        call : Command
        call = act (group (record { group = g; operation = Allocate n }))

        go : (o : Option ℕ) → grant_of (says w.lent (act (group (record { group = g; operation = Allocate n })))) ≡ o → bytes_held (suc i) (applied w.calls (of_grant g n o) w.live) ≤ w.ceiling (suc i)
        go none e = h
        go (some o) e = by_eqb (λ b. cond b (room_for n) 0 + bytes_held (suc i) w.live ≤ w.ceiling (suc i)) g (suc i)
            (λ q.
            let said = sym (ap grant_of (keeps-says B view next says does tells r.words w.lent x _ r.keeps)) ∙ e in
            let top : ceiling_of x g ≡ w.ceiling (suc i) = ap (λ k. get_or x.ceilings k 0) (let p : g - 1 ≡ i = omega arith in p) ∙ r.ceilings i l in
            let has : held_of g (page_map x.state) ≡ bytes_held (suc i) w.live = ap (λ k. held_of k (page_map x.state)) q ∙ held-are B view next says does tells N t M f w r i in
            omega (arith, granted-within x.state (ceiling_of x g) g n o said, top, has))
            (λ q. omega arith)

    less : (p : Held → Bool) → bytes_held (suc i) (keep p w.live) ≤ w.ceiling (suc i)
    less p = omega (arith, kept_less (suc i) p w.live)

    asked-fits : (g : ℕ) (q : Operation) → Fits (suc i) (after B view next says w (act (group (record { group = g; operation = q }))))
    asked-fits g (Allocate n) = more g n
    asked-fits g (Free o) = bool (is_refused (says w.lent (act (group (record { group = g; operation = Free o })))))
        (λ t. rw t h) (λ t. rw t (less _))
    asked-fits g Reset = bool (is_refused (says w.lent (act (group (record { group = g; operation = Reset })))))
        (λ t. rw t h) (λ t. rw t (less _))

    acted-fits : (a : Action) → let v : Past = after B view next says w (act a) in (v.ceiling (suc i) < w.ceiling (suc i) → bytes_held (suc i) w.live ≤ v.ceiling (suc i)) → Fits (suc i) v
    acted-fits (group c) low = asked-fits c.group c.operation
    acted-fits trim low = h
    acted-fits (query o) low = h
    acted-fits (listing n) low = h
    acted-fits (holdings n) low = h
    acted-fits (ceiling g c) low = let v : Past = after B view next says w (act (ceiling g c)) in by-lt (v.ceiling (suc i)) (w.ceiling (suc i)) low (λ q. omega arith)

    fits_next : (c : Command) → (effect c (says w.lent c) ≡ begins → ⊥) →
        let v : Past = after B view next says w c in (v.ceiling (suc i) < w.ceiling (suc i) → bytes_held (suc i) w.live ≤ v.ceiling (suc i)) → Fits (suc i) v
    fits_next (init n) s low = rw (no_start (says w.lent (init n)) s) h
    fits_next (act a) s low = acted-fits a low

  fits_all : (N t : ℕ) (M : List Entry) (f : ℕ → ℕ) (calls : List Command) (w : Past) → Reached B view next says does tells N t M f w → (i : ℕ) → i < most_group →
      NoStart B view next says w calls → NotBelow B view next says (suc i) w calls → Fits (suc i) w → EverWithin B view next says (suc i) w calls
  fits_all N t M f [] w r i l s b h = h
  fits_all N t M f (c ∷ calls) w r i l s b h =
      (h, fits_all N t M (peaks B view next says does tells f (after B view next says w c)) calls (after B view next says w c) (reach B view next says does tells N t M f w c r s.0) i l s.1 b.1 (fits_next N t M f w r i l h c s.0 b.0))

  pub ceiling-kept : CeilingKept B view next says
  unfolding CeilingKept
  ceiling-kept b n calls i l h starts below =
      fits_all n 0 [] _ calls _ (first-reached B view next says does tells b n h) i l starts below (rw h (omega arith))

  -- Demand 3 with document 02's hypothesis.
  pub demand-3-asked : Demand3Asked B view next says
  unfolding Demand3Asked Demand3 StretchCovered
  demand-3-asked b n first stretch h starts early all =
      let start : Past = begun B view next says b n in
      let split : Past = after_all B view next says start first in
      let d = demand-3 B view next says does tells b n first stretch h starts early all in record {
        map = d.map;
        answers = λ c. d.answers (stretch-covered B view next says split stretch (split-starts B view next says does tells first stretch start starts).1 c);
        exact-split = d.exact-split;
        exact-end = d.exact-end;
      }

  pub ceilings-told : CeilingsTold B view next says
  unfolding CeilingsTold
  ceilings-told b n calls h starts =
      let r = reach-all B view next says does tells n 0 [] _ calls _ (first-reached B view next says does tells b n h) starts in
      (r.account, ap (λ m. m.account) r.keeps, r.ceilings)

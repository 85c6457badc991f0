-- A request: what is refused before any run is looked at; and at a grant what the step of the figures needs, and that it leaves those of
-- the account that follows. Assumes nothing.
use Prim.Native.Nat.{ℕ, suc, ◌+◌, ◌-◌, ◌≤◌, ◌<◌}
use mathlib.Core.Path.{◌≡◌, ap, subst, ◌∙◌}
use mathlib.Core.Bool.{true, false, cond}
use mathlib.Core.List.{List}
use native.Mathlib.Omega.{arith}
use lib.Dec.{leb, eqb}
use lib.ListN.{length}
use Rattle.lemmas.proofs.Cases.{true-false}
use Rattle.model.specs.Numbers.{most_group, most_bytes, figure_words}
use Rattle.model.specs.declared.Operation.TheVariants.{Allocate}
use Rattle.model.specs.declared.Refusal.TheVariants.{BadGroup, BadSize, OverCeiling}
use Rattle.model.specs.declared.Answer.TheVariants.{Denied}
use Rattle.model.specs.Sizes.{room_for}
use Rattle.model.specs.State.{State}
use Rattle.model.specs.PageMap.{page_map}
use Rattle.model.specs.Holdings.{held_of, Account, accounted, holding_of, ceiling_at, ceiling_of}
use Rattle.model.specs.Ceilings.{within}
use Rattle.model.specs.Valid.{ValidAccount}
use Rattle.model.specs.Calls.{Action, group, is_refused, group_ok, size_ok}
use Rattle.model.specs.Allocate.{supplied, allocate}
use Rattle.model.specs.Perform.{of_state, serve}
use Rattle.model.proofs.Sizes.{room_fits}
use Rattle.model.proofs.Allocated.{Allocated, gives, denies, allocated, group-least, group-most, size-least, size-most}
use Rattle.model.proofs.ValidAllocate.{allocate-valid}
use Rattle.model.proofs.Figures.{Gains, grant-gains}
use Rattle.figures.specs.Encoding.{record_in, ceiling_in}
use Rattle.figures.specs.Steps.{added}
use Rattle.figures.proofs.Encoded.{length-figures, record-encoded, ceiling-encoded}
use Rattle.account.specs.Encoding.{figures_of}
use Rattle.account.proofs.Next.{added-figures}
use Rattle.calls.specs.Arena.{Accepted}
use Rattle.calls.proofs.Caller.{other-group, own-group, gains-other, gains-own, blocks-few, held-few}

-- A request of n bytes by the group g, on an account.
module _ (x : Account) (g n : ℕ) where
  abbrev pub call : Action
  call = group (record { group = g; operation = Allocate n })

  -- What is refused, in the order of the tests, ..
  pub bad-group : group_ok g ≡ false → Denied BadGroup 0 ≡ (serve x (group (record { group = g; operation = Allocate n }))).answer
  bad-group t = rw t

  pub bad-size : group_ok g ≡ true → size_ok n ≡ false → Denied BadSize 0 ≡ (serve x (group (record { group = g; operation = Allocate n }))).answer
  bad-size t u = rw (t, u)

  pub over-ceiling : group_ok g ≡ true → size_ok n ≡ true → within (ceiling_of x g) g n (page_map x.state) ≡ false →
      Denied OverCeiling 0 ≡ (serve x (group (record { group = g; operation = Allocate n }))).answer
  over-ceiling t u r = rw (t, u, r)

  -- .. and what is not.
  pub supply-is : Accepted x g n → serve x (group (record { group = g; operation = Allocate n })) ≡ of_state x (supplied g n x.state)
  supply-is h = rw (h.group, h.size, h.ceiling)

-- The test of the ceiling, as the code makes it: in the figures f, at the index i, with the room r.
module _ (x : Account) (v : ValidAccount x) (g n : ℕ) (t : group_ok g ≡ true) (u : size_ok n ≡ true) (f : List ℕ) (e : f ≡ figures_of x) (i : ℕ) (at : i ≡ g - 1) (r : ℕ) (is : r ≡ room_for n) where
  low : g - 1 < most_group
  low = omega (arith, group-least g t, group-most g t)

  group-is : suc (g - 1) ≡ g
  group-is = omega (arith, group-least g t)

  held-is : (record_in f i).held ≡ held_of g (page_map x.state)
  held-is = (λ j. (record_in (e j) (at j)).held) ∙ ap (λ h. h.held) (record-encoded (holding_of x) (ceiling_at x) (g - 1) low) ∙ ap (λ k. held_of k (page_map x.state)) group-is

  ceiling-is : ceiling_in f i ≡ ceiling_of x g
  ceiling-is = (λ j. ceiling_in (e j) (at j)) ∙ ceiling-encoded (holding_of x) (ceiling_at x) (g - 1) low

  pub within-needs : (length f ≡ figure_words) × (((record_in f i).held ≤ most_bytes) × (r ≤ most_bytes))
  within-needs = (
    ap length e ∙ length-figures (holding_of x) (ceiling_at x),
    (omega (arith, held-is, held-few x.state v.state (g - 1), ap (λ k. held_of k (page_map x.state)) group-is), omega (arith, room_fits n (size-least n u) (size-most n u))),
  )

  pub within-is : leb ((record_in f i).held + r) (ceiling_in f i) ≡ within (ceiling_of x g) g n (page_map x.state)
  within-is = λ j. leb (held-is j + is j) (ceiling-is j)

-- The grant.
module _ (x : Account) (v : ValidAccount x) (g n : ℕ) (ok : Accepted x g n) (done : is_refused (supplied g n x.state).answer ≡ false) where
  abbrev s : State
  s = x.state

  abbrev c : ℕ
  c = ceiling_of x g

  abbrev t : State
  t = (supplied g n x.state).after

  is-supplied : allocate c g n s ≡ supplied g n s
  is-supplied = rw (ok.group, ok.size, ok.ceiling)

  least : 0 < g
  least = group-least g ok.group

  gains : (h : ℕ) → 0 < h → Gains h s t (cond (eqb g h) 1 0) (cond (eqb g h) (room_for n) 0)
  gains h p = go (allocated s v.state c g n)
    where
      go : Allocated s g (room_for n) (allocate c g n s) → Gains h s t (cond (eqb g h) 1 0) (cond (eqb g h) (room_for n) 0)
      go (denies i j ans st) = true-false (ap is_refused ans) (ap (λ o. is_refused o.answer) is-supplied ∙ done)
      go (gives o k b ans fresh grp rm only) =
          subst (λ z. Gains h s z (cond (eqb g h) 1 0) (cond (eqb g h) (room_for n) 0)) (ap (λ o. o.after) is-supplied) (grant-gains s v.state h p c g n o k ans)

  own : Gains (suc (g - 1)) s t 1 (room_for n)
  own = gains-own (eqb g (suc (g - 1))) (suc (g - 1)) (room_for n) s t (own-group g least) (gains (suc (g - 1)) (omega arith))

  index-low : g - 1 < most_group
  index-low = omega (arith, least, group-most g ok.group)

  held_after : held_of (suc (g - 1)) (page_map t) ≤ most_bytes
  held_after = subst (λ o. held_of (suc (g - 1)) (page_map o.after) ≤ most_bytes) is-supplied (held-few (allocate c g n s).after (allocate-valid s v.state c g n) (g - 1))

  pub grant-fits : let h = record_in (figures_of x) (g - 1) in (h.blocks ≤ most_bytes) × (h.held + room_for n ≤ most_bytes)
  grant-fits =
      let e = record-encoded (holding_of x) (ceiling_at x) (g - 1) index-low in
      (omega (arith, ap (λ h. h.blocks) e, blocks-few s v.state (g - 1)), omega (arith, ap (λ h. h.held) e, own.held, held_after))

  pub grant-figures : added (g - 1) (room_for n) (figures_of x) ≡ figures_of (accounted x (supplied g n x.state).after)
  grant-figures = added-figures x v t (g - 1) index-low
      (λ i l ne. gains-other (eqb g (suc i)) (suc i) (room_for n) s t (other-group g i least ne) (gains (suc i) (omega arith)))
      (room_for n) own

  -- As the code has them: the figures f lent for the step, the index i and the room r.
  module _ (f : List ℕ) (e : f ≡ figures_of x) (i : ℕ) (at : i ≡ g - 1) (r : ℕ) (is : r ≡ room_for n) where
    pub grant-needs : (length f ≡ figure_words) × (((record_in f i).blocks ≤ most_bytes) × ((record_in f i).held + r ≤ most_bytes))
    grant-needs =
        let same : record_in f i ≡ record_in (figures_of x) (g - 1) = λ j. record_in (e j) (at j) in
        (ap length e ∙ length-figures (holding_of x) (ceiling_at x), (omega (arith, ap (λ h. h.blocks) same, grant-fits.0), omega (arith, ap (λ h. h.held) same, grant-fits.1)))

    pub grant-done : (v : List ℕ) → v ≡ added i r f → v ≡ figures_of (accounted x (supplied g n x.state).after)
    grant-done v q = q ∙ (λ j. added (at j) (is j) (e j)) ∙ grant-figures

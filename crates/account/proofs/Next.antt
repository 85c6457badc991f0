-- The figures after a call: where one group's words were stepped as its blocks and bytes changed, and no other group's changed, they are
-- those of the account that follows; and so where a ceiling was set. Assumes nothing.
use Prim.Native.Nat.{ℕ, suc, ◌+◌, ◌-◌, ◌<◌, max}
use mathlib.Core.Path.{◌≡◌, sym, ap, ◌∙◌}
use mathlib.Core.Bool.{cond}
use mathlib.Core.List.{List}
use native.Mathlib.Omega.{arith}
use lib.Dec.{eqb}
use lib.ListN.{length, get_or}
use Rattle.lemmas.proofs.Cases.{by_eqb}
use Rattle.model.specs.Numbers.{most_group, figure_words}
use Rattle.model.specs.declared.Holding.{Holding}
use Rattle.model.specs.State.{State}
use Rattle.model.specs.PageMap.{page_map}
use Rattle.model.specs.Holdings.{blocks_of, held_of, Account, accounted, holding_of, ceiling_at}
use Rattle.model.specs.Ceilings.{limited}
use Rattle.model.specs.Valid.{ValidAccount}
use Rattle.model.proofs.Ceilings.{limited-at}
use Rattle.model.proofs.Figures.{Gains}
use Rattle.model.proofs.Accounts.{greatest-next}
use Rattle.figures.specs.Encoding.{at_ceiling, record_in}
use Rattle.figures.specs.Steps.{added, taken, cleared, capped}
use Rattle.figures.proofs.Encoded.{length-figures, record-encoded, ceiling-encoded, rest-encoded, is-figures}
use Rattle.figures.proofs.Stepped.{Stepped, added-steps, taken-steps, cleared-steps, capped-steps}
use Rattle.account.specs.Encoding.{figures_of}

module _ (x : Account) (v : ValidAccount x) (t : State) where
  abbrev s : State
  s = x.state

  abbrev F : List ℕ
  F = figures_of x

  abbrev y : Account
  y = accounted x t

  -- A group of which nothing changed.
  same-holding : (i : ℕ) → i < most_group → Gains (suc i) s t 0 0 → holding_of x i ≡ holding_of y i
  same-holding i l g = λ j. record {
    blocks = (let e : blocks_of (suc i) (page_map s) ≡ blocks_of (suc i) (page_map t) = omega (arith, g.blocks) in e) j;
    held = (let e : held_of (suc i) (page_map s) ≡ held_of (suc i) (page_map t) = omega (arith, g.held) in e) j;
    greatest = (let e : get_or x.greatest i 0 ≡ get_or y.greatest i 0 = omega (arith, greatest-next x t i l, v.least i l, g.held) in e) j;
  }

  long : length F ≡ figure_words
  long = length-figures (holding_of x) (ceiling_at x)

  -- No group's changed.
  pub still-figures : ((i : ℕ) → i < most_group → Gains (suc i) s t 0 0) → F ≡ figures_of y
  still-figures g = is-figures (holding_of y) (ceiling_at y) F long (λ i l. record-encoded (holding_of x) (ceiling_at x) i l ∙ same-holding i l (g i l)) (ceiling-encoded (holding_of x) (ceiling_at x)) (rest-encoded (holding_of x) (ceiling_at x))

  -- One group's changed, and the words w have its new record.
  module _ (k : ℕ) (l : k < most_group) (others : (i : ℕ) → i < most_group → (i ≡ k → ⊥) → Gains (suc i) s t 0 0) where
    stepped-figures : (w : List ℕ) (r : Holding) → Stepped F w k r → r ≡ holding_of y k → w ≡ figures_of y
    stepped-figures w r h e = is-figures (holding_of y) (ceiling_at y) w h.long
        (λ i m. h.records i m ∙ by_eqb (λ b. cond b r (record_in F i) ≡ holding_of y i) i k
        (λ q. e ∙ ap (holding_of y) (sym q))
        (λ q. record-encoded (holding_of x) (ceiling_at x) i m ∙ same-holding i m (others i m q)))
        (λ i m. h.rest (at_ceiling + i) (omega arith) ∙ ceiling-encoded (holding_of x) (ceiling_at x) i m)
        (λ i a b. h.rest i (omega arith) ∙ rest-encoded (holding_of x) (ceiling_at x) i a b)

    here : record_in F k ≡ holding_of x k
    here = record-encoded (holding_of x) (ceiling_at x) k l

    next-greatest : get_or y.greatest k 0 ≡ max (get_or x.greatest k 0) (held_of (suc k) (page_map t))
    next-greatest = greatest-next x t k l

    -- It has one block more, of r bytes.
    pub added-figures : (r : ℕ) → Gains (suc k) s t 1 r → added k r F ≡ figures_of y
    added-figures r g = stepped-figures (added k r F) _ (added-steps F long k l r) (
        ap (λ (h : Holding). record { blocks = h.blocks + 1; held = h.held + r; greatest = max h.greatest (h.held + r) }) here
        ∙ (λ j. record {
          blocks = sym g.blocks j;
          held = sym g.held j;
          greatest = (let e : max (get_or x.greatest k 0) (held_of (suc k) (page_map s) + r) ≡ get_or y.greatest k 0 = omega (arith, next-greatest, g.held) in e) j;
        }))

    -- It has one block less, of r bytes; so it had one, and the bytes.
    pub taken-figures : (r : ℕ) → Gains (suc k) t s 1 r → taken k r F ≡ figures_of y
    taken-figures r g = stepped-figures (taken k r F) _ (taken-steps F long k l r) (
        ap (λ (h : Holding). record { blocks = h.blocks - 1; held = h.held - r; greatest = h.greatest }) here
        ∙ (λ j. record {
          blocks = (let e : blocks_of (suc k) (page_map s) - 1 ≡ blocks_of (suc k) (page_map t) = omega (arith, g.blocks) in e) j;
          held = (let e : held_of (suc k) (page_map s) - r ≡ held_of (suc k) (page_map t) = omega (arith, g.held) in e) j;
          greatest = (let e : get_or x.greatest k 0 ≡ get_or y.greatest k 0 = omega (arith, next-greatest, g.held, v.least k l) in e) j;
        }))

    -- It has nothing left.
    pub cleared-figures : blocks_of (suc k) (page_map t) ≡ 0 → held_of (suc k) (page_map t) ≡ 0 → cleared k F ≡ figures_of y
    cleared-figures b h = stepped-figures (cleared k F) _ (cleared-steps F long k l) (
        ap (λ (h : Holding). record { blocks = 0; held = 0; greatest = h.greatest }) here
        ∙ (λ j. record {
          blocks = sym b j;
          held = sym h j;
          greatest = (let e : get_or x.greatest k 0 ≡ get_or y.greatest k 0 = omega (arith, next-greatest, h) in e) j;
        }))

-- The group g's ceiling is c.
pub capped-figures : (x : Account) → ValidAccount x → (g c : ℕ) → g - 1 < most_group → capped (g - 1) c (figures_of x) ≡ figures_of (limited g c x)
capped-figures x v g c l =
    let k = capped-steps (figures_of x) (length-figures (holding_of x) (ceiling_at x)) (g - 1) l c in
    is-figures (holding_of (limited g c x)) (ceiling_at (limited g c x)) (capped (g - 1) c (figures_of x)) k.long
    (λ i m. k.records i m ∙ record-encoded (holding_of x) (ceiling_at x) i m)
    (λ i m. k.ceilings i ∙ ap (cond (eqb i (g - 1)) c) (ceiling-encoded (holding_of x) (ceiling_at x) i m) ∙ sym (limited-at g c x v l i))
    (λ i a b. k.rest i a ∙ rest-encoded (holding_of x) (ceiling_at x) i a b)

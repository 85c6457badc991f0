-- The figures at a return: what their step needs, and that it leaves those of the account that follows. Assumes nothing.
use Prim.Native.Nat.{ℕ, suc, ◌-◌, ◌≤◌, ◌<◌}
use mathlib.Core.Path.{◌≡◌, refl, sym, ap, subst, ◌∙◌}
use mathlib.Core.Option.{Option, none, some}
use mathlib.Core.Bool.{true, false, cond}
use mathlib.Core.List.{List}
use native.Mathlib.Omega.{arith}
use lib.Dec.{eqb}
use lib.ListN.{length}
use Rattle.lemmas.proofs.Cases.{bool, true-false}
use Rattle.model.specs.Numbers.{most_group, figure_words}
use Rattle.model.specs.declared.Operation.TheVariants.{Free}
use Rattle.model.specs.declared.Answer.{Answer}
use Rattle.model.specs.declared.Answer.TheVariants.{Granted, Denied, Refused, Done, Counted, Block as Told}
use Rattle.model.specs.State.{State}
use Rattle.model.specs.PageMap.{page_map, Block, group_of, room_of, block_at}
use Rattle.model.specs.Holdings.{Account, accounted, holding_of, ceiling_at}
use Rattle.model.specs.Valid.{ValidAccount}
use Rattle.model.specs.Calls.{is_refused, group_ok}
use Rattle.model.specs.Free.{free_block, free}
use Rattle.model.specs.Trim.{described}
use Rattle.model.proofs.Validity.{asked-group}
use Rattle.model.proofs.Figures.{Gains, return-gains}
use Rattle.figures.specs.Encoding.{record_in}
use Rattle.figures.specs.Steps.{taken}
use Rattle.figures.proofs.Encoded.{length-figures, record-encoded}
use Rattle.account.specs.Encoding.{figures_of}
use Rattle.account.proofs.Next.{taken-figures}
use Rattle.calls.proofs.Caller.{caller, other-group, own-group, gains-other, gains-own}

-- The room that an answer tells of a block, 0 where it tells of none.
abbrev pub room_told : Answer → ℕ
room_told (Granted o n) = 0
room_told (Denied k n) = 0
room_told (Refused k) = 0
room_told Done = 0
room_told (Counted n) = 0
room_told (Told g r) = r

module _ (x : Account) (v : ValidAccount x) (g o : ℕ) (done : is_refused (free g o x.state).answer ≡ false) where
  abbrev s : State
  s = x.state

  abbrev t : State
  t = (free g o x.state).after

  legal-group : group_ok g ≡ true
  legal-group = asked-group 0 g (Free o) s done

  legal : (0 < g) × (g ≤ most_group)
  legal = caller 0 g (Free o) s done

  is-done : (free g o s).answer ≡ Done
  is-done = rw legal-group (go (block_at (page_map s) o) (rw legal-group at done))
    where
      go : (y : Option Block) → is_refused (free_block g o s y).answer ≡ false → (free_block g o s y).answer ≡ Done
      go none u = true-false refl u
      go (some b) u = bool (eqb (group_of b) g) (λ q. rw q) (λ q. true-false refl (rw q at u))

  told : (h : ℕ) → 0 < h → (b : Block) × (block_at (page_map s) o ≡ some b) × (group_of b ≡ g) × Gains h t s (cond (eqb g h) 1 0) (cond (eqb g h) (room_of b) 0)
  told h p = return-gains s v.state h p g o is-done

  -- The room that a query would tell.
  room-is : (b : Block) → block_at (page_map s) o ≡ some b → room_of b ≡ room_told (described (block_at (page_map s) o))
  room-is b e = ap (λ y. room_told (described y)) (sym e)

  gains : (h : ℕ) → 0 < h → Gains h t s (cond (eqb g h) 1 0) (cond (eqb g h) (room_told (described (block_at (page_map s) o))) 0)
  gains h p = let k = told h p in subst (λ r. Gains h t s (cond (eqb g h) 1 0) (cond (eqb g h) r 0)) (room-is k.0 k.1) k.3

  own : Gains (suc (g - 1)) t s 1 (room_told (described (block_at (page_map s) o)))
  own = gains-own (eqb g (suc (g - 1))) (suc (g - 1)) _ t s (own-group g legal.0) (gains (suc (g - 1)) (omega arith))

  index-low : g - 1 < most_group
  index-low = omega (arith, legal.0, legal.1)

  pub return_fits : let h = record_in (figures_of x) (g - 1) in (0 < h.blocks) × (room_told (described (block_at (page_map x.state) o)) ≤ h.held)
  return_fits =
      let e = record-encoded (holding_of x) (ceiling_at x) (g - 1) index-low in
      (omega (arith, ap (λ h. h.blocks) e, own.blocks), omega (arith, ap (λ h. h.held) e, own.held))

  pub return-figures : taken (g - 1) (room_told (described (block_at (page_map x.state) o))) (figures_of x) ≡ figures_of (accounted x (free g o x.state).after)
  return-figures = taken-figures x v t (g - 1) index-low
      (λ i l ne. gains-back (gains-other (eqb g (suc i)) (suc i) _ t s (other-group g i legal.0 ne) (gains (suc i) (omega arith))))
      _ own
    where
      gains-back : {h : ℕ} → Gains h t s 0 0 → Gains h s t 0 0
      gains-back k = record { blocks = omega (arith, k.blocks); held = omega (arith, k.held) }

  -- As the code has them: the figures f lent for the step, the index i and the room r that was told.
  module _ (f : List ℕ) (e : f ≡ figures_of x) (i : ℕ) (at : i ≡ g - 1) (r : ℕ) (is : r ≡ room_told (described (block_at (page_map x.state) o))) where
    pub return-needs : (length f ≡ figure_words) × ((0 < (record_in f i).blocks) × (r ≤ (record_in f i).held))
    return-needs =
        let same : record_in f i ≡ record_in (figures_of x) (g - 1) = λ j. record_in (e j) (at j) in
        (ap length e ∙ length-figures (holding_of x) (ceiling_at x), (omega (arith, ap (λ h. h.blocks) same, return_fits.0), omega (arith, ap (λ h. h.held) same, return_fits.1)))

    pub return-done : (v : List ℕ) → v ≡ taken i r f → v ≡ figures_of (accounted x (free g o x.state).after)
    return-done v q = q ∙ (λ j. taken (at j) (is j) (e j)) ∙ return-figures

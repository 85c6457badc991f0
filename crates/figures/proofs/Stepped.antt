-- What the figures hold once one group's have been stepped: its own record has changed, or its ceiling; every other group's, and the words
-- behind them, are as they were. Assumes nothing.
use Prim.Native.Nat.{ℕ, ◌+◌, ◌-◌, ◌≤◌, ◌<◌, max}
use mathlib.Core.Path.{◌≡◌, refl, ap, ◌∙◌, subst}
use mathlib.Core.Bool.{Bool, true, false, cond}
use mathlib.Core.List.{List}
use native.Mathlib.Omega.{arith}
use lib.Dec.{eqb}
use lib.ListN.{length, get_or, set, length-set}
use borrow.Author.Tests.{eq-eqb, ne_eqb}
use Rattle.lemmas.proofs.Cases.{by_eqb}
use Rattle.lemmas.proofs.Sets.{get_d_set, set_same}
use Rattle.model.specs.Numbers.{most_group, figure_words}
use Rattle.model.specs.declared.Holding.{Holding}
use Rattle.figures.specs.Encoding.{at_held, at_greatest, at_ceiling, at_rest, record_in, ceiling_in}
use Rattle.figures.specs.Steps.{added, taken, cleared, capped}

-- The group at the index i holds b, h and g.
abbrev stored : List ℕ → ℕ → ℕ → ℕ → ℕ → List ℕ
stored w i b h g = set (set (set w i b) (at_held + i) h) (at_greatest + i) g

module _ (w : List ℕ) (long : length w ≡ figure_words) (i : ℕ) (l : i < most_group) (b h g : ℕ) where
  two-long : length (set (set w i b) (at_held + i) h) ≡ figure_words
  two-long = length-set (set w i b) (at_held + i) h ∙ length-set w i b ∙ long

  stored-long : length (stored w i b h g) ≡ figure_words
  stored-long = length-set (set (set w i b) (at_held + i) h) (at_greatest + i) g ∙ two-long

  stored_at : (k : ℕ) → get_or (stored w i b h g) k 0 ≡ cond (eqb k (at_greatest + i)) g (cond (eqb k (at_held + i)) h (cond (eqb k i) b (get_or w k 0)))
  stored_at k =
      get_d_set (set (set w i b) (at_held + i) h) (at_greatest + i) k g 0 (omega (arith, two-long))
      ∙ ap (cond (eqb k (at_greatest + i)) g) (
      get_d_set (set w i b) (at_held + i) k h 0 (omega (arith, length-set w i b)) ∙ ap (cond (eqb k (at_held + i)) h) (get_d_set w i k b 0 (omega arith)))

  module _ (j : ℕ) (m : j < most_group) where
    at-blocks : get_or (stored w i b h g) j 0 ≡ cond (eqb j i) b (get_or w j 0)
    at-blocks = stored_at j ∙ rw (ne_eqb j (at_greatest + i) (λ q. omega arith), ne_eqb j (at_held + i) (λ q. omega arith))

    at_held_lem : get_or (stored w i b h g) (at_held + j) 0 ≡ cond (eqb j i) h (get_or w (at_held + j) 0)
    at_held_lem = by_eqb (λ t. get_or (stored w i b h g) (at_held + j) 0 ≡ cond t h (get_or w (at_held + j) 0)) j i
        (λ e. stored_at (at_held + j) ∙ rw (ne_eqb (at_held + j) (at_greatest + i) (λ q. omega arith), eq-eqb (at_held + j) (at_held + i) (omega arith)))
        (λ e. stored_at (at_held + j)
        ∙ rw (ne_eqb (at_held + j) (at_greatest + i) (λ q. omega arith), ne_eqb (at_held + j) (at_held + i) (λ q. e (omega arith)), ne_eqb (at_held + j) i (λ q. omega arith)))

    at-greatest : get_or (stored w i b h g) (at_greatest + j) 0 ≡ cond (eqb j i) g (get_or w (at_greatest + j) 0)
    at-greatest = by_eqb (λ t. get_or (stored w i b h g) (at_greatest + j) 0 ≡ cond t g (get_or w (at_greatest + j) 0)) j i
        (λ e. stored_at (at_greatest + j) ∙ rw (eq-eqb (at_greatest + j) (at_greatest + i) (omega arith)))
        (λ e. stored_at (at_greatest + j)
        ∙ rw (ne_eqb (at_greatest + j) (at_greatest + i) (λ q. e (omega arith)), ne_eqb (at_greatest + j) (at_held + i) (λ q. omega arith), ne_eqb (at_greatest + j) i (λ q. omega arith)))

    stored-record : record_in (stored w i b h g) j ≡ cond (eqb j i) (record { blocks = b; held = h; greatest = g }) (record_in w j)
    stored-record = (λ k. record { blocks = at-blocks k; held = at_held_lem k; greatest = at-greatest k }) ∙ choice (eqb j i)
      where
        choice : (t : Bool) → record { blocks = cond t b (get_or w j 0); held = cond t h (get_or w (at_held + j) 0); greatest = cond t g (get_or w (at_greatest + j) 0) }
            ≡ cond t (record { blocks = b; held = h; greatest = g }) (record_in w j)
        choice true = refl
        choice false = refl

  stored-rest : (k : ℕ) → at_ceiling ≤ k → get_or (stored w i b h g) k 0 ≡ get_or w k 0
  stored-rest k m = stored_at k ∙ rw (ne_eqb k (at_greatest + i) (λ q. omega arith), ne_eqb k (at_held + i) (λ q. omega arith), ne_eqb k i (λ q. omega arith))

-- What a step leaves: the record of the group at the index i is now x. The ceilings stay.
pub record Stepped (w v : List ℕ) (i : ℕ) (x : Holding) : Type 0 where
  pub long : length v ≡ figure_words
  pub records : (j : ℕ) → j < most_group → record_in v j ≡ cond (eqb j i) x (record_in w j)
  pub rest : (k : ℕ) → at_ceiling ≤ k → get_or v k 0 ≡ get_or w k 0

module _ (w : List ℕ) (long : length w ≡ figure_words) (i : ℕ) (l : i < most_group) where
  all-stored : (b h g : ℕ) → Stepped w (stored w i b h g) i (record { blocks = b; held = h; greatest = g })
  all-stored b h g = record { long = stored-long w long i l b h g; records = stored-record w long i l b h g; rest = stored-rest w long i l b h g }

  -- The greatest figure stays.
  two-stored : (b h : ℕ) → Stepped w (set (set w i b) (at_held + i) h) i (record { blocks = b; held = h; greatest = (record_in w i).greatest })
  two-stored b h = subst (λ v. Stepped w v i (record { blocks = b; held = h; greatest = (record_in w i).greatest })) same (all-stored b h (record_in w i).greatest)
    where
      same : stored w i b h (record_in w i).greatest ≡ set (set w i b) (at_held + i) h
      same = set_same (set (set w i b) (at_held + i) h) (at_greatest + i) (record_in w i).greatest 0 (
          get_d_set (set w i b) (at_held + i) (at_greatest + i) h 0 (omega (arith, length-set w i b))
          ∙ rw (ne_eqb (at_greatest + i) (at_held + i) (λ q. omega arith)) (get_d_set w i (at_greatest + i) b 0 (omega arith) ∙ rw (ne_eqb (at_greatest + i) i (λ q. omega arith))))

  pub added-steps : (r : ℕ) → let x = record_in w i in
      Stepped w (added i r w) i (record { blocks = x.blocks + 1; held = x.held + r; greatest = max x.greatest (x.held + r) })
  added-steps r = all-stored _ _ _

  pub taken-steps : (r : ℕ) → let x = record_in w i in Stepped w (taken i r w) i (record { blocks = x.blocks - 1; held = x.held - r; greatest = x.greatest })
  taken-steps r = two-stored _ _

  pub cleared-steps : Stepped w (cleared i w) i (record { blocks = 0; held = 0; greatest = (record_in w i).greatest })
  cleared-steps = two-stored 0 0

-- What another ceiling c of the group at the index i leaves.
pub record Capped (w v : List ℕ) (i c : ℕ) : Type 0 where
  pub long : length v ≡ figure_words
  pub records : (j : ℕ) → j < most_group → record_in v j ≡ record_in w j
  pub ceilings : (j : ℕ) → ceiling_in v j ≡ cond (eqb j i) c (ceiling_in w j)
  pub rest : (k : ℕ) → at_rest ≤ k → get_or v k 0 ≡ get_or w k 0

pub capped-steps : (w : List ℕ) → length w ≡ figure_words → (i : ℕ) → i < most_group → (c : ℕ) → Capped w (capped i c w) i c
capped-steps w long i l c = record {
  long = length-set w (at_ceiling + i) c ∙ long;
  records = λ j m n. record { blocks = other j (omega arith) n; held = other (at_held + j) (omega arith) n; greatest = other (at_greatest + j) (omega arith) n };
  ceilings = λ j. by_eqb (λ t. ceiling_in (capped i c w) j ≡ cond t c (ceiling_in w j)) j i
      (λ e. at (at_ceiling + j) ∙ rw (eq-eqb (at_ceiling + j) (at_ceiling + i) (omega arith)))
      (λ e. at (at_ceiling + j) ∙ rw (ne_eqb (at_ceiling + j) (at_ceiling + i) (λ q. e (omega arith))));
  rest = λ k m. at k ∙ rw (ne_eqb k (at_ceiling + i) (λ q. omega arith));
}
  where
    at : (k : ℕ) → get_or (capped i c w) k 0 ≡ cond (eqb k (at_ceiling + i)) c (get_or w k 0)
    at k = get_d_set w (at_ceiling + i) k c 0 (omega arith)

    other : (k : ℕ) → k < at_ceiling → get_or (capped i c w) k 0 ≡ get_or w k 0
    other k m = at k ∙ rw (ne_eqb k (at_ceiling + i) (λ q. omega arith))

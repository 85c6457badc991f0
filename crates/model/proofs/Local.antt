-- The join as document 01 says it: pages that come back are joined with a free run that ends where they begin and with one that
-- begins where they end, both if both exist. That is the join of all that touches. Assumes nothing.
use Prim.Native.Nat.{ℕ, zero, suc, ◌+◌, ◌<◌}
use mathlib.Core.Path.{◌≡◌, refl, sym, ◌∙◌, ap}
use mathlib.Core.List.{List, [], ◌∷◌, ◌++◌}
use mathlib.Core.Bool.{Bool, true, false}
use native.Mathlib.Omega.{arith}
use Rattle.lemmas.proofs.Cases.{true-false}
use Rattle.model.specs.Arena.{Segment, run, direct, zone}
use Rattle.model.specs.Valid.{Apart}
use Rattle.model.specs.Pages.{with_run, joined}
use Rattle.model.proofs.Joins.{some-run}

module _ {Z : Type 0} where
  -- Whether the last segment is a run. (b: for no segments.)
  abbrev pub ends_run : Bool → List (Segment Z) → Bool
  ends_run b [] = b
  ends_run b (run k ∷ r) = ends_run true r
  ends_run b (direct k g ∷ r) = ends_run false r
  ends_run b (zone z ∷ r) = ends_run false r

  -- All that touches is joined; no zone is freed.
  abbrev pub rejoined : ℕ → List (Segment Z) → List (Segment Z)
  rejoined n m = joined (λ _. false) n m

  -- What stands before a segment that is no run is left as it is; n free pages stand before, or none.
  prefix : (a y : List (Segment Z)) → (Apart false a → ends_run false a ≡ false → rejoined 0 (a ++ y) ≡ a ++ rejoined 0 y) × ((n : ℕ) → 0 < n → Apart true a → ends_run true a ≡ false → rejoined n (a ++ y) ≡ run n ∷ (a ++ rejoined 0 y))
  prefix [] y = (λ _ _. refl, λ n p h e. true-false refl e)
  prefix (run k ∷ r) y = (λ h e. ap (λ n. rejoined n (r ++ y)) (let q : 0 + k ≡ k = omega arith in q) ∙ (prefix r y).1 k h.1 h.2 e, λ n p h e. true-false refl h.0)
  prefix (direct k g ∷ r) y = (λ h e. cc ((prefix r y).0 h e), λ n p h e. cc (some-run n _ p, (prefix r y).0 h e))
  prefix (zone z ∷ r) y = (λ h e. cc ((prefix r y).0 h e), λ n p h e. cc (some-run n _ p, (prefix r y).0 h e))

  -- Runs that stand apart stay.
  suffix : (b : List (Segment Z)) → (Apart false b → rejoined 0 b ≡ b) × ((n : ℕ) → 0 < n → Apart true b → rejoined n b ≡ run n ∷ b)
  suffix [] = (λ _. refl, λ n p _. sym (some-run n [] p))
  suffix (run k ∷ r) = (λ h. ap (λ n. rejoined n r) (let q : 0 + k ≡ k = omega arith in q) ∙ (suffix r).1 k h.1 h.2, λ n p h. true-false refl h.0)
  suffix (direct k g ∷ r) = (λ h. cc ((suffix r).0 h), λ n p h. cc (some-run n _ p, (suffix r).0 h))
  suffix (zone z ∷ r) = (λ h. cc ((suffix r).0 h), λ n p h. cc (some-run n _ p, (suffix r).0 h))

  run_in : (n x : ℕ) (r : List (Segment Z)) → rejoined n (with_run x r) ≡ rejoined (n + x) r
  run_in n zero r = ap (λ k. rejoined k r) (omega arith)
  run_in n (suc x) r = refl

  -- n pages come back between a, b and the runs of x pages before them and y pages behind them, 0 where there is none.
  pub joined-local : (a b : List (Segment Z)) (x n y : ℕ) → 0 < n → Apart false a → ends_run false a ≡ false → Apart true b → rejoined 0 (a ++ with_run x (run n ∷ with_run y b)) ≡ a ++ (run (x + n + y) ∷ b)
  joined-local a b x n y p ha e hb =
      (prefix a (with_run x (run n ∷ with_run y b))).0 ha e ∙ ap (λ l. a ++ l) (run_in 0 x _ ∙ run_in (0 + x + n) y b ∙ (suffix b).1 _ (omega arith) hb ∙ ap (λ k. run k ∷ b) (let q : 0 + x + n + y ≡ x + n + y = omega arith in q))

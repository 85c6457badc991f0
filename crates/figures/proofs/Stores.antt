-- The list while `fill` is at work: its first records are written, and the rest are as they were. Assumes nothing.
use Prim.Native.Nat.{ℕ, zero, suc, ◌+◌}
use native.Mathlib.Nat.{zero-add, add-zero, suc-add, add-suc}
use native.Mathlib.Numerals.{add-one}
use mathlib.Core.Path.{◌≡◌, refl, sym, ◌∙◌, ap}
use mathlib.Core.Bool.{false, cond}
use mathlib.Core.List.{List, [], ◌∷◌}
use lib.Dec.{eqb}
use lib.ListN.{length, set}
use borrow.Author.Tests.{eq-eqb}
use Rattle.lemmas.specs.ListFrom.{list_from}
use Rattle.model.specs.Numbers.{most_group}
use Rattle.model.specs.declared.Holding.{Holding}
use Rattle.figures.specs.Encoding.{record_in}
use Rattle.figures.specs.Records.{records_in, filled}

-- The first n written, with the records of the groups from index g on.
pub begun : List ℕ → ℕ → ℕ → List Holding → List Holding
begun w g zero l = l
begun w g (suc n) [] = []
begun w g (suc n) (x ∷ l) = record_in w g ∷ begun w (suc g) n l

pub begun-none : (w : List ℕ) (l : List Holding) → l ≡ begun w 0 0 l
unfolding begun
begun-none w l = refl

pub begun-length : (w : List ℕ) (g n : ℕ) (l : List Holding) → length (begun w g n l) ≡ length l
unfolding begun
begun-length w g zero l = refl
begun-length w g (suc n) [] = refl
begun-length w g (suc n) (x ∷ l) = ap suc (begun-length w (suc g) n l)

begun-more-from : (w : List ℕ) (g n : ℕ) (l : List Holding) → set (begun w g n l) n (record_in w (n + g)) ≡ begun w g (suc n) l
unfolding begun
begun-more-from w g zero [] = refl
begun-more-from w g zero (x ∷ l) = ap (λ (k : ℕ). record_in w k ∷ l) (zero-add g)
begun-more-from w g (suc n) [] = refl
begun-more-from w g (suc n) (x ∷ l) =
    ap (λ (k : ℕ). record_in w g ∷ set (begun w (suc g) n l) n (record_in w k)) (suc-add n g ∙ sym (add-suc n g))
    ∙ ap (λ (r : List Holding). record_in w g ∷ r) (begun-more-from w (suc g) n l)

-- One more record is stored.
pub begun_more : (w : List ℕ) (i : ℕ) (l : List Holding) → set (begun w 0 i l) i (record_in w i) ≡ begun w 0 (i + 1) l
begun_more w i l =
    ap (λ (k : ℕ). set (begun w 0 i l) i (record_in w k)) (sym (add-zero i)) ∙ begun-more-from w 0 i l
    ∙ ap (λ (k : ℕ). begun w 0 k l) (sym (add-one i))

begun-all-from : (w : List ℕ) (g : ℕ) (l : List Holding) → begun w g (length l) l ≡ list_from (record_in w) g (length l)
unfolding begun list_from
begun-all-from w g [] = refl
begun-all-from w g (x ∷ l) = ap (λ (r : List Holding). record_in w g ∷ r) (begun-all-from w (suc g) l)

-- All are stored.
pub begun_all : (w : List ℕ) (l : List Holding) → length l ≡ most_group → begun w 0 most_group l ≡ filled w l
unfolding filled records_in
begun_all w l e =
    ap (λ (k : ℕ). begun w 0 k l) (sym e) ∙ begun-all-from w 0 l ∙ ap (λ (k : ℕ). list_from (record_in w) 0 k) e
    ∙ ap (λ t. cond t (records_in w) l) (sym (eq-eqb (length l) most_group e))

-- A list of another length is left as it was.
pub filled-other : (w : List ℕ) (l : List Holding) → eqb (length l) most_group ≡ false → l ≡ filled w l
unfolding filled
filled-other w l e = ap (λ t. cond t (records_in w) l) (sym e)

-- Laws of the list of a function's values: its length and elements, its pieces, when it is another list. Assumes nothing.
use Prim.Native.Nat.{ℕ, zero, suc, ◌+◌, ◌<◌}
use mathlib.Core.Path.{◌≡◌, refl, sym, ap, ◌∙◌}
use mathlib.Core.List.{List}
use native.Mathlib.Nat.{add-zero, not-suc-le-zero, le_of_suc-le-suc}
use native.Mathlib.Omega.{arith}
use lib.ListN.{length, get_or}
use lib.Seq.{ext_get_or}
use Rattle.lemmas.specs.ListFrom.{list_from}

module _ {ℓ} {A : Type ℓ} where
  pub length-list_from : (f : ℕ → A) (a n : ℕ) → length (list_from f a n) ≡ n
  unfolding list_from
  length-list_from f a zero = refl
  length-list_from f a (suc n) = ap suc (length-list_from f (suc a) n)

  pub get_or-list_from : (f : ℕ → A) (a n i : ℕ) (d : A) → i < n → get_or (list_from f a n) i d ≡ f (a + i)
  unfolding list_from
  get_or-list_from f a zero i d h = absurd (not-suc-le-zero h)
  get_or-list_from f a (suc n) zero d h = ap f (sym (add-zero a))
  get_or-list_from f a (suc n) (suc i) d h = get_or-list_from f (suc a) n i d (le_of_suc-le-suc h) ∙ ap f (omega arith)

  -- A list with these elements.
  pub is-list_from : (f : ℕ → A) (a n : ℕ) (l : List A) (d : A) → length l ≡ n → ((i : ℕ) → i < n → get_or l i d ≡ f (a + i)) → l ≡ list_from f a n
  is-list_from f a n l d e h =
      ext_get_or d l _ (e ∙ sym (length-list_from f a n))
      (λ i k. let b : i < n = omega arith in h i b ∙ sym (get_or-list_from f a n i d b))

-- Laws of zero words: so many of them, in pieces and parts, and stretches of zeros in a list. Assumes nothing.
use Prim.Native.Nat.{ℕ, zero, suc, ◌+◌, ◌-◌, ◌≤◌, ◌<◌}
use mathlib.Core.Path.{◌≡◌, refl, sym, ap, ◌∙◌}
use mathlib.Core.Bool.{true}
use mathlib.Core.List.{List, ◌++◌}
use native.Mathlib.Omega.{arith}
use lib.ListN.{length, drop, get_or, set, length-replicate, replicate-append-replicate, length-drop}
use lib.Seq.{ext_get_or, get_or-drop, get_or-set_other, length-take-le}
use Rattle.lemmas.specs.Every.{every}
use Rattle.lemmas.specs.Parts.{mid}
use Rattle.lemmas.specs.Zeros.{zeros, is_zero, Zero}
use Rattle.lemmas.proofs.Every.{every-equal, equal-every}
use Rattle.lemmas.proofs.Parts.{get_or-mid}

-- ---- so many zeros

pub length-zeros : (n : ℕ) → length (zeros n) ≡ n
unfolding zeros
length-zeros n = length-replicate n 0

-- At every index, past the end too.
pub get_or-zeros : (n i : ℕ) → get_or (zeros n) i 0 ≡ 0
unfolding zeros
get_or-zeros zero i = refl
get_or-zeros (suc n) zero = refl
get_or-zeros (suc n) (suc i) = get_or-zeros n i

pub zeros-add : (a b : ℕ) → zeros (a + b) ≡ zeros a ++ zeros b
unfolding zeros
zeros-add a b = sym (replicate-append-replicate a b 0)

-- A list whose every word is zero.
pub is-zeros : (n : ℕ) (s : List ℕ) → length s ≡ n → ((i : ℕ) → i < n → get_or s i 0 ≡ 0) → s ≡ zeros n
is-zeros n s e h = ext_get_or 0 s (zeros n) (e ∙ sym (length-zeros n)) (λ i l. h i (omega arith) ∙ sym (get_or-zeros n i))

pub drop-zeros : (a n : ℕ) → drop a (zeros n) ≡ zeros (n - a)
drop-zeros a n = is-zeros (n - a) (drop a (zeros n)) (length-drop a (zeros n) ∙ omega (arith, length-zeros n)) (λ i _. get_or-drop a (zeros n) i 0 ∙ get_or-zeros n (a + i))

-- A scan for zeros.
pub every-zeros : (n : ℕ) → every is_zero (zeros n) ≡ true
unfolding zeros
every-zeros n = equal-every 0 n

pub zeros-every : (s : List ℕ) → every is_zero s ≡ true → s ≡ zeros (length s)
unfolding zeros
zeros-every s e = every-equal 0 s e

-- ---- a stretch of zeros

pub zeros-zero : (n a b : ℕ) → Zero (zeros n) a b
zeros-zero n a b = record { at = λ i l k. get_or-zeros n i }

module _ {w : List ℕ} where
  -- As a part of the list.
  pub zero-mid : {a b : ℕ} → b ≤ length w → Zero w a b → mid a (b - a) w ≡ zeros (b - a)
  zero-mid {a} {b} h z =
      is-zeros (b - a) _ (length-take-le (b - a) (drop a w) (simp length-drop (omega arith)))
      (λ i l. get_or-mid a (b - a) w i 0 l ∙ z.at (a + i) (omega arith) (omega arith))

  pub mid-zero : (a b : ℕ) → mid a (b - a) w ≡ zeros (b - a) → Zero w a b
  mid-zero a b e =
      record {
        at = λ i l k.
            let q : a + (i - a) ≡ i = omega arith in
            ap (λ n. get_or w n 0) (sym q) ∙ sym (get_or-mid a (b - a) w (i - a) 0 (omega arith))
            ∙ ap (λ x. get_or x (i - a) 0) e ∙ get_or-zeros (b - a) (i - a);
      }

  -- A store outside it.
  pub zero-set : {a b : ℕ} (j v : ℕ) → (a ≤ j → j < b → ⊥) → Zero w a b → Zero (set w j v) a b
  zero-set j v n z = record { at = λ i l k. get_or-set_other w j i v 0 (λ e. n (omega arith) (omega arith)) ∙ z.at i l k }

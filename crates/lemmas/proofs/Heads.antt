-- A list from an index on: its next element, what is known of it when its front is. Assumes nothing.
use Prim.Native.Nat.{ℕ, suc, ◌+◌, ◌-◌, ◌≤◌, ◌<◌}
use mathlib.Core.Path.{◌≡◌, refl, sym, ◌∙◌}
use mathlib.Core.List.{List, [], ◌∷◌, ◌++◌}
use native.Mathlib.Numerals.{add-one}
use native.Mathlib.Omega.{arith}
use lib.ListN.{length, take, drop, get_or, set, length-drop}
use lib.Seq.{take-suc, drop-cons, take-suc-set, drop-set-lt, drop-drop, drop_at}

module _ {ℓ} {A : Type ℓ} where
  -- ---- the next element, at i + 1

  pub next_word : (w : List A) (i : ℕ) (d : A) → i < length w → drop i w ≡ get_or w i d ∷ drop (i + 1) w
  next_word w i d h = rw add-one (drop-cons w i d h)

  pub take_next : (w : List A) (i : ℕ) (d : A) → i < length w → take (i + 1) w ≡ take i w ++ (get_or w i d ∷ [])
  take_next w i d h = rw add-one (take-suc w i d h)

  pub take_set_next : (w : List A) (i : ℕ) (v : A) → i < length w → take (i + 1) (set w i v) ≡ take i w ++ (v ∷ [])
  take_set_next w i v h = rw add-one (take-suc-set w i v h)

  pub drop-set-next : (w : List A) (i : ℕ) (v : A) → drop (i + 1) (set w i v) ≡ drop (i + 1) w
  drop-set-next w i v = drop-set-lt (i + 1) w i v (omega arith)

  -- ---- what stands from an index on is known

  pub head-is : (s : List A) (at : ℕ) (c d : A) (t : List A) → drop at s ≡ c ∷ t → (at < length s) × (get_or s at d ≡ c) × (drop (at + 1) s ≡ t)
  head-is s at c d t e =
      let l : length s - at ≡ suc (length t) = cc (length-drop at s) in
      let h : at < length s = omega arith in
      let q : get_or s at d ∷ drop (at + 1) s ≡ c ∷ t = sym (next_word s at d h) ∙ e in
      (h, cc, cc)

  pub head-none : (s : List A) (at : ℕ) → drop at s ≡ [] → length s ≤ at
  head-none s at e = let l : length s - at ≡ 0 = cc (length-drop at s) in omega arith

  pub front-after : (s : List A) (at : ℕ) (x t : List A) → drop at s ≡ x ++ t → drop (at + length x) s ≡ t
  front-after s at x t e = cc (drop-drop (length x) at s, drop_at x t (length x) refl)

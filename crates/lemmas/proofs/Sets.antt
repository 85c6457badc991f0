-- Laws of stores into a list: any element after one, two side by side, a run of them. Assumes nothing.
use Prim.Native.Nat.{ℕ, suc, ◌+◌, ◌≤◌, ◌<◌}
use mathlib.Core.Path.{◌≡◌, ap, ◌∙◌}
use mathlib.Core.Bool.{cond}
use mathlib.Core.List.{List, [], ◌∷◌, ◌++◌, append_assoc}
use native.Mathlib.Nat.{add-zero}
use native.Mathlib.Omega.{arith}
use lib.Dec.{eqb}
use lib.ListN.{length, take, get_or, set}
use lib.Seq.{get_or-set_same, get_or-set_other, set-get_or, drop-drop, sets, sets-eq}
use Rattle.lemmas.specs.Parts.{put_mid}
use Rattle.lemmas.proofs.Cases.{by_eqb}

module _ {ℓ} {A : Type ℓ} where
  pub get_d_set : (l : List A) (i j : ℕ) (v d : A) → i < length l → get_or (set l i v) j d ≡ cond (eqb j i) v (get_or l j d)
  get_d_set l i j v d h =
      by_eqb (λ t. get_or (set l i v) j d ≡ cond t v (get_or l j d)) j i
      (λ e. cc (get_or-set_same l i v d h))
      (λ n. get_or-set_other l i j v d n)

  -- A store of what stands there.
  pub set_same : (l : List A) (i : ℕ) (v d : A) → get_or l i d ≡ v → set l i v ≡ l
  set_same l i v d e = cc (set-get_or l i d)

  -- ---- a run of stores

  -- One run after another.
  pub sets-append : (xs ys l : List A) (i : ℕ) → sets (sets l i xs) (i + length xs) ys ≡ sets l i (xs ++ ys)
  sets-append [] ys l i = cc (add-zero i)
  sets-append (x ∷ xs) ys l i =
      ap (λ k. sets (sets (set l i x) (suc i) xs) k ys) (omega arith) ∙ sets-append xs ys (set l i x) (suc i)

  -- Within the list the run takes the place of a part.
  pub sets-put : (vs l : List A) (i : ℕ) → i + length vs ≤ length l → sets l i vs ≡ put_mid i (length vs) l vs
  sets-put vs l i h =
      cc (sets-eq vs l i h, append_assoc (take i l) vs _, drop-drop (length vs) i l)

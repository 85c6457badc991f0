-- Laws of the elements that pass a test: which they are, how many, of a joined list. Assumes nothing.
use Prim.Native.Nat.{◌+◌}
use mathlib.Core.Path.{◌≡◌, refl, sym, ap, ◌∙◌}
use mathlib.Core.Bool.{Bool, true, false, cond, not, ◌&&◌}
use mathlib.Core.List.Memᴰ
use mathlib.Core.List.{List, [], ◌∷◌, ◌++◌, append_assoc, Memᴰ}
use native.Mathlib.Omega.{arith}
use lib.ListN.{length}
use borrow.Author.Tests.{not-true}
use Rattle.lemmas.specs.Every.{every, count}
use Rattle.lemmas.specs.Keep.{keep}
use Rattle.lemmas.proofs.Cases.{and_left, and_right}

module _ {ℓ} {A : Type ℓ} (p : A → Bool) where
  pub keep_append : (a b : List A) → keep p (a ++ b) ≡ keep p a ++ keep p b
  unfolding keep
  keep_append [] b = refl
  keep_append (x ∷ a) b =
      cc (keep_append a b, append_assoc _ (keep p a) (keep p b))

  pub length-keep : (l : List A) → length (keep p l) ≡ count p l
  unfolding keep count
  length-keep [] = refl
  length-keep (x ∷ l) = go (p x) (length-keep l)
    where
      go : (b : Bool) → length (keep p l) ≡ count p l → length (cond b (x ∷ []) [] ++ keep p l) ≡ cond b 1 0 + count p l
      go true e = omega arith
      go false e = omega arith

  -- An element that is kept passes, and stood there; one that passes is kept.
  pub keep-in : {y : A} (l : List A) → Memᴰ y (keep p l) → (p y ≡ true) × Memᴰ y l
  unfolding keep
  keep-in [] m = absurd (Memᴰ.not-nil m)
  keep-in {y} (x ∷ l) m = go (p x) refl m (keep-in l)
    where
      go : (b : Bool) → p x ≡ b → Memᴰ y (cond b (x ∷ []) [] ++ keep p l) → (Memᴰ y (keep p l) → (p y ≡ true) × Memᴰ y l)
          → (p y ≡ true) × Memᴰ y (x ∷ l)
      go true e (Memᴰ.head q) f = (ap p q ∙ e, Memᴰ.head q)
      go true e (Memᴰ.tail k) f = ((f k).0, Memᴰ.tail (f k).1)
      go false e k f = ((f k).0, Memᴰ.tail (f k).1)

  pub keep-keeps : {y : A} {l : List A} → p y ≡ true → Memᴰ y l → Memᴰ y (keep p l)
  unfolding keep
  keep-keeps {y} {l = x ∷ l} e (Memᴰ.head q) = rw (ap p (sym q) ∙ e) (Memᴰ.head q)
  keep-keeps {y} {l = x ∷ l} e (Memᴰ.tail m) = go (p x) (keep-keeps e m)
    where
      go : (b : Bool) → Memᴰ y (keep p l) → Memᴰ y (cond b (x ∷ []) [] ++ keep p l)
      go true k = Memᴰ.tail k
      go false k = k
  keep-keeps {y = y} {l = []} e x5 = elim x5 [ ]

  -- All pass, or none does.
  pub keep_all : (l : List A) → every p l ≡ true → keep p l ≡ l
  unfolding keep every
  keep_all [] e = refl
  keep_all (x ∷ l) e = rw (and_left (p x) (every p l) e) (cc (keep_all l (and_right (p x) (every p l) e)))

  pub keep-none : (l : List A) → every (λ x. not (p x)) l ≡ true → keep p l ≡ []
  unfolding keep every
  keep-none [] e = refl
  keep-none (x ∷ l) e =
      rw (not-true (p x) (and_left (not (p x)) _ e)) (keep-none l (and_right (not (p x)) _ e))

-- One test after another.
pub count-keep {ℓ} : {A : Type ℓ} (p q : A → Bool) (l : List A) → count q (keep p l) ≡ count (λ x. p x && q x) l
unfolding keep count
count-keep p q [] = refl
count-keep p q (x ∷ l) = go (p x) (count-keep p q l)
  where
    go : (b : Bool) → count q (keep p l) ≡ count (λ x. p x && q x) l → count q (cond b (x ∷ []) [] ++ keep p l) ≡ cond (b && q x) 1 0 + count (λ x. p x && q x) l
    go true e = omega arith
    go false e = omega arith

pub keep-keep {ℓ} : {A : Type ℓ} (f g : A → Bool) (l : List A) → keep g (keep f l) ≡ keep (λ x. f x && g x) l
unfolding keep
keep-keep f g [] = refl
keep-keep {A = A} f g (x ∷ l) = go (f x) (keep-keep f g l)
  where
    go : (b : Bool) → keep g (keep f l) ≡ keep (λ x. f x && g x) l → keep g (cond b (x ∷ []) [] ++ keep f l) ≡ cond (b && g x) (x ∷ []) [] ++ keep (λ x. f x && g x) l
    go true e = cc
    go false e = e

-- Two tests that agree on the list.
pub keep_same {ℓ} : {A : Type ℓ} (f g : A → Bool) (l : List A) → ((x : A) → Memᴰ x l → f x ≡ g x) → keep f l ≡ keep g l
unfolding keep
keep_same f g [] h = refl
keep_same f g (x ∷ l) h = λ i. cond (h x (Memᴰ.head refl) i) (x ∷ []) [] ++ keep_same f g l (λ y m. h y (Memᴰ.tail m)) i

-- Laws of tests and sums over the numbers below a bound. Assumes nothing.
use Prim.Native.Nat.{ℕ, zero, suc, ◌+◌, ◌*◌, ◌≤◌, ◌<◌}
use mathlib.Core.Path.{◌≡◌, refl, sym, ap, ◌∙◌}
use mathlib.Core.Bool.{Bool, true, cond, ◌&&◌}
use mathlib.Core.List.{List, [], ◌∷◌}
use native.Mathlib.Nat.{add-zero, add-suc, not-suc-le-zero}
use native.Mathlib.Numerals.{add-one}
use native.Mathlib.Omega.{arith}
use lib.Dec.{eqb}
use lib.ListN.{length, get_or}
use borrow.Author.Tests.{ne_eqb}
use Rattle.lemmas.specs.Every.{count}
use Rattle.lemmas.specs.Below.{all_below, sum_below}
use Rattle.lemmas.proofs.Cases.{by_eqb, and_left, and_right, and_both, by-eq}

-- ---- tests

module _ (f : ℕ → Bool) where
  pub all-at : (n : ℕ) → all_below f n ≡ true → (i : ℕ) → i < n → f i ≡ true
  unfolding all_below
  all-at zero e i h = absurd (not-suc-le-zero h)
  all-at (suc n) e i h =
      by-eq i n (λ q. rw q (and_left (f n) _ e))
      (λ q. all-at n (and_right (f n) _ e) i (omega arith))

  pub all_of : (n : ℕ) → ((i : ℕ) → i < n → f i ≡ true) → all_below f n ≡ true
  unfolding all_below
  all_of zero h = refl
  all_of (suc n) h = and_both (f n) _ (h n (omega arith)) (all_of n (λ i l. h i (omega arith)))

  -- A scan's start, its next number, its end.
  pub all_none : all_below f 0 ≡ true
  unfolding all_below
  all_none = refl

  pub all_more : (i : ℕ) → all_below f (i + 1) ≡ (f i && all_below f i)
  unfolding all_below
  all_more i = rw add-one

  pub all_done : (n i : ℕ) {b : Bool} → i ≡ n → b ≡ all_below f i → b ≡ all_below f n
  all_done n i e h = cc

-- ---- sums

pub sum-none : (f : ℕ → ℕ) → sum_below f 0 ≡ 0
unfolding sum_below
sum-none f = refl

pub sum_more : (f : ℕ → ℕ) (i : ℕ) → sum_below f (i + 1) ≡ sum_below f i + f i
unfolding sum_below
sum_more f i = rw add-one (omega arith)

pub sum-eq : (f g : ℕ → ℕ) (n : ℕ) → ((i : ℕ) → i < n → f i ≡ g i) → sum_below f n ≡ sum_below g n
unfolding sum_below
sum-eq f g zero h = refl
sum-eq f g (suc n) h = let a = h n (omega arith) in let b = sum-eq f g n (λ i l. h i (omega arith)) in omega arith

pub sum_mono : (f g : ℕ → ℕ) (n : ℕ) → ((i : ℕ) → i < n → f i ≤ g i) → sum_below f n ≤ sum_below g n
unfolding sum_below
sum_mono f g zero h = omega arith
sum_mono f g (suc n) h = let a = h n (omega arith) in let b = sum_mono f g n (λ i l. h i (omega arith)) in omega arith

-- Less somewhere, and nowhere more.
pub sum_less : (f g : ℕ → ℕ) (n j : ℕ) → ((i : ℕ) → i < n → f i ≤ g i) → j < n → f j < g j → sum_below f n < sum_below g n
unfolding sum_below
sum_less f g zero j h l e = absurd (not-suc-le-zero l)
sum_less f g (suc n) j h l e =
    let a = h n (omega arith) in
    by-eq j n
    (λ q. let u = ap f q in let v = ap g q in let b = sum_mono f g n (λ i k. h i (omega arith)) in omega arith)
    (λ q. let b = sum_less f g n j (λ i k. h i (omega arith)) (omega arith) e in omega arith)

-- Two functions, one nowhere more than the other, with one sum, are the same.
pub sum-tight : (f g : ℕ → ℕ) (n : ℕ) → ((i : ℕ) → i < n → f i ≤ g i) → sum_below f n ≡ sum_below g n → (i : ℕ) → i < n → f i ≡ g i
sum-tight f g n h e i l =
    by-eq (f i) (g i) (λ q. q) (λ q. let a = h i l in let b = sum_less f g n i h l (omega arith) in absurd (omega arith))

pub sum-const : (c n : ℕ) → sum_below (λ i. c) n ≡ n * c
unfolding sum_below
sum-const c zero = omega arith
sum-const c (suc n) = let a = sum-const c n in omega arith

pub sum-zero : (f : ℕ → ℕ) (n : ℕ) → ((i : ℕ) → i < n → f i ≡ 0) → sum_below f n ≡ 0
sum-zero f n h = let a = sum-eq f (λ i. 0) n h in let b = sum-const 0 n in omega arith

-- The sum of two functions.
pub sum-add : (f g : ℕ → ℕ) (n : ℕ) → sum_below (λ i. f i + g i) n ≡ sum_below f n + sum_below g n
unfolding sum_below
sum-add f g zero = omega arith
sum-add f g (suc n) = let a = sum-add f g n in omega arith

-- The first term by itself; and the first m terms.
pub sum-front : (f : ℕ → ℕ) (n : ℕ) → sum_below f (suc n) ≡ f 0 + sum_below (λ i. f (suc i)) n
unfolding sum_below
sum-front f zero = refl
sum-front f (suc n) = let a = sum-front f n in omega arith

pub sum-split : (f : ℕ → ℕ) (m n : ℕ) → sum_below f (m + n) ≡ sum_below f m + sum_below (λ i. f (m + i)) n
unfolding sum_below
sum-split f m zero = cc (add-zero m, add-zero _)
sum-split f m (suc n) = let a = sum-split f m n in ap (sum_below f) (add-suc m n) ∙ omega arith

-- One term is within the sum.
pub sum-term : (f : ℕ → ℕ) (n i : ℕ) → i < n → f i ≤ sum_below f n
unfolding sum_below
sum-term f zero i l = absurd (not-suc-le-zero l)
sum-term f (suc n) i l =
    by-eq i n (λ q. let a = ap f q in omega arith) (λ q. let a = sum-term f n i (omega arith) in omega arith)

-- A function that is v at one number and 0 at the others: the number is not below n; it is.
pub sum-out : (c v n : ℕ) → n ≤ c → sum_below (λ i. cond (eqb i c) v 0) n ≡ 0
sum-out c v n h = sum-zero (λ i. cond (eqb i c) v 0) n (λ i l. rw (ne_eqb i c (λ e. omega arith)))

pub sum_one : (c v n : ℕ) → c < n → sum_below (λ i. cond (eqb i c) v 0) n ≡ v
unfolding sum_below
sum_one c v zero h = absurd (not-suc-le-zero h)
sum_one c v (suc n) h =
    by_eqb (λ t. cond t v 0 + sum_below (λ i. cond (eqb i c) v 0) n ≡ v) n c
    (λ e. let a = sum-out c v n (omega arith) in omega arith)
    (λ e. let a = sum_one c v n (omega arith) in omega arith)

-- A function's multiple.
pub sum-scale : (f : ℕ → ℕ) (e n : ℕ) → sum_below (λ i. f i * e) n ≡ sum_below f n * e
unfolding sum_below
sum-scale f e zero = omega arith
sum-scale f e (suc n) = let a = sum-scale f e n in omega arith

-- A function that is as φ says at the multiples of r, and 0 between them.
pub sum-stride : (f φ : ℕ → ℕ) (r k : ℕ) → 0 < r → ((j i : ℕ) → i < r → f (j * r + i) ≡ cond (eqb i 0) (φ j) 0) → sum_below f (k * r) ≡ sum_below φ k
unfolding sum_below
sum-stride f φ r zero p h = ap (sum_below f) (let e : zero * r ≡ 0 = omega arith in e)
sum-stride f φ r (suc k) p h =
    let last : sum_below (λ i. f (k * r + i)) r ≡ φ k = sum-eq (λ i. f (k * r + i)) (λ i. cond (eqb i 0) (φ k) 0) r (h k) ∙ sum_one 0 (φ k) r p in
    ap (sum_below f) (let e : suc k * r ≡ k * r + r = omega arith in e) ∙ sum-split f (k * r) r ∙ omega (arith, last, sum-stride f φ r k p h)

-- Two functions that differ at one number.
pub sum-changed : (f g : ℕ → ℕ) (n o : ℕ) → o < n → ((i : ℕ) → (i ≡ o → ⊥) → f i ≡ g i) → sum_below f n + g o ≡ sum_below g n + f o
unfolding sum_below
sum-changed f g zero o h k = absurd (not-suc-le-zero h)
sum-changed f g (suc n) o h k = by-eq o n
    (λ e. let a = sum-eq f g n (λ i l. k i (λ q. omega arith)) in let u = ap f e in let v = ap g e in omega arith)
    (λ e. let a = sum-changed f g n o (omega arith) k in let b = k n (λ q. e (sym q)) in omega arith)

-- ---- the indices of a list

module _ {ℓ} {A : Type ℓ} (p : A → Bool) where
  pub count-below : (s : List A) (d : A) → count p s ≡ sum_below (λ i. cond (p (get_or s i d)) 1 0) (length s)
  unfolding count sum_below
  count-below [] d = refl
  count-below (x ∷ s) d =
      let a = sum-front (λ i. cond (p (get_or (x ∷ s) i d)) 1 0) (length s) in let b = count-below s d in omega arith

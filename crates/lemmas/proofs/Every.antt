-- Laws of a test over a list: of a joined list, of a scan's next element and its end, of one element and of all. Assumes nothing.
use Prim.Native.Nat.{ℕ, zero, suc, ◌+◌, ◌≤◌, ◌<◌}
use mathlib.Core.Path.{◌≡◌, refl, sym, ◌∙◌}
use mathlib.Core.Bool.{Bool, true, false, cond, not, ◌&&◌}
use mathlib.Core.List.{List, [], ◌∷◌, ◌++◌, Memᴰ}
use native.Mathlib.Nat.{add-zero, zero-add, add_assoc, not-suc-le-zero, le_of_suc-le-suc, zero-lt-suc}
use native.Mathlib.Numerals.{add-one}
use native.Mathlib.Omega.{arith}
use lib.Dec.{eqb}
use lib.ListN.{length, take, drop, get_or, replicate, take-append-drop}
use lib.Seq.{take-suc, take-add, take_all}
use borrow.Author.Tests.{eq-eqb, eqb-true}
use Rattle.lemmas.specs.Every.{every, count}
use Rattle.lemmas.proofs.Cases.{true-false, and_left, and_right, and_both, one-most}
use Rattle.lemmas.proofs.Tests.{and-true, and_assoc, false_left, false_right}

module _ {ℓ} {A : Type ℓ} (p : A → Bool) where
  -- ---- every

  pub every-nil : every p [] ≡ true
  unfolding every
  every-nil = refl

  pub every_append : (a b : List A) → every p (a ++ b) ≡ (every p a && every p b)
  unfolding every
  every_append [] b = refl
  every_append (x ∷ a) b = cc (every_append a b, and_assoc (p x) (every p a) (every p b))

  pub every-split : (s : List A) (i : ℕ) → every p s ≡ (every p (take i s) && every p (drop i s))
  every-split s i = cc (take-append-drop i s, every_append (take i s) (drop i s))

  pub every-part : (s : List A) (i n : ℕ) → every p (take (i + n) s) ≡ (every p (take i s) && every p (take n (drop i s)))
  every-part s i n = cc (take-add i n s, every_append (take i s) _)

  -- One element more.
  pub every_more : (s : List A) (i : ℕ) (d : A) → i < length s → every p (take (i + 1) s) ≡ (every p (take i s) && p (get_or s i d))
  unfolding every
  every_more s i d h =
      rw (add-one, take-suc s i d)
      (cc (every_append (take i s) _, and-true _))

  -- A scan's end.
  pub every-done : (s : List A) (i : ℕ) {b : Bool} → length s ≤ i → b ≡ every p (take i s) → b ≡ every p s
  every-done s i h e = cc (take_all i s h)

  pub every-at : (s : List A) (i : ℕ) (d : A) → every p s ≡ true → i < length s → p (get_or s i d) ≡ true
  unfolding every
  every-at [] i d e h = absurd (not-suc-le-zero h)
  every-at (x ∷ s) zero d e h = and_left (p x) (every p s) e
  every-at (x ∷ s) (suc i) d e h = every-at s i d (and_right (p x) (every p s) e) (le_of_suc-le-suc h)

  pub every_of : (s : List A) (d : A) → ((i : ℕ) → i < length s → p (get_or s i d) ≡ true) → every p s ≡ true
  unfolding every
  every_of [] d h = refl
  every_of (x ∷ s) d h = and_both (p x) (every p s) (h 0 (zero-lt-suc (length s))) (every_of s d (λ i l. h (suc i) (omega arith)))

  pub every-of-members : (s : List A) → ((x : A) → Memᴰ x s → p x ≡ true) → every p s ≡ true
  unfolding every
  every-of-members [] h = refl
  every-of-members (x ∷ s) h = and_both (p x) (every p s) (h x (Memᴰ.head refl)) (every-of-members s (λ y m. h y (Memᴰ.tail m)))

  pub every-replicate : (n : ℕ) (a : A) → p a ≡ true → every p (replicate n a) ≡ true
  unfolding every
  every-replicate zero a h = refl
  every-replicate (suc n) a h = and_both (p a) _ h (every-replicate n a h)

  -- ---- a scan by blocks: of the n elements from i on, all pass; one fails; they are the last

  pub every-block : (s : List A) (i n e : ℕ) → i + n ≡ e → every p (take i s) ≡ true → every p (take n (drop i s)) ≡ true → every p (take e s) ≡ true
  every-block s i n e q a b =
      cc (every-part s i n, and_both _ _ a b)

  pub every-block-not : (s : List A) (i n : ℕ) → every p (take n (drop i s)) ≡ false → every p s ≡ false
  every-block-not s i n f =
      every-split s (i + n) ∙ false_left _ (every-part s i n ∙ false_right (every p (take i s)) f)

  pub every-block-last : (s : List A) (i n : ℕ) → length s ≤ i + n → every p (take i s) ≡ true → every p (take n (drop i s)) ≡ every p s
  every-block-last s i n h a =
      cc (every-part s i n, take_all (i + n) s h)

  -- ---- count

  pub count-nil : count p [] ≡ 0
  unfolding count
  count-nil = refl

  pub count-append : (a b : List A) → count p (a ++ b) ≡ count p a + count p b
  unfolding count
  count-append [] b = sym (zero-add (count p b))
  count-append (x ∷ a) b = cc (count-append a b, add_assoc _ (count p a) (count p b))

  -- One element more.
  pub count-more : (s : List A) (i : ℕ) (d : A) → i < length s → count p (take (i + 1) s) ≡ count p (take i s) + cond (p (get_or s i d)) 1 0
  unfolding count
  count-more s i d h =
      rw (add-one, take-suc s i d)
      (cc (count-append (take i s) _, add-zero _))

  -- A scan's number, over an element that passes and over one that fails; and its end.
  pub count-pass : (s : List A) (i : ℕ) (d : A) {n : ℕ} → i < length s → p (get_or s i d) ≡ true → n ≡ count p (take i s) → n + 1 ≡ count p (take (i + 1) s)
  count-pass s i d h t e =
      cc (count-more s i d h)

  pub count-fail : (s : List A) (i : ℕ) (d : A) {n : ℕ} → i < length s → p (get_or s i d) ≡ false → n ≡ count p (take i s) → n ≡ count p (take (i + 1) s)
  count-fail s i d h f e =
      cc (count-more s i d h, add-zero _)

  pub count-done : (s : List A) (i : ℕ) {n : ℕ} → length s ≤ i → n ≡ count p (take i s) → n ≡ count p s
  count-done s i h e = cc (take_all i s h)

  pub count-le-length : (s : List A) → count p s ≤ length s
  unfolding count
  count-le-length [] = omega arith
  count-le-length (x ∷ s) = let a = one-most (p x) in let ih = count-le-length s in omega arith

  -- The list of which all elements pass, and the list that no element of passes.
  pub count-all : (s : List A) → every p s ≡ true → count p s ≡ length s
  unfolding every count
  count-all [] e = refl
  count-all (x ∷ s) e =
      let ih = count-all s (and_right (p x) (every p s) e) in
      rw (and_left (p x) (every p s) e) (omega arith)

  pub count_none : (s : List A) → every (λ x. not (p x)) s ≡ true → count p s ≡ 0
  unfolding every count
  count_none [] e = refl
  count_none (x ∷ s) e = go (p x) e (count_none s)
    where
      go : (b : Bool) → (not b && every (λ x. not (p x)) s) ≡ true → (every (λ x. not (p x)) s ≡ true → count p s ≡ 0) → cond b 1 0 + count p s ≡ 0
      go true q f = absurd (true-false q refl)
      go false q f = let a = f q in omega arith

  -- Those that pass and those that fail.
  pub count-both : (s : List A) → count p s + count (λ x. not (p x)) s ≡ length s
  unfolding count
  count-both [] = refl
  count-both (x ∷ s) = go (p x) (count-both s)
    where
      go : (b : Bool) → count p s + count (λ x. not (p x)) s ≡ length s → cond b 1 0 + count p s + (cond (not b) 1 0 + count (λ x. not (p x)) s) ≡ suc (length s)
      go true q = omega arith
      go false q = omega arith

-- A list all of whose elements are one number is that number, as often as the list is long.
pub every-equal : (a : ℕ) (s : List ℕ) → every (λ x. eqb x a) s ≡ true → s ≡ replicate (length s) a
unfolding every
every-equal a [] e = refl
every-equal a (x ∷ s) e =
    let h = eqb-true x a (and_left (eqb x a) _ e) in
    let t = every-equal a s (and_right (eqb x a) _ e) in
    cc

pub equal-every : (a n : ℕ) → every (λ x. eqb x a) (replicate n a) ≡ true
equal-every a n = every-replicate (λ x. eqb x a) n a (eq-eqb a a refl)

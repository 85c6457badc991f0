-- Laws of lists that no element stands in twice, and of a list without a number. Assumes nothing.
use Prim.Native.Nat.{ℕ, ◌+◌, ◌≤◌}
use mathlib.Core.Path.{◌≡◌, refl, sym}
use mathlib.Core.Bool.{Bool, not}
use mathlib.Core.List.Memᴰ
use mathlib.Core.List.{List, [], ◌∷◌, ◌++◌, Memᴰ}
use mathlib.Core.Logic.{⊎_elim}
use native.Mathlib.Omega.{arith}
use lib.Dec.{eqb}
use lib.ListN.{length}
use borrow.Author.Tests.{eq-eqb, ne_eqb, eqb-false, not-true}
use Rattle.lemmas.specs.Keep.{keep}
use Rattle.lemmas.specs.Times.{times, Distinct, remove}
use Rattle.lemmas.proofs.Cases.{bool, by-eq}
use Rattle.lemmas.proofs.Every.{every-of-members, count-both}
use Rattle.lemmas.proofs.Keep.{keep_append, length-keep, keep-in, keep-keeps, keep_all}
use Rattle.lemmas.proofs.Times.{times-nil, times-cons, times-here, times-there, member-times, times-member, times-absent, absent-times}

-- ---- no element twice

module _ {ℓ} {A : Type ℓ} where
  pub distinct_append : (a b : List A) → Distinct a → Distinct b → ((x : A) → Memᴰ x a → Memᴰ x b → ⊥) → Distinct (a ++ b)
  distinct_append [] b h k n = k
  distinct_append (x ∷ a) b h k n =
      (λ m. ⊎_elim h.0 (n x (Memᴰ.head refl)) (Memᴰ.append_cases a m), distinct_append a b h.1 k (λ y m. n y (Memᴰ.tail m)))

  pub distinct-left : (a b : List A) → Distinct (a ++ b) → Distinct a
  distinct-left [] b h = tt
  distinct-left (x ∷ a) b h = (λ m. h.0 (Memᴰ.append_left b m), distinct-left a b h.1)

  pub distinct-right : (a b : List A) → Distinct (a ++ b) → Distinct b
  distinct-right [] b h = h
  distinct-right (x ∷ a) b h = distinct-right a b h.1

  -- The two parts have no element in common.
  pub distinct_apart : (a b : List A) → Distinct (a ++ b) → {x : A} → Memᴰ x a → Memᴰ x b → ⊥
  distinct_apart (y ∷ a) b h (Memᴰ.head e) k = h.0 (Memᴰ.append_right a (Memᴰ.cast (sym e) k))
  distinct_apart (y ∷ a) b h (Memᴰ.tail m) k = distinct_apart a b h.1 m k
  distinct_apart [] b h x5 k = elim x5 [ ]

  pub distinct-keep : (p : A → Bool) (l : List A) → Distinct l → Distinct (keep p l)
  unfolding keep
  distinct-keep p [] h = tt
  distinct-keep p (x ∷ l) h =
      bool (p x) (λ e. rw e (λ m. h.0 (keep-in p l m).1, distinct-keep p l h.1)) (λ e. rw e (distinct-keep p l h.1))

-- Of numbers: none stands more than once.
pub distinct-times : (l : List ℕ) → Distinct l → (q : ℕ) → times q l ≤ 1
distinct-times [] h q = omega (arith, times-nil q)
distinct-times (x ∷ l) h q =
    by-eq q x
    (λ e. let a = times-absent q l (λ m. h.0 (Memᴰ.cast (sym e) m)) in omega (arith, times-here q l e))
    (λ n. let a = distinct-times l h.1 q in omega (arith, times-there q l n))

pub times-distinct : (l : List ℕ) → ((q : ℕ) → times q l ≤ 1) → Distinct l
times-distinct [] h = tt
times-distinct (x ∷ l) h = (
  absent-times x (let a = h x in omega (arith, times-here x l refl)),
  times-distinct l (λ q. let a = h q in omega (arith, times-cons q x l)),
)

-- What stands in such a list stands no more often than in any list that has it.
pub distinct-le : (a b : List ℕ) → Distinct a → ((x : ℕ) → Memᴰ x a → Memᴰ x b) → (q : ℕ) → times q a ≤ times q b
distinct-le a b h f q =
    by-eq (times q a) 0 (λ e. omega arith)
    (λ n.
    let m = member-times q (f q (times-member q a (omega arith))) in
    let k = distinct-times a h q in omega arith)

-- Two such lists with the same members.
pub distinct-perm : (a b : List ℕ) → Distinct a → Distinct b → ((x : ℕ) → Memᴰ x a → Memᴰ x b) → ((x : ℕ) → Memᴰ x b → Memᴰ x a)
    → (q : ℕ) → times q a ≡ times q b
distinct-perm a b h k f g q = let x = distinct-le a b h f q in let y = distinct-le b a k g q in omega arith

-- ---- without a number

module _ (q : ℕ) where
  pub remove-here : {x : ℕ} (l : List ℕ) → q ≡ x → remove q (x ∷ l) ≡ remove q l
  unfolding remove keep
  remove-here {x} l e = rw (eq-eqb q x e)

  pub remove-there : {x : ℕ} (l : List ℕ) → (q ≡ x → ⊥) → remove q (x ∷ l) ≡ x ∷ remove q l
  unfolding remove keep
  remove-there {x} l n = rw (ne_eqb q x n)

  pub remove-append : (a b : List ℕ) → remove q (a ++ b) ≡ remove q a ++ remove q b
  unfolding remove
  remove-append a b = keep_append (λ x. not (eqb q x)) a b

  -- A member of what is left is another number, and stood there; another number that stood there is left.
  pub remove-in : {r : ℕ} (l : List ℕ) → Memᴰ r (remove q l) → (q ≡ r → ⊥) × Memᴰ r l
  unfolding remove
  remove-in {r} l m = let h = keep-in (λ x. not (eqb q x)) l m in (eqb-false q r (not-true (eqb q r) h.0), h.1)

  pub remove-keeps : {r : ℕ} {l : List ℕ} → (q ≡ r → ⊥) → Memᴰ r l → Memᴰ r (remove q l)
  unfolding remove
  remove-keeps {r} n m = keep-keeps (λ x. not (eqb q x)) (rw (ne_eqb q r n)) m

  pub remove-gone : (l : List ℕ) → Memᴰ q (remove q l) → ⊥
  remove-gone l m = (remove-in l m).0 refl

  pub remove_absent : (l : List ℕ) → (Memᴰ q l → ⊥) → remove q l ≡ l
  unfolding remove
  remove_absent l n =
      keep_all (λ x. not (eqb q x)) l
      (every-of-members (λ x. not (eqb q x)) l (λ x m. rw (ne_eqb q x (λ e. n (Memᴰ.cast e m)))))

  pub remove-distinct : (l : List ℕ) → Distinct l → Distinct (remove q l)
  unfolding remove
  remove-distinct l h = distinct-keep (λ x. not (eqb q x)) l h

  pub length-remove : (l : List ℕ) → times q l + length (remove q l) ≡ length l
  unfolding remove times
  length-remove l =
      cc (length-keep (λ x. not (eqb q x)) l, count-both (λ x. eqb q x) l)

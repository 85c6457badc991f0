-- Laws of how often a number stands in a list: of a joined list, against membership, summed over a bound, and of two lists with the same numbers. Assumes nothing.
use Prim.Native.Nat.{ℕ, suc, ◌+◌, ◌≤◌, ◌<◌}
use mathlib.Core.Path.{◌≡◌, refl, sym, ◌∙◌}
use mathlib.Core.Bool.{cond}
use mathlib.Core.List.{List, [], ◌∷◌, ◌++◌, Memᴰ}
use native.Mathlib.Omega.{arith}
use lib.Dec.{eqb}
use lib.ListN.{length, get_or}
use borrow.Author.Tests.{eq-eqb, ne_eqb}
use Rattle.lemmas.specs.Every.{count}
use Rattle.lemmas.specs.Below.{sum_below}
use Rattle.lemmas.specs.Times.{times, above}
use Rattle.lemmas.proofs.Cases.{by-eq, by-lt}
use Rattle.lemmas.proofs.Every.{count-append, count-le-length}
use Rattle.lemmas.proofs.Below.{sum-eq, sum-zero, sum-add, sum_one, sum-tight}

module _ (q : ℕ) where
  pub times-nil : times q [] ≡ 0
  unfolding times count
  times-nil = refl

  pub times-cons : (x : ℕ) (l : List ℕ) → times q (x ∷ l) ≡ cond (eqb q x) 1 0 + times q l
  unfolding times count
  times-cons x l = refl

  pub times-here : {x : ℕ} (l : List ℕ) → q ≡ x → times q (x ∷ l) ≡ suc (times q l)
  times-here {x} l e = times-cons x l ∙ rw (eq-eqb q x e) (omega arith)

  pub times-there : {x : ℕ} (l : List ℕ) → (q ≡ x → ⊥) → times q (x ∷ l) ≡ times q l
  times-there {x} l n = times-cons x l ∙ rw (ne_eqb q x n) (omega arith)

  pub times-append : (a b : List ℕ) → times q (a ++ b) ≡ times q a + times q b
  unfolding times
  times-append a b = count-append (λ x. eqb q x) a b

  pub times-most : (l : List ℕ) → times q l ≤ length l
  unfolding times
  times-most l = count-le-length (λ x. eqb q x) l

  -- Among zeros no other number stands.
  pub times-zeros : (l : List ℕ) → 0 < q → ((i : ℕ) → get_or l i 0 ≡ 0) → times q l ≡ 0
  times-zeros [] p h = times-nil
  times-zeros (x ∷ l) p h = times-there l (λ e. let z = h 0 in omega arith) ∙ times-zeros l p (λ i. h (suc i))

  -- ---- membership

  pub member-times : {l : List ℕ} → Memᴰ q l → 0 < times q l
  member-times {l = x ∷ l} (Memᴰ.head e) = rw (times-here l e) (omega arith)
  member-times {l = x ∷ l} (Memᴰ.tail m) = let a = member-times m in rw (times-cons x l) (omega arith)
  member-times {l = []} x'' = elim x'' [ ]

  pub times-member : (l : List ℕ) → 0 < times q l → Memᴰ q l
  times-member [] h = absurd (omega (arith, times-nil))
  times-member (x ∷ l) h =
      by-eq q x (λ e. Memᴰ.head e) (λ n. Memᴰ.tail (times-member l (rw (times-there l n) at h)))

  pub times-absent : (l : List ℕ) → (Memᴰ q l → ⊥) → times q l ≡ 0
  times-absent l n = by-eq (times q l) 0 (λ e. e) (λ h. absurd (n (times-member l (omega arith))))

  pub absent-times : {l : List ℕ} → times q l ≡ 0 → Memᴰ q l → ⊥
  absent-times e m = let a = member-times m in omega arith

-- ---- a bound of the entries

pub member-above : {q : ℕ} {l : List ℕ} → Memᴰ q l → q < above l
unfolding above
member-above {l = x ∷ l} (Memᴰ.head e) = omega arith
member-above {l = x ∷ l} (Memᴰ.tail m) = let a = member-above m in omega arith
member-above {q = q} {l = []} x'' = elim x'' [ ]

pub times-past : (n : ℕ) (l : List ℕ) → ((x : ℕ) → Memᴰ x l → x < n) → (q : ℕ) → n ≤ q → times q l ≡ 0
times-past n l h q k = times-absent q l (λ m. let a = h q m in omega arith)

pub times_above : (q : ℕ) (l : List ℕ) → above l ≤ q → times q l ≡ 0
times_above q l h = times-past (above l) l (λ x m. member-above m) q h

-- Summed over a bound of its entries, the times of a list are its length.
pub sum-times : (l : List ℕ) (n : ℕ) → ((q : ℕ) → n ≤ q → times q l ≡ 0) → sum_below (λ q. times q l) n ≡ length l
sum-times [] n h = sum-zero (λ q. times q []) n (λ q l. times-nil q)
sum-times (x ∷ l) n h =
    let below : x < n = by-lt x n (λ k. k) (λ k. absurd (let a = h x k in omega (arith, times-here x l refl))) in
    sum-eq (λ q. times q (x ∷ l)) (λ q. cond (eqb q x) 1 0 + times q l) n (λ q k. times-cons q x l)
    ∙ sum-add (λ q. cond (eqb q x) 1 0) (λ q. times q l) n
    ∙ (let a = sum_one x 1 n below in
    let b = sum-times l n (λ q k. let c = h q k in omega (arith, times-cons q x l)) in
    omega arith)

-- ---- two lists with the same numbers, each as often

pub perm-length : (a b : List ℕ) → ((q : ℕ) → times q a ≡ times q b) → length a ≡ length b
perm-length a b h =
    let n : ℕ = above a + above b in
    sym (sum-times a n (λ q l. times_above q a (omega arith)))
    ∙ sum-eq (λ q. times q a) (λ q. times q b) n (λ q l. h q)
    ∙ sum-times b n (λ q l. times_above q b (omega arith))

-- Two lists of one length, one of which has nothing more often than the other.
pub perm-of : (a b : List ℕ) → length a ≡ length b → ((q : ℕ) → times q b ≤ times q a) → (q : ℕ) → times q a ≡ times q b
perm-of a b e h q =
    let n : ℕ = suc q + (above a + above b) in
    sym
    (sum-tight (λ i. times i b) (λ i. times i a) n (λ i l. h i)
    (cc (sum-times b n (λ i l. times_above i b (omega arith)), sum-times a n (λ i l. times_above i a (omega arith)))) q (omega arith))

pub perm-member : {a b : List ℕ} {q : ℕ} → ((i : ℕ) → times i a ≡ times i b) → Memᴰ q a → Memᴰ q b
perm-member {a} {b} {q} h m = times-member q b (let k = member-times q m in let e = h q in omega arith)

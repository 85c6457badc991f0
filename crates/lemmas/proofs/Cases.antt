-- Proofs by cases: on a Boolean, on a test of two numbers, on a conjunction, on an option. Assumes nothing.
use Prim.Native.Nat.{ℕ, ◌≤◌, ◌<◌}
use mathlib.Core.Path.{◌≡◌, refl}
use mathlib.Core.Option.{none, some, some-injective, none-ne-some}
use mathlib.Core.Bool.{Bool, true, false, cond, ◌&&◌}
use native.Mathlib.Omega.{arith}
use lib.Dec.{ltb, leb, eqb}
use borrow.Author.Tests.{ltb-true, ltb-false, leb-true, leb-false, eqb-true, eqb-false}

-- Anything follows where two constructors are the same: `clash (cc)`, from the equations in scope.
pub clash {ℓ} : {P : Type ℓ} → ◌≡◌ {A = ℕ} 0 1 → P
clash e = absurd (omega arith)

pub true-false {ℓ} : {P : Type ℓ} {b : Bool} → b ≡ true → b ≡ false → P
true-false p q = clash (cc)

pub none-some {ℓ κ} : {A : Type ℓ} {P : Type κ} {a : A} → none ≡ some a → P
none-some {a} e = absurd (none-ne-some a e)

-- A claim, by the value of a Boolean.
pub bool {ℓ} : {P : Type ℓ} (b : Bool) → (b ≡ true → P) → (b ≡ false → P) → P
bool true f g = f refl
bool false f g = g refl

-- What holds of both branches of a choice holds of the choice.
pub either {ℓ κ} : {A : Type ℓ} (P : A → Type κ) (b : Bool) (x y : A) → (b ≡ true → P x) → (b ≡ false → P y) → P (cond b x y)
either P true x y f g = f refl
either P false x y f g = g refl

pub cond_same {ℓ} : {A : Type ℓ} (b : Bool) (a : A) → cond b a a ≡ a
cond_same true a = refl
cond_same false a = refl

-- What a test adds to a count is at most one.
pub one-most : (b : Bool) → cond b 1 0 ≤ 1
one-most true = omega arith
one-most false = omega arith

-- A claim, by the order of two numbers.
pub by-eq {ℓ} : {P : Type ℓ} (a b : ℕ) → (a ≡ b → P) → ((a ≡ b → ⊥) → P) → P
by-eq a b f g = bool (eqb a b) (λ t. f (eqb-true a b t)) (λ t. g (eqb-false a b t))

pub by-lt {ℓ} : {P : Type ℓ} (a b : ℕ) → (a < b → P) → (b ≤ a → P) → P
by-lt a b f g = bool (ltb a b) (λ t. f (ltb-true a b t)) (λ t. g (ltb-false a b t))

-- A claim about the result of a test, by the fact that the test stands for.
pub by_eqb {ℓ} : (P : Bool → Type ℓ) (a b : ℕ) → (a ≡ b → P true) → ((a ≡ b → ⊥) → P false) → P (eqb a b)
by_eqb P a b f g = go (eqb a b) (eqb-true a b) (eqb-false a b)
  where
    go : (t : Bool) → (t ≡ true → a ≡ b) → (t ≡ false → a ≡ b → ⊥) → P t
    go true p q = f (p refl)
    go false p q = g (q refl)

pub by-ltb {ℓ} : (P : Bool → Type ℓ) (a b : ℕ) → (a < b → P true) → (b ≤ a → P false) → P (ltb a b)
by-ltb P a b f g = go (ltb a b) (ltb-true a b) (ltb-false a b)
  where
    go : (t : Bool) → (t ≡ true → a < b) → (t ≡ false → b ≤ a) → P t
    go true p q = f (p refl)
    go false p q = g (q refl)

pub by-leb {ℓ} : (P : Bool → Type ℓ) (a b : ℕ) → (a ≤ b → P true) → (b < a → P false) → P (leb a b)
by-leb P a b f g = go (leb a b) (leb-true a b) (leb-false a b)
  where
    go : (t : Bool) → (t ≡ true → a ≤ b) → (t ≡ false → b < a) → P t
    go true p q = f (p refl)
    go false p q = g (q refl)

-- Conjunctions.
pub and_left : (a b : Bool) → (a && b) ≡ true → a ≡ true
and_left true b e = refl
and_left false b e = e

pub and_right : (a b : Bool) → (a && b) ≡ true → b ≡ true
and_right true b e = e
and_right false b e = true-false e refl

pub and_both : (a b : Bool) → a ≡ true → b ≡ true → (a && b) ≡ true
and_both true b p q = q
and_both false b p q = p

pub and-false : (a : Bool) → (a && false) ≡ false
and-false true = refl
and-false false = refl

-- A test whose truth is absurd fails.
pub refuted : (b : Bool) → (b ≡ true → ⊥) → b ≡ false
refuted true f = absurd (f refl)
refuted false f = refl

-- Options.
pub some_inj {ℓ} : {A : Type ℓ} {a b : A} → some a ≡ some b → a ≡ b
some_inj {a} {b} e = some-injective a b e

-- Equations between tests: two that hold together, a conjunction's parts, a test with its numbers exchanged or raised. Assumes nothing.
use Prim.Native.Nat.{ℕ, ◌≤◌, ◌<◌}
use mathlib.Core.Path.{◌≡◌, refl, sym}
use mathlib.Core.Bool.{Bool, true, false, ◌&&◌}
use lib.Dec.{leb}
use borrow.Author.Tests.{le-leb, lt-leb}
use Rattle.lemmas.proofs.Cases.{and-false}

-- Two tests, each true where the other is, are the same.
pub agree : (a b : Bool) → (a ≡ true → b ≡ true) → (b ≡ true → a ≡ true) → a ≡ b
agree true b f g = sym (f refl)
agree false true f g = g refl
agree false false f g = refl

pub and-true : (a : Bool) → (a && true) ≡ a
and-true true = refl
and-true false = refl

pub and_assoc : (a b c : Bool) → (a && (b && c)) ≡ (a && b && c)
and_assoc true b c = refl
and_assoc false b c = refl

pub and_comm : (a b : Bool) → (a && b) ≡ (b && a)
and_comm true b = sym (and-true b)
and_comm false b = sym (and-false b)

-- One part that fails.
pub false_left : {a : Bool} (b : Bool) → a ≡ false → (a && b) ≡ false
false_left b e = cc

pub false_right : (a : Bool) {b : Bool} → b ≡ false → (a && b) ≡ false
false_right a {b} e = rw e (and-false a)

-- Both bounds of a number, one tested after the other.
pub range-below : (n most : ℕ) → n < 1 → false ≡ (leb 1 n && leb n most)
range-below n most h = cc (lt-leb 1 n h)

pub range-from : (n most : ℕ) → 1 ≤ n → leb n most ≡ (leb 1 n && leb n most)
range-from n most h = cc (le-leb 1 n h)

-- An or is zero, or below a power of two, where both numbers are; scans by or. A xor is zero where its numbers are the same. Assumes nothing.
use Prim.Native.Nat.{ℕ, ◌+◌, ◌^◌, ◌≤◌, ◌<◌}
use mathlib.Core.Path.{◌≡◌}
use mathlib.Core.Bool.{◌&&◌}
use mathlib.Core.List.{List}
use native.Mathlib.Nat.{le_trans}
use native.Mathlib.Omega.{arith}
use lib.Dec.{ltb, eqb}
use lib.Bits.{bit_or, bit_xor, or_add_and, or_lt, xor_self, xor_add_and, and_le_l, and_le_r}
use lib.ListN.{length, take, get_or}
use borrow.Author.Tests.{eq-eqb, ne_eqb, lt-ltb, le-ltb}
use Rattle.lemmas.specs.Every.{every}
use Rattle.lemmas.specs.Zeros.{is_zero}
use Rattle.lemmas.proofs.Cases.{by_eqb, by-ltb}
use Rattle.lemmas.proofs.Every.{every_more}

-- Neither number is more than their or.
pub or_left : (a b : ℕ) → a ≤ bit_or a b
or_left a b = omega (arith, or_add_and a b, and_le_r a b)

pub or_right : (a b : ℕ) → b ≤ bit_or a b
or_right a b = omega (arith, or_add_and a b, and_le_l a b)

pub or-zero : (a b : ℕ) → eqb (bit_or a b) 0 ≡ (eqb a 0 && eqb b 0)
or-zero a b =
    by_eqb (λ t. eqb (bit_or a b) 0 ≡ (t && eqb b 0)) a 0
    (λ e.
    by_eqb (λ t. eqb (bit_or a b) 0 ≡ t) b 0 (λ f. eq-eqb (bit_or a b) 0 (omega (arith, or_add_and a b)))
    (λ n. ne_eqb (bit_or a b) 0 (λ z. n (omega (arith, or_right a b)))))
    (λ n. ne_eqb (bit_or a b) 0 (λ z. n (omega (arith, or_left a b))))

-- A turn that or-s the next word into what is gathered: that is zero where all words so far are.
pub or-more : (s : List ℕ) (i d acc : ℕ) → i < length s → eqb acc 0 ≡ every is_zero (take i s) → eqb (bit_or acc (get_or s i d)) 0 ≡ every is_zero (take (i + 1) s)
or-more s i d acc h e =
    cc (or-zero acc _, every_more is_zero s i d h)

-- An or is below a power of two where both numbers are, ..
pub or-below : (k a b : ℕ) → ltb (bit_or a b) (2 ^ k) ≡ (ltb a (2 ^ k) && ltb b (2 ^ k))
or-below k a b =
    by-ltb (λ t. ltb (bit_or a b) (2 ^ k) ≡ (t && ltb b (2 ^ k))) a (2 ^ k)
    (λ l. by-ltb (λ t. ltb (bit_or a b) (2 ^ k) ≡ t) b (2 ^ k) (λ r. lt-ltb (bit_or a b) (2 ^ k) (or_lt k a b l r))
    (λ r. le-ltb (bit_or a b) (2 ^ k) (le_trans r (or_right a b))))
    (λ l. le-ltb (bit_or a b) (2 ^ k) (le_trans l (or_left a b)))

-- .. and what a scan gathers is where all words so far are.
pub or-below-more : (k : ℕ) (s : List ℕ) (i acc : ℕ) → i < length s → ltb acc (2 ^ k) ≡ every (λ x. ltb x (2 ^ k)) (take i s)
    → ltb (bit_or acc (get_or s i 0)) (2 ^ k) ≡ every (λ x. ltb x (2 ^ k)) (take (i + 1) s)
or-below-more k s i acc h e =
    cc (or-below k acc _, every_more (λ x. ltb x (2 ^ k)) s i 0 h)

-- A xor is zero where the two numbers are the same.
pub xor-zero : (a b : ℕ) → eqb (bit_xor a b) 0 ≡ eqb a b
xor-zero a b =
    by_eqb (λ t. eqb (bit_xor a b) 0 ≡ t) a b (λ e. eq-eqb (bit_xor a b) 0 (cc (xor_self a)))
    (λ n. ne_eqb (bit_xor a b) 0 (λ z. n (omega (arith, xor_add_and a b, and_le_l a b, and_le_r a b))))

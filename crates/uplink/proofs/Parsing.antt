-- Laws of the tests that the parser makes, in their order: the numbers of a line. Assumes nothing.
use Prim.Native.Nat.{ℕ, ◌+◌, ◌≤◌, ◌<◌}
use mathlib.Core.Path.{◌≡◌, sym, ap, ◌∙◌}
use mathlib.Core.List.{List}
use lib.ListN.{length, get_or}
use borrow.Author.Tests.{le-leb, lt-leb, eq-eqb}
use Rattle.std.specs.Prelude.{Some, None}
use Rattle.text.specs.Numbers.{number_at, read}
use Rattle.uplink.specs.declared.Numbers.TheVariants.{Zero, One, Two}
use Rattle.uplink.specs.Grammar.{second_of, second_at, first_of, numbers_at}

-- ---- the second number, behind the first, a, which ends at position `at`

module _ (s : List ℕ) (at a : ℕ) where
  pub second_none : length s ≤ at → Some (One a) ≡ second_at s at a
  unfolding second_at
  second_none h = rw (le-leb (length s) at h)

  module _ (h : at < length s) (e : get_or s at 0 ≡ 32) where
    pub second-number : second_of s a (number_at s (at + 1)) ≡ second_at s at a
    unfolding second_at
    second-number = rw (lt-leb (length s) at h, eq-eqb _ 32 e)

    pub second-last : {b n : ℕ} → number_at s (at + 1) ≡ read b n → length s ≤ n → Some (Two a b) ≡ second_at s at a
    unfolding second_of
    second-last {b} {n} r k = rw (le-leb (length s) n k) at (sym (ap (second_of s a) r)) ∙ second-number

    pub second_more : {b n : ℕ} → number_at s (at + 1) ≡ read b n → n < length s → None ≡ second_at s at a
    unfolding second_of
    second_more {b} {n} r k = rw (lt-leb (length s) n k) at (sym (ap (second_of s a) r)) ∙ second-number

-- ---- the first number

module _ (s : List ℕ) (at : ℕ) where
  pub first-none : length s ≤ at → Some Zero ≡ numbers_at s at
  unfolding numbers_at
  first-none h = rw (le-leb (length s) at h)

  module _ (h : at < length s) (e : get_or s at 0 ≡ 32) where
    pub first-number : first_of s (number_at s (at + 1)) ≡ numbers_at s at
    unfolding numbers_at
    first-number = rw (lt-leb (length s) at h, eq-eqb _ 32 e)

    pub first_then : {a n : ℕ} → number_at s (at + 1) ≡ read a n → second_at s n a ≡ numbers_at s at
    unfolding first_of
    first_then r = cc (r, first-number)

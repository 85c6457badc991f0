-- The or of a list's words is zero where all of them are. Assumes nothing.
use Rattle.std.specs.Prelude.{fold}
use Rattle.std.proofs.Common.{ℕ, ◌≡◌, sym, ◌&&◌, List, [], ◌∷◌, nat_eq, bit_or}
use Rattle.lemmas.specs.Every.{every}
use Rattle.lemmas.specs.Zeros.{is_zero}
use Rattle.lemmas.proofs.Bits.{or-zero}
use Rattle.lemmas.proofs.Tests.{and-true, and_assoc}

or-from : (a : ℕ) (s : List ℕ) → nat_eq (fold bit_or a s) 0 ≡ (nat_eq a 0 && every is_zero s)
unfolding every
or-from a [] = sym (and-true _)
or-from a (x ∷ s) = cc (or-from (bit_or a x) s, or-zero a x, and_assoc (nat_eq a 0) (nat_eq x 0) (every is_zero s))

pub or-all : (s : List ℕ) → nat_eq (fold bit_or 0 s) 0 ≡ every is_zero s
or-all s = or-from 0 s

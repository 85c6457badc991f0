-- Numbers at document 01's edges, computed: `0` alone, a leading zero, a sign, the largest number, the next one, and one that is
-- small again modulo 2^64. Assumes nothing.
use mathlib.Core.Path.{◌≡◌, refl}
use mathlib.Core.List.{[], ◌∷◌}
use Rattle.std.specs.Prelude.{None}
use Rattle.model.specs.Ascii.{ascii}
use Rattle.model.specs.Text.{digits, decimal, line}
use Rattle.text.specs.Numbers.{leading, value, unpadded, number_of, number_at, read}

zero-alone : number_at (ascii "r 2 0") 4 ≡ read 0 5
unfolding ascii number_at number_of leading value unpadded
zero-alone = refl

leading-zero : number_at (ascii "s 024") 2 ≡ None
unfolding ascii number_at number_of leading value unpadded
leading-zero = refl

sign : number_at (ascii "s -0") 2 ≡ None
unfolding ascii number_at number_of leading value unpadded
sign = refl

largest-number : number_at (ascii "s 4294967295") 2 ≡ read 4294967295 12
unfolding ascii number_at number_of leading value unpadded
largest-number = refl

too_large : number_at (ascii "s 4294967296") 2 ≡ None
unfolding ascii number_at number_of leading value unpadded
too_large = refl

far-too-large : number_at (ascii "s 18446744073709551720") 2 ≡ None
unfolding ascii number_at number_of leading value unpadded
far-too-large = refl

first-of-two : number_at (ascii "q 1 100") 2 ≡ read 1 3
unfolding ascii number_at number_of leading value unpadded
first-of-two = refl

zone-line : line (11 ∷ 63 ∷ 1 ∷ []) ≡ ascii "11 63 1\n"
unfolding line decimal digits ascii
zone-line = refl

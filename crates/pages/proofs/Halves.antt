-- A slice in two parts, of which the one behind is lent: the forms that the code makes of them. Assumes nothing.
use Prim.Native.Nat.{ℕ, ◌-◌}
use mathlib.Core.Path.{◌≡◌, ap, ◌∙◌}
use mathlib.Core.List.{List, ◌++◌, append-nil}
use native.Mathlib.Omega.{arith}
use lib.ListN.{length, take, drop, length-append, drop_of_length-le}
use lib.Seq.{take_at, drop_at, take_all}
use Rattle.lemmas.specs.Parts.{put_mid}

module _ (w front behind : List ℕ) (is : w ≡ front ++ behind) (a : ℕ) (size : length front ≡ a) where
  rest-is : drop a w ≡ behind
  rest-is = cc (drop_at front behind a size)

  count-is : length w - a ≡ length behind
  count-is = omega (arith, ap length is, length-append front behind)

  pub behind-part : take (length w - a) (drop a w) ≡ behind
  behind-part = cc (count-is, rest-is, take_all (length behind) behind (omega arith))

  pub behind-put : (v : List ℕ) → put_mid a (length w - a) w v ≡ front ++ v
  behind-put v =
      ap (λ k. put_mid a k w v) count-is
      ∙ (λ i. (ap (take a) is ∙ take_at front behind a size) i ++ (v ++ drop (length behind) (rest-is i)))
      ∙ ap (λ l. front ++ (v ++ l)) (drop_of_length-le behind {i = length behind} (omega arith))
      ∙ ap (λ l. front ++ l) (append-nil v)

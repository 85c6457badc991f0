-- A number that is read digit by digit: what is read from a position on, where v is the value of the digits before it.
-- Assumes nothing.
use Prim.Native.Nat.{ℕ, suc, ◌+◌, ◌*◌, ◌-◌, ◌≤◌, ◌<◌}
use mathlib.Core.Path.{◌≡◌, refl}
use mathlib.Core.Bool.{Bool, true, false, cond, not, ◌&&◌}
use mathlib.Core.List.{List, [], ◌∷◌}
use Rattle.std.specs.Prelude.{Option, None}
use native.Mathlib.Omega.{arith}
use lib.Dec.{leb, eqb}
use lib.ListN.{length, drop, get_or, drop_of_length-le}
use borrow.Author.Tests.{le-leb, lt-leb, eq-eqb, ne_eqb}
use Rattle.lemmas.proofs.Cases.{by_eqb, and-false}
use Rattle.lemmas.proofs.Heads.{next_word}
use Rattle.text.specs.declared.Number.{Number}
use Rattle.text.specs.Numbers.{largest, is_digit, leading, value, unpadded, number_of, number_at, read}
use Rattle.text.proofs.Decimal.{value_grows, digit-range}

-- No digit may follow a single `0`.
unfoldable pub follows : ℕ → List ℕ → Bool
follows v [] = true
follows v (d ∷ s) = not (eqb v 0)

unfoldable pub number_with : ℕ → ℕ → List ℕ → Option Number
number_with v i ds = cond (follows v ds && leb (value v ds) largest) (read (value v ds) (i + length ds)) None

-- What is read where digits of the value v end at position i, and s follows.
unfoldable pub number_on : ℕ → ℕ → List ℕ → Option Number
number_on v i s = number_with v i (leading s)

-- ---- the first digit

first-digit : (at d : ℕ) (s : List ℕ) → 48 ≤ d → number_with (d - 48) (at + 1) s ≡ number_of at (d ∷ s)
unfolding number_with number_of follows unpadded value
first-digit at d [] h =
    let z : 10 * 0 + (d - 48) ≡ d - 48 = omega arith in
    let n : at + 1 + 0 ≡ at + 1 = omega arith in
    rw (z, n)
first-digit at d (b ∷ s) h =
    let z : 10 * 0 + (d - 48) ≡ d - 48 = omega arith in
    let n : at + 1 + suc (length s) ≡ at + suc (suc (length s)) = omega arith in
    let t : eqb (d - 48) 0 ≡ eqb d 48 = by_eqb (λ t. eqb (d - 48) 0 ≡ t) d 48 (λ e. eq-eqb (d - 48) 0 (omega arith)) (λ e. ne_eqb (d - 48) 0 (λ q. e (omega arith))) in
    rw (z, n, t)

module _ (s : List ℕ) (at : ℕ) where
  pub none-past : length s ≤ at → None ≡ number_at s at
  unfolding number_at number_of leading unpadded
  none-past h = rw (drop_of_length-le s {i = at} h)

  pub none_other : at < length s → is_digit (get_or s at 0) ≡ false → None ≡ number_at s at
  unfolding number_at number_of leading unpadded
  none_other h e = rw (next_word s at 0 h, e)

  pub begins : {v : ℕ} → at < length s → is_digit (get_or s at 0) ≡ true → v ≡ get_or s at 0 - 48 → number_on v (at + 1) (drop (at + 1) s) ≡ number_at s at
  unfolding number_on number_at leading
  begins {v} h e q =
      rw (next_word s at 0 h, e)
      (cc (first-digit at (get_or s at 0) (leading (drop (at + 1) s)) (digit-range (get_or s at 0) e).0))

-- ---- the next byte

follows-all : (v : ℕ) (s : List ℕ) → (v ≡ 0 → ⊥) → follows v s ≡ true
unfolding follows
follows-all v [] h = refl
follows-all v (d ∷ s) h = rw (ne_eqb v 0 h)

module _ (v i : ℕ) (ds : List ℕ) where
  with_none : v ≤ largest → read v i ≡ number_with v i []
  unfolding number_with follows value
  with_none h = let z : i + 0 ≡ i = omega arith in rw (le-leb v largest h, z)

  with-zero : (d : ℕ) → v ≡ 0 → None ≡ number_with v i (d ∷ ds)
  unfolding number_with follows
  with-zero d e = rw (eq-eqb v 0 e)

  with-large : (d : ℕ) → largest < 10 * v + (d - 48) → None ≡ number_with v i (d ∷ ds)
  unfolding number_with value
  with-large d h =
      let k : largest < value (10 * v + (d - 48)) ds = omega (arith, value_grows ds (10 * v + (d - 48))) in
      rw (lt-leb _ largest k, and-false _)

  with-more : (d : ℕ) → (v ≡ 0 → ⊥) → number_with (10 * v + (d - 48)) (i + 1) ds ≡ number_with v i (d ∷ ds)
  unfolding number_with value follows
  with-more d h =
      let n : i + 1 + length ds ≡ i + suc (length ds) = omega arith in
      rw (n, ne_eqb v 0 h, follows-all (10 * v + (d - 48)) ds (λ e. h (omega arith)))

-- Of a part of the text the bytes from i on are left, of which the first stands at position j of the text.
module _ (s : List ℕ) (v i j : ℕ) where
  pub on-end : length s ≤ i → v ≤ largest → read v j ≡ number_on v j (drop i s)
  unfolding number_on leading
  on-end h k = rw (drop_of_length-le s {i = i} h) (with_none v j [] k)

  module _ (h : i < length s) where
    pub on-stop : is_digit (get_or s i 0) ≡ false → v ≤ largest → read v j ≡ number_on v j (drop i s)
    unfolding number_on leading
    on-stop e k = rw (next_word s i 0 h, e) (with_none v j [] k)

    module _ (e : is_digit (get_or s i 0) ≡ true) where
      pub on-zero : v ≡ 0 → None ≡ number_on v j (drop i s)
      unfolding number_on leading
      on-zero z = rw (next_word s i 0 h, e) (with-zero v j _ _ z)

      pub on-large : {d : ℕ} → d ≡ get_or s i 0 - 48 → largest < 10 * v + d → None ≡ number_on v j (drop i s)
      unfolding number_on leading
      on-large q k = rw (next_word s i 0 h, e) (with-large v j _ _ (omega arith))

      pub on-more : {d : ℕ} → d ≡ get_or s i 0 - 48 → (v ≡ 0 → ⊥) → number_on (10 * v + d) (j + 1) (drop (i + 1) s) ≡ number_on v j (drop i s)
      unfolding number_on leading
      on-more q n =
          rw (next_word s i 0 h, e)
          (cc (with-more v j (leading (drop (i + 1) s)) (get_or s i 0) n))

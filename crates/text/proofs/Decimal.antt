-- Laws of a number's decimal: its digits, their value, its length; no two numbers have the same. Assumes nothing.
use Prim.Native.Nat.{ℕ, zero, suc, ◌+◌, ◌*◌, ◌-◌, ◌/◌, ◌%◌, ◌^◌, ◌≤◌, ◌<◌}
use mathlib.Core.Path.{◌≡◌, refl, sym, ap, ◌∙◌}
use mathlib.Core.Bool.{Bool, true, false, cond, not}
use mathlib.Core.List.{List, [], ◌∷◌, ◌++◌, append_assoc, append-nil}
use native.Mathlib.Omega.{arith}
use lib.Dec.{leb, eqb}
use lib.ListN.{length, length-append}
use borrow.Author.Tests.{lt-ltb, le-ltb, le-leb, leb-true, ne_eqb, eqb-false}
use Rattle.model.specs.Text.{digits, decimal}
use Rattle.lemmas.specs.Every.{every}
use Rattle.lemmas.proofs.Cases.{by-ltb, true-false, and_left, and_right, and_both, by-lt}
use Rattle.lemmas.proofs.Every.{every_append}
use Rattle.text.specs.Numbers.{is_digit, value, unpadded}

-- ---- its last digit and those before it

digits-depth : (f g n : ℕ) → n < f → n < g → digits f n ≡ digits g n
unfolding digits
digits-depth zero g n h k = absurd (omega arith)
digits-depth (suc f) zero n h k = absurd (omega arith)
digits-depth (suc f) (suc g) n h k =
    by-ltb
    (λ t. cond t ((48 + n) ∷ []) (digits f (n / 10) ++ ((48 + n % 10) ∷ [])) ≡ cond t ((48 + n) ∷ []) (digits g (n / 10) ++ ((48 + n % 10) ∷ [])))
    n 10
    (λ _. refl)
    (λ m. cc (digits-depth f g (n / 10) (omega arith) (omega arith)))

pub decimal-small : (n : ℕ) → n < 10 → decimal n ≡ (48 + n) ∷ []
unfolding decimal digits
decimal-small n h = rw (lt-ltb n 10 h)

pub decimal-more : (n : ℕ) → 10 ≤ n → decimal n ≡ decimal (n / 10) ++ ((48 + n % 10) ∷ [])
unfolding decimal digits
decimal-more n h =
    rw (le-ltb n 10 h)
    (cc (digits-depth n (suc (n / 10)) (n / 10) (omega arith) (omega arith)))

pub decimal-snoc : (v d : ℕ) → 1 ≤ v → d < 10 → decimal (10 * v + d) ≡ decimal v ++ ((48 + d) ∷ [])
decimal-snoc v d h k =
    let q : (10 * v + d) / 10 ≡ v = omega arith in
    let r : (10 * v + d) % 10 ≡ d = omega arith in
    cc (decimal-more (10 * v + d) (omega arith))

-- What holds of a single digit, and of more digits where it holds of those before the last, holds of every number.
module _ {ℓ} (P : ℕ → Type ℓ) (small : (n : ℕ) → n < 10 → P n) (more : (n : ℕ) → 10 ≤ n → P (n / 10) → P n) where
  below : (f n : ℕ) → n < f → P n
  below zero n h = absurd (omega arith)
  below (suc f) n h = by-lt n 10 (λ s. small n s) (λ m. more n m (below f (n / 10) (omega arith)))

  pub by_digits : (n : ℕ) → P n
  by_digits n = below (suc n) n (omega arith)

-- ---- its length

pub more-length : (n : ℕ) → 10 ≤ n → length (decimal n) ≡ length (decimal (n / 10)) + 1
more-length n h = ap length (decimal-more n h) ∙ length-append (decimal (n / 10)) _

pub decimal-some : (n : ℕ) → 1 ≤ length (decimal n)
decimal-some =
    by_digits (λ n. 1 ≤ length (decimal n)) (λ n h. omega (arith, ap length (decimal-small n h)))
    (λ n h k. omega (arith, more-length n h))

pub decimal-length : (k n : ℕ) → n < 10 ^ suc k → length (decimal n) ≤ suc k
decimal-length zero n h = omega (arith, ap length (decimal-small n h))
decimal-length (suc k) n h =
    let e : length (decimal (n / 10)) ≤ suc k = decimal-length k (n / 10) (omega arith) in
    by-lt n 10 (λ s. omega (arith, ap length (decimal-small n s)))
    (λ m. omega (arith, more-length n m))

-- A larger number has as many digits or more; a number has at most one digit more than it has tens.
pub decimal-grows : (n m : ℕ) → m ≤ n → length (decimal m) ≤ length (decimal n)
decimal-grows =
    by_digits (λ n. (m : ℕ) → m ≤ n → length (decimal m) ≤ length (decimal n))
    (λ n h m l. omega (arith, ap length (decimal-small n h), ap length (decimal-small m (omega arith))))
    (λ n h k m l.
    by-lt m 10 (λ s. omega (arith, ap length (decimal-small m s), decimal-some n))
    (λ b. omega (arith, more-length n h, more-length m b, k (m / 10) (omega arith))))

pub decimal-tens : (n : ℕ) → length (decimal n) ≤ 1 + n / 10
decimal-tens =
    by_digits (λ n. length (decimal n) ≤ 1 + n / 10) (λ n h. omega (arith, ap length (decimal-small n h)))
    (λ n h k. omega (arith, more-length n h))

-- The numbers of 32 and of 64 bits.
pub length-word : (n : ℕ) → n < 2 ^ 32 → length (decimal n) ≤ 10
length-word n h = decimal-length 9 n (omega arith)

pub length-long : (n : ℕ) → n < 2 ^ 64 → length (decimal n) ≤ 20
length-long n h = decimal-length 19 n (omega arith)

-- ---- its bytes

pub digit-is : (d : ℕ) → d < 10 → is_digit (48 + d) ≡ true
digit-is d h = rw (le-leb 48 (48 + d) (omega arith), le-leb (48 + d) 57 (omega arith))

pub digit-range : (b : ℕ) → is_digit b ≡ true → (48 ≤ b) × (b ≤ 57)
digit-range b e = (leb-true 48 b (and_left (leb 48 b) (leb b 57) e), leb-true b 57 (and_right (leb 48 b) (leb b 57) e))

every_one : (b : ℕ) → is_digit b ≡ true → every is_digit (b ∷ []) ≡ true
unfolding every
every_one b e = and_both (is_digit b) true e refl

pub decimal-digits : (n : ℕ) → every is_digit (decimal n) ≡ true
decimal-digits =
    by_digits (λ n. every is_digit (decimal n) ≡ true)
    (λ n h. cc (decimal-small n h, every_one (48 + n) (digit-is n h)))
    (λ n h k.
    ap (every is_digit) (decimal-more n h)
    ∙ every_append is_digit _ _
    ∙ and_both _ _ k (every_one _ (digit-is (n % 10) (omega arith))))

-- ---- the value of its digits

pub value-append : (x y : List ℕ) (v : ℕ) → value v (x ++ y) ≡ value (value v x) y
unfolding value
value-append [] y v = refl
value-append (d ∷ x) y v = value-append x y _

value-one : (v d : ℕ) → value v ((48 + d) ∷ []) ≡ 10 * v + d
unfolding value
value-one v d = omega arith

pub value_grows : (s : List ℕ) (v : ℕ) → v ≤ value v s
unfolding value
value_grows [] v = omega arith
value_grows (d ∷ s) v = omega (arith, value_grows s (10 * v + (d - 48)))

pub value-decimal : (n : ℕ) → value 0 (decimal n) ≡ n
value-decimal =
    by_digits (λ n. value 0 (decimal n) ≡ n) (λ n h. ap (value 0) (decimal-small n h) ∙ value-one 0 n ∙ omega arith)
    (λ n h k.
    ap (value 0) (decimal-more n h)
    ∙ value-append _ _ 0
    ∙ ap (λ v. value v ((48 + n % 10) ∷ [])) k
    ∙ value-one (n / 10) (n % 10)
    ∙ omega arith)

-- ---- it has no leading zero, and only decimals have none

-- The first digit is not `0`.
unfoldable leads : List ℕ → Bool
leads [] = false
leads (d ∷ s) = not (eqb d 48)

leads-append : (x y : List ℕ) → leads x ≡ true → leads (x ++ y) ≡ true
unfolding leads
leads-append [] y e = true-false e refl
leads-append (d ∷ x) y e = e

leads-unpadded : (s : List ℕ) → leads s ≡ true → unpadded s ≡ true
unfolding leads unpadded
leads-unpadded [] e = e
leads-unpadded (d ∷ []) e = refl
leads-unpadded (d ∷ (b ∷ s)) e = e

leads_one : (n : ℕ) → 1 ≤ n → leads ((48 + n) ∷ []) ≡ true
unfolding leads
leads_one n h = rw (ne_eqb (48 + n) 48 (omega arith))

decimal-leads : (n : ℕ) → 1 ≤ n → leads (decimal n) ≡ true
decimal-leads =
    by_digits (λ n. 1 ≤ n → leads (decimal n) ≡ true) (λ n h p. rw (decimal-small n h) (leads_one n p))
    (λ n h k p. ap leads (decimal-more n h) ∙ leads-append _ _ (k (omega arith)))

pub decimal-unpadded : (n : ℕ) → unpadded (decimal n) ≡ true
unfolding unpadded
decimal-unpadded n =
    by-lt n 10 (λ h. ap unpadded (decimal-small n h))
    (λ h. leads-unpadded (decimal n) (decimal-leads n (omega arith)))

-- Digits behind a number's decimal make the decimal of the number that all of them are.
pub decimal-value : (s : List ℕ) (v : ℕ) → 1 ≤ v → every is_digit s ≡ true → decimal (value v s) ≡ decimal v ++ s
unfolding value every
decimal-value [] v h e = sym (append-nil (decimal v))
decimal-value (d ∷ s) v h e =
    let r = digit-range d (and_left (is_digit d) _ e) in
    let low : 48 ≤ d = r.0 in
    let high : d ≤ 57 = r.1 in
    let z : 48 + (d - 48) ≡ d = omega arith in
    decimal-value s _ (omega arith) (and_right (is_digit d) _ e)
    ∙ ap (λ l. l ++ s) (decimal-snoc v (d - 48) h (omega arith))
    ∙ append_assoc (decimal v) _ s
    ∙ ap (λ b. decimal v ++ (b ∷ s)) z

pub decimal-of-digits : (s : List ℕ) → every is_digit s ≡ true → unpadded s ≡ true → decimal (value 0 s) ≡ s
unfolding value unpadded every
decimal-of-digits [] e u = true-false u refl
decimal-of-digits (d ∷ []) e u =
    let r = digit-range d (and_left (is_digit d) true e) in
    let low : 48 ≤ d = r.0 in
    let high : d ≤ 57 = r.1 in
    let z : 48 + (10 * 0 + (d - 48)) ≡ d = omega arith in
    cc (decimal-small (10 * 0 + (d - 48)) (omega arith))
decimal-of-digits (d ∷ (b ∷ s)) e u =
    let r = digit-range d (and_left (is_digit d) _ e) in
    let low : 48 ≤ d = r.0 in
    let high : d ≤ 57 = r.1 in
    let n : d ≡ 48 → ⊥ = eqb-false d 48 (not-true u) in
    let p : 1 ≤ 10 * 0 + (d - 48) = by-positive n low in
    let z : 48 + (10 * 0 + (d - 48)) ≡ d = omega arith in
    decimal-value (b ∷ s) _ p (and_right (is_digit d) _ e)
    ∙ ap (λ l. l ++ (b ∷ s)) (decimal-small _ (omega arith))
    ∙ ap (λ c. c ∷ (b ∷ s)) z
  where
    not-true : not (eqb d 48) ≡ true → eqb d 48 ≡ false
    not-true = go (eqb d 48)
      where
        go : (t : Bool) → not t ≡ true → t ≡ false
        go true q = true-false q refl
        go false q = refl

    by-positive : (d ≡ 48 → ⊥) → 48 ≤ d → 1 ≤ 10 * 0 + (d - 48)
    by-positive n l = by-lt 48 d (omega arith) (λ h. absurd (n (omega arith)))

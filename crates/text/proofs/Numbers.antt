-- Reading gives back what was written: what is read at a position is the decimal that stands there, and a decimal that stands
-- there is read. Assumes nothing.
use Prim.Native.Nat.{ℕ, ◌+◌, ◌-◌, ◌≤◌, ◌<◌}
use mathlib.Core.Path.{◌≡◌, refl, sym, ap, ◌∙◌}
use mathlib.Core.Bool.{Bool, true, false, cond, not, ◌&&◌}
use mathlib.Core.Logic.{◌↔◌}
use mathlib.Core.List.{List, [], ◌∷◌, ◌++◌, append-nil}
use Rattle.std.specs.Prelude.{None}
use native.Mathlib.Omega.{arith}
use lib.Dec.{leb}
use lib.ListN.{length, drop, length-append, length-drop}
use borrow.Author.Tests.{le-leb, leb-true}
use Rattle.model.specs.Text.{decimal}
use Rattle.lemmas.specs.Every.{every}
use Rattle.lemmas.proofs.Cases.{either, true-false, and_left, and_right, and_both, clash}
use Rattle.lemmas.proofs.Heads.{front-after}
use Rattle.text.specs.declared.Number.{Number}
use Rattle.text.specs.Numbers.{largest, is_digit, leading, value, unpadded, number_of, number_at, stops, read}
use Rattle.text.proofs.Decimal.{decimal-some, decimal-digits, value-decimal, decimal-unpadded, decimal-of-digits}

-- What is read is not nothing; and its parts.
pub nothing_read : {v n : ℕ} → None ≡ read v n → ⊥
nothing_read e = clash (cc)

same_read : {v n w m : ℕ} → read v n ≡ read w m → (v ≡ w) × (n ≡ m)
same_read {v} {n} {w} {m} e =
    let k : record { value = v; next = n } ≡ record { value = w; next = m } = cc in
    (ap (λ (x : Number). x.value) k, ap (λ (x : Number). x.next) k)

-- ---- the digits at the front

leading-digits : (s : List ℕ) → every is_digit (leading s) ≡ true
unfolding leading every
leading-digits [] = refl
leading-digits (b ∷ s) =
    either (λ l. every is_digit l ≡ true) (is_digit b) (b ∷ leading s) []
    (λ e. and_both (is_digit b) _ e (leading-digits s)) (λ e. refl)

-- The digits, and what follows them.
leading-front : (s : List ℕ) → (more : List ℕ) × (s ≡ leading s ++ more) × (stops more ≡ true)
unfolding leading stops
leading-front [] = ([], refl, refl)
leading-front (b ∷ s) = go (is_digit b) refl (leading-front s)
  where
    go : (t : Bool) → is_digit b ≡ t → ((more : List ℕ) × (s ≡ leading s ++ more) × (stops more ≡ true))
        → (more : List ℕ) × (b ∷ s ≡ cond t (b ∷ leading s) [] ++ more) × (stops more ≡ true)
    go true e r = (r.0, cc, r.2)
    go false e r = (b ∷ s, refl, ap not e)

leading-of : (x more : List ℕ) → every is_digit x ≡ true → stops more ≡ true → leading (x ++ more) ≡ x
unfolding leading every stops
leading-of [] [] e k = refl
leading-of [] (b ∷ s) e k = go (is_digit b) k
  where
    go : (t : Bool) → not t ≡ true → cond t (b ∷ leading s) [] ≡ []
    go true q = true-false q refl
    go false q = refl
leading-of (b ∷ x) more e k =
    rw (and_left (is_digit b) _ e)
    (cc (leading-of x more (and_right (is_digit b) (every is_digit x) e) k))

-- ---- what is read stands there

-- The decimal of w stands from position `at` to position n, and no digit follows it.
pub record Stands (s : List ℕ) (at w n : ℕ) : Type 0 where
  pub is : drop at s ≡ decimal w ++ drop n s
  pub after : at < n
  pub within : n ≤ length s
  pub fits : w ≤ largest
  pub ends : stops (drop n s) ≡ true

-- What it takes for digits to be a number.
of-digits : (at w n : ℕ) (ds : List ℕ) → number_of at ds ≡ read w n → (unpadded ds ≡ true) × (value 0 ds ≤ largest) × (value 0 ds ≡ w) × (at + length ds ≡ n)
unfolding number_of
of-digits at w n ds e = go (unpadded ds && leb (value 0 ds) largest) refl e
  where
    go : (t : Bool) → (unpadded ds && leb (value 0 ds) largest) ≡ t → cond t (read (value 0 ds) (at + length ds)) None ≡ read w n
        → (unpadded ds ≡ true) × (value 0 ds ≤ largest) × (value 0 ds ≡ w) × (at + length ds ≡ n)
    go true q r = (
      and_left _ _ q,
      leb-true _ largest (and_right (unpadded ds) _ q),
      (same_read r).0,
      (same_read r).1,
    )
    go false q r = absurd (nothing_read r)

pub number-stands : (s : List ℕ) (at w n : ℕ) → number_at s at ≡ read w n → Stands s at w n
unfolding number_at
number-stands s at w n e =
    let f = leading-front (drop at s) in
    let d = of-digits at w n _ e in
    let fits : value 0 (leading (drop at s)) ≤ largest = d.1 in
    let same : value 0 (leading (drop at s)) ≡ w = d.2 in
    let here : decimal w ≡ leading (drop at s) =
    ap decimal (sym same) ∙ decimal-of-digits _ (leading-digits (drop at s)) d.0 in
    let is : drop at s ≡ decimal w ++ f.0 = cc in
    let end : at + length (decimal w) ≡ n = cc in
    let rest : drop n s ≡ f.0 = cc (front-after s at (decimal w) f.0 is) in
    let some : 1 ≤ length (decimal w) = decimal-some w in
    let long : length s - at ≡ length (decimal w) + length f.0 =
    cc (length-drop at s, length-append (decimal w) f.0) in
    record {
      is = cc;
      after = omega arith;
      within = omega arith;
      fits = omega arith;
      ends = cc;
    }

-- ---- what stands there is read

of-decimal : (at w : ℕ) → w ≤ largest → number_of at (decimal w) ≡ read w (at + length (decimal w))
unfolding number_of
of-decimal at w h = rw (value-decimal w, decimal-unpadded w, le-leb w largest h)

pub number_read : (s : List ℕ) (at w : ℕ) (more : List ℕ) → drop at s ≡ decimal w ++ more → w ≤ largest → stops more ≡ true → number_at s at ≡ read w (at + length (decimal w))
unfolding number_at
number_read s at w more e h k =
    cc (leading-of (decimal w) more (decimal-digits w) k, of-decimal at w h)

-- A decimal that the text ends with.
pub number-last : (s : List ℕ) (at w : ℕ) → drop at s ≡ decimal w → w ≤ largest → number_at s at ≡ read w (length s)
unfolding stops
number-last s at w e h =
    let some : 1 ≤ length (decimal w) = decimal-some w in
    let long : length s - at ≡ length (decimal w) = cc (length-drop at s) in
    let end : at + length (decimal w) ≡ length s = omega arith in
    cc (number_read s at w [] (e ∙ sym (append-nil (decimal w))) h refl)

-- Both ways.
stands_read : (s : List ℕ) (at w n : ℕ) → Stands s at w n → number_at s at ≡ read w n
stands_read s at w n h =
    let long : length (drop at s) ≡ length (decimal w) + length (drop n s) = cc (length-append (decimal w) (drop n s)) in
    let end : at + length (decimal w) ≡ n = omega (arith, length-drop at s, length-drop n s) in
    cc (number_read s at w (drop n s) h.is h.fits h.ends)

pub number-iff : (s : List ℕ) (at w n : ℕ) → (number_at s at ≡ read w n) ↔ Stands s at w n
number-iff s at w n = (number-stands s at w n, stands_read s at w n)

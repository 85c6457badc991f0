-- The sum of classes, as each loop adds it up: none yet, one more, all of them. Assumes nothing.
use Rattle.std.proofs.Common.{◌≡◌, ℕ, ◌+◌, ◌%◌, ◌^◌, ◌<◌, ◌≤◌, List, length, get_or, ap, ◌∙◌, arith}
use Rattle.lemmas.proofs.Below.{sum-none, sum_more}
use Rattle.model.specs.Sizes.{class_of}
use Rattle.measure.specs.Classes.{size_from, class_sum}

-- The first i numbers have been gone through, and their classes come to t.
abbrev pub Added : List ℕ → ℕ → ℕ → Type 0
Added s i t = (i ≤ length s) × (t ≡ class_sum s i)

pub added_none : (s : List ℕ) → Added s 0 0
unfolding class_sum
added_none s = (omega arith, rw (sum-none (λ i. class_of (size_from (get_or s i 0)))))

-- One more: n is the size that the next number stands for, c its class, and r the new sum.
pub added_more : (s : List ℕ) (i : ℕ) {t n c r : ℕ} → i < length s → Added s i t → n ≡ size_from (get_or s i 0) → c ≡ class_of n → r ≡ (t + c) % 2 ^ 32 → Added s (i + 1) r
unfolding class_sum
added_more s i h a e f g = (omega arith, omega (arith, a.1, f ∙ ap class_of e, g, sum_more (λ k. class_of (size_from (get_or s k 0))) i))

pub added-all : (s : List ℕ) (i : ℕ) {t : ℕ} → length s ≤ i → Added s i t → t ≡ class_sum s (length s)
added-all s i h a = let e : i ≡ length s = omega (arith, a.0) in a.1 ∙ ap (class_sum s) e

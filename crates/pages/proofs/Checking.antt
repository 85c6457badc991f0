-- The walk of the check over the segments' words. Assumes nothing.
use Prim.Native.Nat.{ℕ, zero, suc, ◌+◌, ◌-◌, ◌*◌, ◌≤◌, ◌<◌}
use mathlib.Core.Path.{◌≡◌, sym, ap, ◌∙◌}
use mathlib.Core.List.{List}
use mathlib.Core.Bool.{Bool, true, false, ◌&&◌, not}
use native.Mathlib.Omega.{arith}
use Rattle.std.proofs.Common.{◌⊎◌, inl, inr}
use lib.Dec.{leb, eqb}
use lib.ListN.{length, get_or, take, drop, length-drop}
use lib.Seq.{take_all, drop-drop, get_or-drop}
use borrow.Author.Tests.{le-leb, lt-leb, eq-eqb, ne_eqb}
use Rattle.model.specs.Numbers.{most_pages, page_words}
use Rattle.pages.specs.Legal.{size_at, legal_from, legal_segments}
use Rattle.pages.specs.Encoding.{kind_run}
use Rattle.pages.proofs.Legal.{Long, size-leads}

-- What is left of the words passes just if all of them do.
pub record Checking (w : List ℕ) (n p : ℕ) (b : Bool) : Type 0 where
  pub long : length w ≡ page_words * n
  pub few : n ≤ most_pages
  pub within : p ≤ n
  pub fuel : ℕ
  pub enough : n - p ≤ fuel
  pub same : legal_from fuel (n - p) b (drop (page_words * p) w) ≡ legal_segments n w

pub check-start : (w : List ℕ) (n : ℕ) → length w ≡ page_words * n → n ≤ most_pages → Checking w n 0 false
unfolding legal_segments
check-start w n l f = record { long = l; few = f; within = omega arith; fuel = n; enough = omega arith; same = ap (λ k. legal_from n k false w) (omega arith) }

-- The words from page p on, as the code lends them.
pub lent : (w : List ℕ) (n p : ℕ) → length w ≡ page_words * n → p ≤ n → take (length w - page_words * p) (drop (page_words * p) w) ≡ drop (page_words * p) w
lent w n p l h = take_all (length w - page_words * p) _ (omega (arith, length-drop (page_words * p) w))

pub lent-long : (w : List ℕ) (n p : ℕ) → length w ≡ page_words * n → p ≤ n → length (take (length w - page_words * p) (drop (page_words * p) w)) ≡ page_words * (n - p)
lent-long w n p l h = ap length (lent w n p l h) ∙ length-drop (page_words * p) w ∙ omega arith

module _ {w : List ℕ} {n p : ℕ} {b : Bool} (i : Checking w n p b) (h : p < n) (len : ℕ) (size : len ≡ size_at (n - p) (drop (page_words * p) w)) where
  long : Long (n - p) (drop (page_words * p) w)
  long = (omega (arith, length-drop (page_words * p) w), omega arith)

  -- One turn of the test.
  abbrev turn : ℕ → Bool
  turn f = leb 1 len && not (b && eqb (get_or w (page_words * p) 0) 1) && legal_from f (n - p - len) (eqb (get_or w (page_words * p) 0) 1) (drop (page_words * len) (drop (page_words * p) w))

  first_word : get_or (drop (page_words * p) w) 0 0 ≡ get_or w (page_words * p) 0
  first_word = get_or-drop (page_words * p) w 0 0 ∙ ap (λ k. get_or w k 0) (omega arith)

  turned : (f : ℕ) → n - p ≤ f → legal_from f (n - p) b (drop (page_words * p) w) ≡ legal_segments n w → (g : ℕ) × (n - p ≤ suc g) × (turn g ≡ legal_segments n w)
  unfolding legal_from
  turned zero k e = absurd (omega arith)
  turned (suc g) k e = (g, k, sym (rw (ne_eqb (n - p) 0 (omega arith), ← size, first_word)) ∙ e)

  it : (g : ℕ) × (n - p ≤ suc g) × (turn g ≡ legal_segments n w)
  it = turned i.fuel i.enough i.same

  pub check-none : len ≡ 0 → false ≡ legal_segments n w
  check-none e = sym (rw (lt-leb 1 len (omega arith))) ∙ it.2

  pub size-within : (len ≡ 0 → ⊥) → len ≤ n - p
  size-within e = let X = size-leads (n - p) (drop (page_words * p) w) long (omega arith) in omega arith

  pub check-touch : (len ≡ 0 → ⊥) → b ≡ true → get_or w (page_words * p) 0 ≡ kind_run → false ≡ legal_segments n w
  check-touch e t k = cc (t, touching (legal_from it.0 (n - p - len) (eqb (get_or w (page_words * p) 0) 1) (drop (page_words * len) (drop (page_words * p) w))), it.2)
    where
      touching : (z : Bool) → (leb 1 len && not (true && eqb (get_or w (page_words * p) 0) 1) && z) ≡ false
      touching z = rw (eq-eqb _ 1 k, le-leb 1 len (omega arith))

  pub check-more : (len ≡ 0 → ⊥) → (b ≡ true × (get_or w (page_words * p) 0 ≡ kind_run → ⊥)) ⊎ (b ≡ false) → (r : Bool) → r ≡ eqb (get_or w (page_words * p) 0) 1 → Checking w n (p + len) r
  check-more e t r q =
      let k = size-within e in
      record {
        long = i.long;
        few = i.few;
        within = omega arith;
        fuel = it.0;
        enough = omega (arith, it.1);
        same = (λ j. legal_from it.0 (left j) (q j) (words j)) ∙ sym passes ∙ it.2;
      }
    where
      left : n - (p + len) ≡ n - p - len
      left = omega arith

      words : drop (page_words * (p + len)) w ≡ drop (page_words * len) (drop (page_words * p) w)
      words = ap (λ k. drop k w) (let z : page_words * (p + len) ≡ page_words * p + page_words * len = omega arith in z) ∙ sym (drop-drop _ (page_words * p) w)

      rest : Bool
      rest = legal_from it.0 (n - p - len) (eqb (get_or w (page_words * p) 0) 1) (drop (page_words * len) (drop (page_words * p) w))

      free : (b ≡ true × (get_or w (page_words * p) 0 ≡ kind_run → ⊥)) ⊎ (b ≡ false) → (b && eqb (get_or w (page_words * p) 0) 1) ≡ false
      free (inl one) = rw (one.0, ne_eqb _ 1 one.1)
      free (inr first) = rw first

      passes : (leb 1 len && not (b && eqb (get_or w (page_words * p) 0) 1) && rest) ≡ rest
      passes = rw (le-leb 1 len (omega arith), free t)

-- The size as the code has it, of the words that it lends.
pub sized : {w : List ℕ} {n p len : ℕ} {b : Bool} → Checking w n p b → len ≡ size_at (n - p) (take (length w - page_words * p) (drop (page_words * p) w)) → len ≡ size_at (n - p) (drop (page_words * p) w)
sized {w} {n} {p} i e = cc (lent w n p i.long i.within)

pub check-end : {w : List ℕ} {n p : ℕ} {b : Bool} → Checking w n p b → n ≤ p → true ≡ legal_segments n w
unfolding legal_from
check-end {w} {n} {p} {b} i h = cc (over i.fuel)
  where
    over : (f : ℕ) → legal_from f (n - p) b (drop (page_words * p) w) ≡ true
    over zero = eq-eqb (n - p) 0 (omega arith)
    over (suc f) = rw (eq-eqb (n - p) 0 (omega arith))

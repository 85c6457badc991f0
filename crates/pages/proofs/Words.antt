-- The words of runs and direct blocks, told by their first words and zeros. Assumes nothing.
use Prim.Native.Nat.{ℕ, zero, suc, ◌+◌, ◌-◌, ◌*◌, ◌≤◌, ◌<◌}
use mathlib.Core.Path.{◌≡◌, sym, ap, ◌∙◌}
use mathlib.Core.List.{List, [], ◌∷◌}
use native.Mathlib.Omega.{arith}
use lib.ListN.{length, get_or, take, drop, set, length-set, length-drop}
use lib.Seq.{ext_get_or, get_or-set_same, get_or-set_other, length-take-le, get_or-take, get_or-drop}
use Rattle.lemmas.specs.Zeros.{zeros, Zero}
use Rattle.lemmas.proofs.Zeros.{length-zeros, get_or-zeros, zero-set, zeros-zero, is-zeros}
use Rattle.model.specs.Numbers.{most_pages, page_words}
use Rattle.model.specs.Arena.{run, direct}
use Rattle.model.specs.Pages.{with_run}
use Rattle.pages.specs.Encoding.{segment_encoding, segments_encoding, kind_run, kind_direct}
use Rattle.pages.specs.Places.{Blank}
use Rattle.pages.proofs.Laws.{length-segment, encoding-one}

-- A run's words behind the first two, and a direct block's behind the first three, are zero.
pub run-zero : (n : ℕ) → Zero (segment_encoding (run n)) 2 (page_words * n)
unfolding segment_encoding
run-zero n = record { at = λ i a b. ap (λ k. get_or (1 ∷ n ∷ zeros (page_words * n - 2)) k 0) (let q : i ≡ suc (suc (i - 2)) = omega arith in q) ∙ get_or-zeros _ (i - 2) }

pub direct-zero : (n g : ℕ) → Zero (segment_encoding (direct n g)) 3 (page_words * n)
unfolding segment_encoding
direct-zero n g = record { at = λ i a b. ap (λ k. get_or (2 ∷ n ∷ g ∷ zeros (page_words * n - 3)) k 0) (let q : i ≡ suc (suc (suc (i - 3))) = omega arith in q) ∙ get_or-zeros _ (i - 3) }

-- Words that say what a run's do are a run's; the same of a direct block.
pub run-words : (w : List ℕ) (n : ℕ) → Blank w 2 n → get_or w 0 0 ≡ kind_run → get_or w 1 0 ≡ n → w ≡ segment_encoding (run n)
unfolding segment_encoding
run-words w n b k s = ext_get_or 0 w _ (cc (length-segment (run n) b.some)) go
  where
    go : (i : ℕ) → i < length w → get_or w i 0 ≡ get_or (segment_encoding (run n)) i 0
    go zero l = k
    go (suc zero) l = s
    go (suc (suc i)) l = b.zero.at _ (omega arith) (omega arith) ∙ sym ((run-zero n).at (suc (suc i)) (omega arith) (omega arith))

pub direct-words : (w : List ℕ) (n g : ℕ) → Blank w 3 n → get_or w 0 0 ≡ kind_direct → get_or w 1 0 ≡ n → get_or w 2 0 ≡ g → w ≡ segment_encoding (direct n g)
unfolding segment_encoding
direct-words w n g b k s t = ext_get_or 0 w _ (cc (length-segment (direct n g) b.some)) go
  where
    go : (i : ℕ) → i < length w → get_or w i 0 ≡ get_or (segment_encoding (direct n g)) i 0
    go zero l = k
    go (suc zero) l = s
    go (suc (suc zero)) l = t
    go (suc (suc (suc i))) l = b.zero.at _ (omega arith) (omega arith) ∙ sym ((direct-zero n g).at (suc (suc (suc i))) (omega arith) (omega arith))

blank-set : (w : List ℕ) (k n i v : ℕ) → i < k → Blank w k n → Blank (set w i v) k n
blank-set w k n i v h b = record { long = length-set w i v ∙ b.long; some = b.some; most = b.most; zero = zero-set i v (omega arith) b.zero }

-- What the stores of a run and of a direct block make.
pub stored-run : (w : List ℕ) (n : ℕ) → Blank w 2 n → set (set w 0 1) 1 n ≡ segment_encoding (run n)
stored-run w n b =
    run-words _ n (blank-set (set w 0 1) 2 n 1 n (omega arith) (blank-set w 2 n 0 1 (omega arith) b))
    (get_or-set_other (set w 0 1) 1 0 n 0 (omega arith) ∙ get_or-set_same w 0 1 0 (omega arith))
    (get_or-set_same (set w 0 1) 1 n 0 (omega (arith, length-set w 0 1)))

pub stored-direct : (w : List ℕ) (n g : ℕ) → Blank w 3 n → set (set (set w 0 2) 1 n) 2 g ≡ segment_encoding (direct n g)
stored-direct w n g b =
    let u = set (set w 0 2) 1 n in
    let ub : Blank u 3 n = blank-set (set w 0 2) 3 n 1 n (omega arith) (blank-set w 3 n 0 2 (omega arith) b) in
    direct-words (set u 2 g) n g (blank-set u 3 n 2 g (omega arith) ub)
    (get_or-set_other u 2 0 g 0 (omega arith) ∙ get_or-set_other (set w 0 2) 1 0 n 0 (omega arith) ∙ get_or-set_same w 0 2 0 (omega arith))
    (get_or-set_other u 2 1 g 0 (omega arith) ∙ get_or-set_same (set w 0 2) 1 n 0 (omega (arith, length-set w 0 2)))
    (get_or-set_same u 2 g 0 (omega arith))

-- Zero words are blank.
pub zeros-blank : (k n : ℕ) → 0 < n → n ≤ most_pages → Blank (zeros (page_words * n)) k n
zeros-blank k n p q = record { long = length-zeros _; some = p; most = q; zero = zeros-zero _ k _ }

pub zero-blank : (w : List ℕ) (k n : ℕ) → w ≡ zeros (page_words * n) → 0 < n → n ≤ most_pages → Blank w k n
zero-blank w k n e p q = rw e (zeros-blank k n p q)

-- The words of what is left of a run.
pub rest-none : (n : ℕ) → n ≡ 0 → zeros (page_words * n) ≡ segments_encoding (with_run n [])
unfolding segments_encoding zeros
rest-none n e = rw e

pub rest_some : (n : ℕ) → 0 < n → segment_encoding (run n) ≡ segments_encoding (with_run n [])
rest_some zero h = absurd (omega arith)
rest_some (suc n) h = sym (encoding-one _)

-- A run's words, cut behind the first `need` pages.
module _ (len need : ℕ) (p : 0 < need) (q : need ≤ len) (few : len ≤ most_pages) where
  pub cut_low : Blank (take (page_words * need) (segment_encoding (run len))) 3 need
  cut_low = record {
    long = length-take-le _ _ (omega (arith, length-segment (run len) (omega arith)));
    some = p;
    most = omega arith;
    zero = record { at = λ i a b. get_or-take _ _ i 0 b ∙ (run-zero len).at i (omega arith) (omega arith) };
  }

  pub cut_high : drop (page_words * need) (segment_encoding (run len)) ≡ zeros (page_words * (len - need))
  cut_high = is-zeros _ _
      (length-drop (page_words * need) _ ∙ omega (arith, length-segment (run len) (omega arith)))
      (λ i l. get_or-drop (page_words * need) _ i 0 ∙ (run-zero len).at (page_words * need + i) (omega arith) (omega arith))

-- The words of the figures and what they hold: words are the figures of h and c just if their records are h's, their ceilings c's, and the
-- words behind those are zero. And the words of the figures of a start. Assumes nothing.
use Prim.Native.Nat.{ℕ, ◌+◌, ◌-◌, ◌≤◌, ◌<◌}
use mathlib.Core.Path.{◌≡◌, sym, ap, ◌∙◌}
use mathlib.Core.List.{List, [], ◌++◌}
use native.Mathlib.Omega.{arith}
use lib.ListN.{length, get_or, set, take, drop, replicate, length-append, length-drop, length-replicate, length-set, drop_of_length-le}
use lib.Seq.{length-take-le, get_or-set_same, get_or-set_other}
use borrow.Author.Tests.{lt-ltb, le-ltb}
use Rattle.lemmas.specs.ListFrom.{list_from}
use Rattle.lemmas.specs.Parts.{mid, put_mid}
use Rattle.lemmas.proofs.Cases.{by-lt, by-eq}
use Rattle.lemmas.proofs.ListFrom.{length-list_from, get_or-list_from, is-list_from}
use Rattle.lemmas.proofs.Parts.{length-mid, length-put}
use Rattle.model.specs.Numbers.{most_bytes, most_group, figure_words}
use Rattle.model.specs.declared.Holding.{Holding}
use Rattle.figures.specs.Encoding.{at_held, at_greatest, at_ceiling, at_rest, figure_word, figures_encoding, no_holding, largest, record_in, ceiling_in}

-- ---- each word by its place

module _ (h : ℕ → Holding) (c : ℕ → ℕ) (i : ℕ) (l : i < most_group) where
  word-blocks : figure_word h c i ≡ (h i).blocks
  unfolding figure_word
  word-blocks = rw (lt-ltb i at_held l)

  word_held : figure_word h c (at_held + i) ≡ (h i).held
  unfolding figure_word
  word_held = rw (le-ltb (at_held + i) at_held (omega arith), lt-ltb (at_held + i) at_greatest (omega arith)) (ap (λ k. (h k).held) (let e : at_held + i - at_held ≡ i = omega arith in e))

  word-greatest : figure_word h c (at_greatest + i) ≡ (h i).greatest
  unfolding figure_word
  word-greatest =
      rw (le-ltb (at_greatest + i) at_held (omega arith), le-ltb (at_greatest + i) at_greatest (omega arith), lt-ltb (at_greatest + i) at_ceiling (omega arith))
      (ap (λ k. (h k).greatest) (let e : at_greatest + i - at_greatest ≡ i = omega arith in e))

  word-ceiling : figure_word h c (at_ceiling + i) ≡ c i
  unfolding figure_word
  word-ceiling =
      rw (le-ltb (at_ceiling + i) at_held (omega arith), le-ltb (at_ceiling + i) at_greatest (omega arith), le-ltb (at_ceiling + i) at_ceiling (omega arith), lt-ltb (at_ceiling + i) at_rest (omega arith))
      (ap c (let e : at_ceiling + i - at_ceiling ≡ i = omega arith in e))

word-rest : (h : ℕ → Holding) (c : ℕ → ℕ) (i : ℕ) → at_rest ≤ i → figure_word h c i ≡ 0
unfolding figure_word
word-rest h c i l = rw (le-ltb i at_held (omega arith), le-ltb i at_greatest (omega arith), le-ltb i at_ceiling (omega arith), le-ltb i at_rest l)

-- ---- the words of h and c

module _ (h : ℕ → Holding) (c : ℕ → ℕ) where
  pub length-figures : length (figures_encoding h c) ≡ figure_words
  unfolding figures_encoding
  length-figures = length-list_from (figure_word h c) 0 figure_words

  word_at : (i : ℕ) → i < figure_words → get_or (figures_encoding h c) i 0 ≡ figure_word h c i
  unfolding figures_encoding
  word_at i l = get_or-list_from (figure_word h c) 0 figure_words i 0 l ∙ ap (figure_word h c) (let e : 0 + i ≡ i = omega arith in e)

  pub record-encoded : (i : ℕ) → i < most_group → record_in (figures_encoding h c) i ≡ h i
  record-encoded i l = λ j. record {
    blocks = (word_at i (omega arith) ∙ word-blocks h c i l) j;
    held = (word_at (at_held + i) (omega arith) ∙ word_held h c i l) j;
    greatest = (word_at (at_greatest + i) (omega arith) ∙ word-greatest h c i l) j;
  }

  pub ceiling-encoded : (i : ℕ) → i < most_group → ceiling_in (figures_encoding h c) i ≡ c i
  ceiling-encoded i l = word_at (at_ceiling + i) (omega arith) ∙ word-ceiling h c i l

  pub rest-encoded : (i : ℕ) → at_rest ≤ i → i < figure_words → get_or (figures_encoding h c) i 0 ≡ 0
  rest-encoded i a l = word_at i l ∙ word-rest h c i a

-- ---- words that are those of h and c

-- Words that have every word of theirs, ..
all_words_lem : (h : ℕ → Holding) (c : ℕ → ℕ) (w : List ℕ) → length w ≡ figure_words → ((i : ℕ) → i < figure_words → get_or w i 0 ≡ figure_word h c i) → w ≡ figures_encoding h c
unfolding figures_encoding
all_words_lem h c w long at = is-list_from (figure_word h c) 0 figure_words w 0 long (λ i l. at i l ∙ ap (figure_word h c) (let e : i ≡ 0 + i = omega arith in e))

-- .. and so each kind of figure.
module _ (h : ℕ → Holding) (c : ℕ → ℕ) (w : List ℕ) (long : length w ≡ figure_words) (records : (i : ℕ) → i < most_group → record_in w i ≡ h i)
    (ceilings : (i : ℕ) → i < most_group → ceiling_in w i ≡ c i) (rest : (i : ℕ) → at_rest ≤ i → i < figure_words → get_or w i 0 ≡ 0) where
  -- The word at a place, moved by the kinds in front of its own.
  moved : (i k : ℕ) → i ≡ k → get_or w k 0 ≡ figure_word h c k → get_or w i 0 ≡ figure_word h c i
  moved i k e q = ap (λ j. get_or w j 0) e ∙ q ∙ ap (figure_word h c) (sym e)

  at-index : (i : ℕ) → i < figure_words → get_or w i 0 ≡ figure_word h c i
  at-index i l = by-lt i at_held
      (λ a. ap (λ r. r.blocks) (records i a) ∙ sym (word-blocks h c i a))
      (λ a. by-lt i at_greatest
      (λ b. let k = i - at_held in let m : k < most_group = omega arith in
      moved i (at_held + k) (omega arith) (ap (λ r. r.held) (records k m) ∙ sym (word_held h c k m)))
      (λ b. by-lt i at_ceiling
      (λ d. let k = i - at_greatest in let m : k < most_group = omega arith in
      moved i (at_greatest + k) (omega arith) (ap (λ r. r.greatest) (records k m) ∙ sym (word-greatest h c k m)))
      (λ d. by-lt i at_rest
      (λ e. let k = i - at_ceiling in let m : k < most_group = omega arith in
      moved i (at_ceiling + k) (omega arith) (ceilings k m ∙ sym (word-ceiling h c k m)))
      (λ e. rest i e l ∙ sym (word-rest h c i e)))))

  pub is-figures : w ≡ figures_encoding h c
  is-figures = all_words_lem h c w long at-index

-- ---- the figures of a start, word after word

pub first-none : (i : ℕ) → i < at_ceiling → 0 ≡ figure_word no_holding largest i
unfolding figure_word
first-none i l = by-lt i at_held (λ a. rw (lt-ltb i at_held a)) (λ a. by-lt i at_greatest
    (λ b. rw (le-ltb i at_held a, lt-ltb i at_greatest b))
    (λ b. rw (le-ltb i at_held a, le-ltb i at_greatest b, lt-ltb i at_ceiling l)))

pub first-ceiling : (i : ℕ) → at_ceiling ≤ i → i < at_rest → most_bytes ≡ figure_word no_holding largest i
unfolding figure_word
first-ceiling i a l = rw (le-ltb i at_held (omega arith), le-ltb i at_greatest (omega arith), le-ltb i at_ceiling a, lt-ltb i at_rest l)

pub first_rest : (i : ℕ) → at_rest ≤ i → 0 ≡ figure_word no_holding largest i
first_rest i l = sym (word-rest no_holding largest i l)

-- The words that are set up already, of the words w.
pub record Begun (w : List ℕ) (i : ℕ) : Type 0 where
  pub long : length w ≡ figure_words
  pub below : i ≤ figure_words
  pub words : (j : ℕ) → j < i → get_or w j 0 ≡ figure_word no_holding largest j

pub begun-none : (w : List ℕ) → length w ≡ figure_words → Begun w 0
begun-none w l = record { long = l; below = omega arith; words = λ j k. absurd (omega arith) }

pub begun_more : (w : List ℕ) (i v : ℕ) → Begun w i → i < figure_words → v ≡ figure_word no_holding largest i → Begun (set w i v) (i + 1)
begun_more w i v b l e = record {
  long = length-set w i v ∙ b.long;
  below = omega arith;
  words = λ j k. by-eq j i
      (λ q. ap (λ n. get_or (set w i v) n 0) q ∙ get_or-set_same w i v 0 (omega (arith, b.long)) ∙ e ∙ ap (figure_word no_holding largest) (sym q))
      (λ q. get_or-set_other w i j v 0 q ∙ b.words j (omega arith));
}

pub begun_all : (w : List ℕ) (i : ℕ) → Begun w i → figure_words ≤ i → w ≡ figures_encoding no_holding largest
begun_all w i b l = all_words_lem no_holding largest w b.long (λ j k. b.words j (omega arith))

-- ---- the figures of a start, part after part: no figures, the largest ceilings, and zeros behind them

-- The parts f, c and z as they are filled, in words that were w.
module _ (w f c z : List ℕ) (long : length w ≡ figure_words) (figures : f ≡ replicate (length (take at_ceiling w)) 0) where
  abbrev u : List ℕ
  u = f ++ drop at_ceiling w

  abbrev v : List ℕ
  v = put_mid at_ceiling most_group u c

  module _ (ceilings : c ≡ replicate (length (mid at_ceiling most_group u)) most_bytes) (zeros : z ≡ replicate (length (mid at_rest (length v - at_rest) v)) 0) where
    f-is : f ≡ replicate at_ceiling 0
    f-is = figures ∙ ap (λ n. replicate n 0) (length-take-le at_ceiling w (omega arith))

    u-long : length u ≡ figure_words
    u-long = omega (arith, length-append f (drop at_ceiling w), length-drop at_ceiling w, ap length f-is, length-replicate {A = ℕ} at_ceiling 0)

    c-is : c ≡ replicate most_group most_bytes
    c-is = ceilings ∙ ap (λ n. replicate n most_bytes) (length-mid at_ceiling most_group u (omega (arith, u-long)))

    v-long : length v ≡ figure_words
    v-long = length-put at_ceiling most_group u c (omega (arith, u-long)) (ap length c-is ∙ length-replicate {A = ℕ} most_group most_bytes) ∙ u-long

    z-is : z ≡ replicate (figure_words - at_rest) 0
    z-is =
        let k : length v - at_rest ≡ figure_words - at_rest = omega (arith, v-long) in
        zeros ∙ ap (λ n. replicate n 0) (length-mid at_rest (length v - at_rest) v (omega (arith, v-long)) ∙ k)

    none : drop (figure_words - at_rest) (drop most_group (drop at_ceiling w)) ≡ []
    none = drop_of_length-le (drop most_group (drop at_ceiling w)) {i = figure_words - at_rest} (omega (arith, length-drop most_group (drop at_ceiling w), length-drop at_ceiling w))

    pub started : put_mid at_rest (length v - at_rest) v z ≡ figures_encoding no_holding largest
    unfolding figures_encoding list_from figure_word
    started =
        ap (λ k. put_mid at_rest (k - at_rest) v z) v-long
        ∙ (λ i. put_mid at_rest (figure_words - at_rest) (put_mid at_ceiling most_group (f-is i ++ drop at_ceiling w) (c-is i)) (z-is i))
        ∙ ap (λ l. replicate at_ceiling 0 ++ (replicate most_group most_bytes ++ (replicate (figure_words - at_rest) 0 ++ l))) none

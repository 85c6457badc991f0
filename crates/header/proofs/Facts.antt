-- What the test of a header says, as facts: from the test to the facts and back. Assumes nothing.
use Prim.Native.Nat.{ℕ, ◌≤◌}
use mathlib.Core.Path.{◌≡◌, sym}
use mathlib.Core.Bool.{true, false, ◌&&◌}
use mathlib.Core.List.{List}
use native.Mathlib.Omega.{arith}
use lib.Dec.{leb, eqb}
use lib.ListN.{length, get_or}
use borrow.Author.Tests.{eq-eqb, eqb-true, le-leb, leb-true}
use Rattle.lemmas.specs.Every.{every}
use Rattle.lemmas.specs.Parts.{mid}
use Rattle.lemmas.specs.Zeros.{zeros, is_zero}
use Rattle.lemmas.proofs.Cases.{and_left, and_right, refuted}
use Rattle.lemmas.proofs.Zeros.{get_or-zeros}
use Rattle.model.specs.Numbers.{most_pages, header_words}
use Rattle.header.specs.Slots.{legal_slots}
use Rattle.header.specs.Encoding.{magic, is_header, spare_slots, list_slots, rest_words, at_spare, at_lists, at_rest}
use Rattle.header.specs.Keys.{key_limit}

pub record Facts (w : List ℕ) : Type 0 where
  pub size : length w ≡ header_words
  pub named : get_or w 0 0 ≡ magic
  pub least : 1 ≤ get_or w 1 0
  pub most : get_or w 1 0 ≤ most_pages
  pub spare : legal_slots most_pages 0 (mid at_spare spare_slots w) ≡ true
  pub lists : legal_slots key_limit 0 (mid at_lists list_slots w) ≡ true
  pub rest : every is_zero (mid at_rest rest_words w) ≡ true

pub facts-of : (w : List ℕ) → is_header w ≡ true → Facts w
unfolding is_header
facts-of w e =
    let size = eqb (length w) header_words in
    let named = eqb (get_or w 0 0) magic in
    let least = leb 1 (get_or w 1 0) in
    let most = leb (get_or w 1 0) most_pages in
    let spare = legal_slots most_pages 0 (mid at_spare spare_slots w) in
    let lists = legal_slots key_limit 0 (mid at_lists list_slots w) in
    let rest = every is_zero (mid at_rest rest_words w) in
    let to-lists = and_left _ rest e in
    let to-spare = and_left _ lists to-lists in
    let to-most = and_left _ spare to-spare in
    let to-least = and_left _ most to-most in
    let to_named = and_left _ least to-least in
    record {
      size = eqb-true (length w) header_words (and_left size named to_named);
      named = eqb-true _ magic (and_right size named to_named);
      least = leb-true 1 _ (and_right (size && named) least to-least);
      most = leb-true _ most_pages (and_right (size && named && least) most to-most);
      spare = and_right (size && named && least && most) spare to-spare;
      lists = and_right (size && named && least && most && spare) lists to-lists;
      rest = and_right (size && named && least && most && spare && lists) rest e;
    }

-- The parts before the last one hold: the test is the last one.
pub header-last : (w : List ℕ) → length w ≡ header_words → get_or w 0 0 ≡ magic → 1 ≤ get_or w 1 0 → get_or w 1 0 ≤ most_pages → legal_slots most_pages 0 (mid at_spare spare_slots w) ≡ true → legal_slots key_limit 0 (mid at_lists list_slots w) ≡ true
    → every is_zero (mid at_rest rest_words w) ≡ is_header w
unfolding is_header
header-last w a b c d e f =
    rw (eq-eqb (length w) header_words a, eq-eqb _ magic b, le-leb 1 _ c, le-leb _ most_pages d, e, f)

pub of-facts : (w : List ℕ) → Facts w → is_header w ≡ true
of-facts w h = cc (header-last w h.size h.named h.least h.most h.spare h.lists)

-- One fact that fails.
pub no_header : (w : List ℕ) → (Facts w → ⊥) → false ≡ is_header w
no_header w n = sym (refuted _ (λ e. n (facts-of w e)))

-- Zeros are no header.
pub zeros-no-header : (n : ℕ) → is_header (zeros n) ≡ false
zeros-no-header n = sym (no_header (zeros n) (λ h. let a = h.named in let b = get_or-zeros n 0 in omega arith))

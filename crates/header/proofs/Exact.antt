-- The test of a header is exact: it accepts the encodings, and what it accepts is the encoding of what is read from it.
-- Assumes nothing.
use Prim.Native.Nat.{ℕ, ◌≤◌}
use mathlib.Core.Path.{◌≡◌, refl, sym, ap, ◌∙◌}
use mathlib.Core.Logic.{◌↔◌}
use mathlib.Core.Bool.{true}
use mathlib.Core.List.{List, [], ◌∷◌, ◌++◌}
use native.Mathlib.Nat.{not-suc-le-zero}
use native.Mathlib.Omega.{arith}
use lib.ListN.{length, get_or, take, drop, length-drop, take-append-drop}
use lib.Seq.{take_all, drop-drop}
use Rattle.lemmas.specs.Parts.{mid}
use Rattle.lemmas.specs.Zeros.{zeros}
use Rattle.lemmas.proofs.Parts.{mid-split, length-mid}
use Rattle.lemmas.proofs.Zeros.{every-zeros, zeros-every}
use Rattle.model.specs.Numbers.{most_pages}
use Rattle.header.specs.Keys.{keys_of, lists_of, key_limit}
use Rattle.header.specs.Slots.{slots, entries_in}
use Rattle.header.specs.Encoding.{magic, header_encoding, Fits, pages_in, spare_in, lists_in, Encodes, Header, is_header, spare_slots, list_slots, rest_words, at_spare, at_lists, at_rest}
use Rattle.header.proofs.Keys.{keys-rising, keys_below, rising-pages, keys-lists, length-lists, lists-pages}
use Rattle.header.proofs.Entries.{Legal, legal-of, slots-legal}
use Rattle.header.proofs.Facts.{Facts, facts-of, of-facts}
use Rattle.header.proofs.Encoded.{lists-size, length-header, spare-part, lists-part, rest_part, pages-encoded, named-encoded, spare-encoded, lists-encoded}

-- ---- an encoding passes

pub encoding-facts : (n : ℕ) (spare : List ℕ) (lists : List (List ℕ)) → Fits n spare lists → Facts (header_encoding n spare lists)
encoding-facts n spare lists h =
    record {
      size = length-header n spare lists;
      named = named-encoded n spare lists;
      least = rw pages-encoded h.least;
      most = rw pages-encoded h.most;
      spare = rw spare-part (slots-legal most_pages 0 spare_slots spare h.few (rising-pages spare h.spare-pages) h.spare-pages);
      lists = rw lists-part (slots-legal key_limit 0 list_slots _ h.room (keys-rising lists h.list-pages) (keys_below lists h.classes h.list-pages));
      rest = rw rest_part (every-zeros rest_words);
    }

-- ---- what passes is an encoding

header-split : (w : List ℕ) → w ≡ take at_spare w ++ (mid at_spare spare_slots w ++ (mid at_lists list_slots w ++ drop at_rest w))
header-split w =
    cc (mid-split at_spare spare_slots w, take-append-drop list_slots (drop at_lists w), drop-drop list_slots at_lists w)

front-two : (w : List ℕ) → 2 ≤ length w → take at_spare w ≡ get_or w 0 0 ∷ get_or w 1 0 ∷ []
front-two [] h = absurd (not-suc-le-zero h)
front-two (x ∷ []) h = absurd (omega arith)
front-two (x ∷ y ∷ w) h = refl

module _ (w : List ℕ) (h : Facts w) where
  spare-legal : Legal most_pages 0 (mid at_spare spare_slots w)
  spare-legal = legal-of most_pages 0 _ h.spare

  lists-legal : Legal key_limit 0 (mid at_lists list_slots w)
  lists-legal = legal-of key_limit 0 _ h.lists

  spare-size : length (mid at_spare spare_slots w) ≡ spare_slots
  spare-size = length-mid at_spare spare_slots w (let a = h.size in omega arith)

  -- The keys in the slots are those of the lists that are read.
  keys-again : keys_of (lists_of (entries_in (mid at_lists list_slots w))) ≡ entries_in (mid at_lists list_slots w)
  keys-again = keys-lists _ lists-legal.rising lists-legal.below

  head-again : take at_spare w ≡ magic ∷ pages_in w ∷ []
  head-again = cc (front-two w (let a = h.size in omega arith))

  rest-again : drop at_rest w ≡ zeros rest_words
  rest-again =
      sym (take_all rest_words _ (let a = h.size in simp length-drop (omega arith)))
      ∙ zeros-every _ h.rest
      ∙ ap zeros (length-mid at_rest rest_words w (let a = h.size in omega arith))

  header-fits : Fits (pages_in w) (spare_in w) (lists_in w)
  unfolding spare_in lists_in
  header-fits =
      record {
        least = h.least;
        most = h.most;
        few = let a = spare-size in let b = spare-legal.short in omega arith;
        classes = length-lists _;
        room = let a = lists-size w h.size in let b = lists-legal.short in rw keys-again (omega arith);
        spare-pages = spare-legal.below;
        list-pages = lists-pages _;
      }

  header-words : w ≡ header_encoding (pages_in w) (spare_in w) (lists_in w)
  unfolding header_encoding spare_in lists_in
  header-words =
      let spare : mid at_spare spare_slots w ≡ slots spare_slots (entries_in (mid at_spare spare_slots w)) = cc (spare-legal.again, spare-size) in
      let lists : mid at_lists list_slots w ≡ slots list_slots (keys_of (lists_of (entries_in (mid at_lists list_slots w)))) =
      cc (lists-legal.again, lists-size w h.size, keys-again) in
      cc (header-split w, head-again, spare, lists, rest-again)

  pub facts-header : Header w
  facts-header = record { words = header-words; fits = header-fits }

-- ---- the theorem

-- The words pass the test exactly if they are the encoding of numbers and lists that fit.
pub header-iff : (w : List ℕ) → (is_header w ≡ true) ↔ ((n : ℕ) × (spare : List ℕ) × (lists : List (List ℕ)) × Fits n spare lists × (w ≡ header_encoding n spare lists))
header-iff w = (
  λ e. let h = facts-header w (facts-of w e) in (pages_in w, spare_in w, lists_in w, h.fits, h.words),
  λ t. ap is_header t.4 ∙ of-facts _ (encoding-facts t.0 t.1 t.2 t.3),
)

-- What passes is a header, and a header passes.
pub check-header : (w : List ℕ) → is_header w ≡ true → Header w
check-header w e = facts-header w (facts-of w e)

module _ {w : List ℕ} {n : ℕ} {spare : List ℕ} {lists : List (List ℕ)} (h : Encodes w n spare lists) where
  pub encodes-check : is_header w ≡ true
  encodes-check = (header-iff w).1 (n, spare, lists, h.fits, h.words)

  -- What is read from an encoding.
  pub pages-read : pages_in w ≡ n
  pages-read = cc (pages-encoded n spare lists)

  pub spare-read : spare_in w ≡ spare
  spare-read = cc (spare-encoded n spare lists h.fits)

  pub lists-read : lists_in w ≡ lists
  lists-read = cc (lists-encoded n spare lists h.fits)

  pub encodes-header : Header w
  encodes-header = check-header w encodes-check

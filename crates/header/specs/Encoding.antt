-- The header: the first 1,024 metadata words.
--   word 0          a magic number
--   word 1          N, the arena's pages
--   words 2 to 3    the empty list, front first: each page + 1, zeros behind
--   words 4 to 35   the class lists one after another in class order, each front first: each key + 1, zeros behind
--   words 36 on     zero
-- An arena of 256 pages has at most 32 zones of 8 pages, so 32 entries are enough for all class lists. `header-iff` says that
-- the test is exact, `pages-encoded`, `spare-encoded` and `lists-encoded` that there is one encoding. Assumes nothing.
use Rattle.std.specs.Prelude.{ℕ, ◌-◌, ◌≤◌, ◌<◌, ◌≡◌, Bool, ◌&&◌, leb, eqb, length, get_or}
use mathlib.Core.List.{List, [], ◌∷◌, ◌++◌, Memᴰ}
use Rattle.lemmas.specs.Every.{every}
use Rattle.lemmas.specs.Parts.{mid}
use Rattle.lemmas.specs.Zeros.{zeros, is_zero}
use Rattle.model.specs.Numbers.{class_count, most_pages, header_words}
use Rattle.header.specs.Keys.{key_limit, keys_of, lists_of}
use Rattle.header.specs.Slots.{slots, entries_in, legal_slots}

-- "NOST"
abbrev pub magic : ℕ
magic = 1313821524

-- The slots of the empty list, of the class lists, and the words behind them; where each begins.
abbrev pub spare_slots : ℕ
spare_slots = 2

abbrev pub list_slots : ℕ
list_slots = 32

abbrev pub at_spare : ℕ
at_spare = 2

abbrev pub at_lists : ℕ
at_lists = 4

abbrev pub at_rest : ℕ
at_rest = 36

abbrev pub rest_words : ℕ
rest_words = header_words - at_rest

-- The header of n pages, the empty list and the class lists.
unfoldable pub header_encoding : ℕ → List ℕ → List (List ℕ) → List ℕ
header_encoding n spare lists = (magic ∷ n ∷ []) ++ (slots spare_slots spare ++ (slots list_slots (keys_of lists) ++ zeros rest_words))

-- What such a header can hold.
pub record Fits (n : ℕ) (spare : List ℕ) (lists : List (List ℕ)) : Type 0 where
  pub least : 1 ≤ n
  pub most : n ≤ most_pages
  pub few : length spare ≤ spare_slots
  pub classes : length lists ≡ class_count
  pub room : length (keys_of lists) ≤ list_slots
  pub spare-pages : (p : ℕ) → Memᴰ p spare → p < most_pages
  pub list-pages : (c p : ℕ) → Memᴰ p (get_or lists c []) → p < most_pages

-- ---- what words hold, if they are a header; nothing is tested

abbrev pub pages_in : List ℕ → ℕ
pages_in w = get_or w 1 0

unfoldable pub spare_in : List ℕ → List ℕ
spare_in w = entries_in (mid at_spare spare_slots w)

unfoldable pub lists_in : List ℕ → List (List ℕ)
lists_in w = lists_of (entries_in (mid at_lists list_slots w))

-- The words are the header of n pages and these lists.
pub record Encodes (w : List ℕ) (n : ℕ) (spare : List ℕ) (lists : List (List ℕ)) : Type 0 where
  pub words : w ≡ header_encoding n spare lists
  pub fits : Fits n spare lists

-- The words are a header.
abbrev pub Header : List ℕ → Type 0
Header w = Encodes w (pages_in w) (spare_in w) (lists_in w)

-- The test of that, part by part.
unfoldable pub is_header : List ℕ → Bool
is_header w =
    eqb (length w) header_words && eqb (get_or w 0 0) magic && leb 1 (pages_in w) && leb (pages_in w) most_pages && legal_slots most_pages 0 (mid at_spare spare_slots w)
    && legal_slots key_limit 0 (mid at_lists list_slots w)
    && every is_zero (mid at_rest rest_words w)

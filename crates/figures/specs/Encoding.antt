-- The groups' figures (document 02, c and e): the first 64 of the lent words.
--   words 0 to 11    the live blocks of each group, group 1 first
--   words 12 to 23   its held bytes
--   words 24 to 35   the greatest bytes that it has held since the start
--   words 36 to 47   its ceiling
--   words 48 on      zero
-- Assumes nothing.
use Rattle.std.specs.Prelude.{ℕ, ◌+◌, ◌-◌, cond, List, ltb, get_or}
use Rattle.lemmas.specs.ListFrom.{list_from}
use Rattle.model.specs.Numbers.{most_bytes, most_group, figure_words}
use Rattle.model.specs.declared.Holding.{Holding}

-- Where each kind of figure begins, and the zeros behind them.
abbrev pub at_held : ℕ
at_held = most_group

abbrev pub at_greatest : ℕ
at_greatest = at_held + most_group

abbrev pub at_ceiling : ℕ
at_ceiling = at_greatest + most_group

abbrev pub at_rest : ℕ
at_rest = at_ceiling + most_group

-- The word at an index, of what the groups hold and of their ceilings, both by their index.
unfoldable pub figure_word : (ℕ → Holding) → (ℕ → ℕ) → ℕ → ℕ
figure_word h c i =
    cond (ltb i at_held) (h i).blocks
    (cond (ltb i at_greatest) (h (i - at_held)).held
    (cond (ltb i at_ceiling) (h (i - at_greatest)).greatest
    (cond (ltb i at_rest) (c (i - at_ceiling)) 0)))

unfoldable pub figures_encoding : (ℕ → Holding) → (ℕ → ℕ) → List ℕ
figures_encoding h c = list_from (figure_word h c) 0 figure_words

-- The figures of a start: nobody holds anything, or has, and every ceiling is the largest.
abbrev pub no_holding : ℕ → Holding
no_holding i = record { blocks = 0; held = 0; greatest = 0 }

abbrev pub largest : ℕ → ℕ
largest i = most_bytes

-- The record and the ceiling of the group at an index, as words have them.
abbrev pub record_in : List ℕ → ℕ → Holding
record_in w i = record { blocks = get_or w i 0; held = get_or w (at_held + i) 0; greatest = get_or w (at_greatest + i) 0 }

abbrev pub ceiling_in : List ℕ → ℕ → ℕ
ceiling_in w i = get_or w (at_ceiling + i) 0

-- The table of classes (document 02, d): one entry for each size rounded up to eight bytes. Assumes nothing.
use Rattle.std.specs.Prelude.{ℕ, ◌+◌, ◌-◌, ◌*◌, ◌/◌, List, cond, ltb}
use Rattle.lemmas.specs.ListFrom.{list_from}
use Rattle.model.specs.Numbers.{large_size}
use Rattle.model.specs.Sizes.{class_of}

-- The entry at i is the class of the size 8 * i + 8, to which the sizes from 8 * i + 1 are rounded up. (`entry-class`: it is the class of
-- each of them.)
unfoldable pub entry_at : ℕ → ℕ
entry_at i = class_of (8 * i + 8)

-- The last entry is that of 8,192 bytes.
abbrev pub entry_count : ℕ
entry_count = 1024

unfoldable pub class_table : List ℕ
class_table = list_from entry_at 0 entry_count

-- The place of a size's entry.
abbrev pub entry_of : ℕ → ℕ
entry_of n = (n + 7) / 8 - 1

-- The class of the chunk that a request of n bytes takes, 0 where it takes none.
abbrev pub class_for : ℕ → ℕ
class_for n = cond (ltb n 1) 0 (cond (ltb n large_size) (class_of n) 0)

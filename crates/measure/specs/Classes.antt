-- The classes of many sizes, as the benchmark has them added up. Assumes nothing.
use Rattle.std.specs.Prelude.{ℕ, ◌+◌, ◌-◌, ◌%◌, ◌^◌, List, slice_index}
use Rattle.lemmas.specs.Below.{sum_below}
use Rattle.model.specs.Numbers.{large_size}
use Rattle.model.specs.Sizes.{class_of}

-- Any number as a size that takes a chunk, 1 to 8,191.
abbrev pub size_from : ℕ → ℕ
size_from x = 1 + x % (large_size - 1)

-- The classes of the first n numbers of the list, added up in 32 bits.
unfoldable pub class_sum : List ℕ → ℕ → ℕ
class_sum s n = sum_below (λ i. class_of (size_from (slice_index s i))) n % 2 ^ 32

-- Which words are the encoding of a valid zone, and of which. `is_zone` says the first in the parts that the check scans one
-- after another; `zone-iff` says that it is exact. `zone_of` tests nothing. Assumes nothing.
use Rattle.std.specs.Prelude.{ℕ, zero, suc, ◌+◌, ◌-◌, ◌*◌, ◌/◌, ◌%◌, Bool, cond, ◌&&◌, List, [], ◌∷◌, map, ltb, leb, eqb, length, get_or, take, drop}
use Rattle.lemmas.specs.Below.{all_below}
use Rattle.lemmas.specs.Every.{every, count}
use Rattle.lemmas.specs.Parts.{mid}
use Rattle.lemmas.specs.Zeros.{is_zero}
use Rattle.model.specs.Numbers.{class_count}
use Rattle.model.specs.Sizes.{chunks}
use Rattle.model.specs.Zone.{Zone}
use Rattle.zone.specs.Encoding.{head_words, head_numbers, head_zeros, slot_count, zone_words, kind_zone, position_base, half}

-- ---- the head's numbers behind the kind

abbrev pub class_in : List ℕ → ℕ
class_in w = get_or w 1 0

abbrev pub touched_in : List ℕ → ℕ
touched_in w = get_or w 2 0

abbrev pub chained_in : List ℕ → ℕ
chained_in w = get_or w 3 0

-- ---- the slots

abbrev pub slots_in : List ℕ → List ℕ
slots_in w = mid head_words slot_count w

-- The halves of a slot: a chunk's state, and a chunk of the chain.
abbrev pub state_in : ℕ → ℕ
state_in x = x % half

abbrev pub entry_in : ℕ → ℕ
entry_in x = x / half

-- The slot of a live chunk.
abbrev pub is_live : ℕ → Bool
is_live x = ltb 0 (state_in x) && ltb (state_in x) position_base

-- A slot without a chunk of the chain.
abbrev pub is_bare : ℕ → Bool
is_bare x = ltb x half

-- A slot that names a chunk below 4,096. The check asks for it before it reads there; in a zone's encoding it is so of every slot.
abbrev pub is_near : ℕ → Bool
is_near x = ltb x (half * slot_count)

-- The chunk at position i of the chain has that position.
abbrev pub in_place : List ℕ → ℕ → Bool
in_place s i = eqb (state_in (get_or s (entry_in (get_or s i 0)) 0)) (position_base + i)

-- The first k slots hold groups and one chain of m chunks, which has all returned ones. That k - m are live and that m have the
-- positions below m leaves none for anything else, so that no other state is looked for.
unfoldable pub slots_legal : List ℕ → ℕ → ℕ → Bool
slots_legal s k m = every is_bare (mid m (k - m) s) && eqb (count is_live (take k s)) (k - m) && all_below (in_place s) m

-- ---- the whole

-- The head's four numbers.
unfoldable pub head_legal : List ℕ → Bool
head_legal w = eqb (length w) zone_words && eqb (get_or w 0 0) kind_zone && ltb (class_in w) class_count && leb (touched_in w) (chunks (class_in w)) && leb (chained_in w) (touched_in w)

-- The other words: the head's zeros, the slots of the chunks handed out, and those behind, which are zero.
unfoldable pub body_legal : List ℕ → Bool
body_legal w = every is_zero (mid head_numbers head_zeros w) && slots_legal (slots_in w) (touched_in w) (chained_in w) && every is_zero (drop (head_words + touched_in w) w)

-- The words are the encoding of a valid zone.
unfoldable pub is_zone : List ℕ → Bool
is_zone w = head_legal w && body_legal w

-- The group in a slot, 0 where the chunk is not live.
abbrev pub owner_in : ℕ → ℕ
owner_in x = cond (ltb (state_in x) position_base) (state_in x) 0

-- The chain: the chunks at the positions below n, the last one first.
unfoldable pub chain_from : List ℕ → ℕ → List ℕ
chain_from s zero = []
chain_from s (suc n) = entry_in (get_or s n 0) ∷ chain_from s n

-- The zone whose encoding the words are, if they are one.
unfoldable pub zone_of : List ℕ → Zone
zone_of w = record { class = class_in w; owners = map owner_in (take (touched_in w) (slots_in w)); chain = chain_from (slots_in w) (chained_in w) }

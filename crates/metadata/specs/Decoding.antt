-- The state that words encode. `is_state` tests any words, and `state-iff` says that it is exact; `decode` tests nothing. Assumes nothing.
use Rattle.std.specs.Prelude.{ℕ, ◌*◌, Bool, cond, ◌&&◌, List, leb, length, take}
use Rattle.std.proofs.Math.Option.{Option, none, some}
use Rattle.lemmas.specs.Parts.{mid}
use Rattle.model.specs.Numbers.{header_words, page_words}
use Rattle.model.specs.State.{State}
use Rattle.model.specs.Perform.{words_for}
use Rattle.header.specs.Encoding.{pages_in, spare_in, lists_in, is_header}
use Rattle.pages.specs.Decoding.{segments_of}
use Rattle.pages.specs.Legal.{legal_segments}
use Rattle.metadata.specs.Lists.{lists_legal}

-- The words of the header and of the pages.
abbrev pub header_part : List ℕ → List ℕ
header_part w = take header_words w

abbrev pub pages_part : List ℕ → List ℕ
pages_part w = mid header_words (page_words * pages_in (header_part w)) w

unfoldable pub decode : List ℕ → State
decode w = record { segments = segments_of (pages_part w); lists = lists_in (header_part w); spare = spare_in (header_part w) }

-- The words begin with the encoding of a valid state.
unfoldable pub is_state : List ℕ → Bool
is_state w =
    is_header (header_part w) && leb (words_for (pages_in (header_part w))) (length w) && legal_segments (pages_in (header_part w)) (pages_part w) && lists_legal (decode w)

unfoldable pub state_of : List ℕ → Option State
state_of w = cond (is_state w) (some (decode w)) none

-- The words of a state (document 01: its picture): the header, then the segments' words one after another. An arena of N pages has
-- 1,024 + 520 N words. Assumes nothing.
use Rattle.std.specs.Prelude.{ℕ, ◌≡◌, List, ◌++◌, length, take}
use Rattle.model.specs.Arena.{total}
use Rattle.model.specs.State.{State}
use Rattle.header.specs.Encoding.{header_encoding}
use Rattle.pages.specs.Encoding.{segments_encoding}

unfoldable pub encode : State → List ℕ
encode s = header_encoding (total s.segments) s.spare s.lists ++ segments_encoding s.segments

-- The words begin with the encoding of the state; what stands behind it is not looked at.
abbrev pub BeginsWith : List ℕ → State → Type 0
BeginsWith w s = take (length (encode s)) w ≡ encode s

-- The words of an account (document 01: its picture): the groups' figures, then the words of the state. An arena of N pages has
-- 1,088 + 520 N words. Assumes nothing.
use Rattle.std.specs.Prelude.{ℕ, ◌≡◌, List, ◌++◌, length, take}
use Rattle.model.specs.Holdings.{Account, holding_of, ceiling_at}
use Rattle.figures.specs.Encoding.{figures_encoding}
use Rattle.metadata.specs.Encoding.{encode}

abbrev pub figures_of : Account → List ℕ
figures_of a = figures_encoding (holding_of a) (ceiling_at a)

unfoldable pub account_encoding : Account → List ℕ
account_encoding a = figures_of a ++ encode a.state

-- The words begin with the encoding of the account; what stands behind it is not looked at.
abbrev pub BeginsWith : List ℕ → Account → Type 0
BeginsWith w a = take (length (account_encoding a)) w ≡ account_encoding a

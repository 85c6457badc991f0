-- The account that words encode. `is_account` tests any words, and `account-iff` says that it is exact; `account_in` tests nothing.
-- Assumes nothing.
use Rattle.std.specs.Prelude.{ℕ, suc, ◌+◌, ◌-◌, ◌*◌, Bool, cond, ◌&&◌, List, leb, eqb, get_or, take, drop}
use Rattle.std.proofs.Math.Option.{Option, none, some}
use Rattle.lemmas.specs.Below.{all_below}
use Rattle.lemmas.specs.Every.{every}
use Rattle.lemmas.specs.Parts.{mid}
use Rattle.lemmas.specs.Zeros.{is_zero}
use Rattle.model.specs.Numbers.{page_bytes, most_bytes, most_group, figure_words}
use Rattle.model.specs.declared.Holding.{Holding}
use Rattle.model.specs.Arena.{total}
use Rattle.model.specs.State.{State}
use Rattle.model.specs.PageMap.{page_map}
use Rattle.model.specs.Holdings.{blocks_of, held_of, Account}
use Rattle.figures.specs.Encoding.{at_greatest, at_ceiling, at_rest, record_in, ceiling_in}
use Rattle.metadata.specs.Decoding.{decode, is_state}

-- The words of the figures and of the state.
abbrev pub figures_part : List ℕ → List ℕ
figures_part w = take figure_words w

abbrev pub state_part : List ℕ → List ℕ
state_part w = drop figure_words w

unfoldable pub account_in : List ℕ → Account
account_in w = record { state = decode (state_part w); greatest = mid at_greatest most_group w; ceilings = mid at_ceiling most_group w }

-- A group's record fits b live blocks and r bytes held in an arena of so many bytes.
abbrev pub record_fits : Holding → ℕ → ℕ → ℕ → Bool
record_fits h b r most = eqb h.blocks b && eqb h.held r && leb h.held h.greatest && leb h.greatest most

-- No ceiling is above the largest.
abbrev pub ceiling_fits : List ℕ → ℕ → Bool
ceiling_fits f i = leb (ceiling_in f i) most_bytes

-- The record and the ceiling of the group at an index, among the figures f, fit the state s; ..
abbrev pub state_fits : List ℕ → State → ℕ → Bool
state_fits f s i =
    let m = page_map s in
    record_fits (record_in f i) (blocks_of (suc i) m) (held_of (suc i) m) (total s.segments * page_bytes) && ceiling_fits f i

-- .. or a tally t, which has the blocks of all groups and then their bytes, in an arena of so many bytes.
abbrev pub tally_fits : List ℕ → List ℕ → ℕ → ℕ → Bool
tally_fits f t most i = record_fits (record_in f i) (get_or t i 0) (get_or t (most_group + i) 0) most && ceiling_fits f i

-- The figures fit the state: every group's do, and the words behind them are zero.
unfoldable pub figures_fit : List ℕ → State → Bool
figures_fit f s = all_below (state_fits f s) most_group && every is_zero (mid at_rest (figure_words - at_rest) f)

-- The words begin with the encoding of a valid account.
unfoldable pub is_account : List ℕ → Bool
is_account w = is_state (state_part w) && figures_fit (figures_part w) (decode (state_part w))

unfoldable pub account_of : List ℕ → Option Account
account_of w = cond (is_account w) (some (account_in w)) none

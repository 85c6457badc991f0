-- One call on the lent words (document 01, "Calls" and "Numbers for no"; document 02, c and e), as the rules see the words: how many there are,
-- and which valid account they encode, if any. Assumes nothing.
use Rattle.std.specs.Prelude.{ℕ, ◌+◌, ◌*◌, ◌&&◌, leb, eqb}
use Rattle.std.proofs.Math.Option.{Option, none, some}
use Rattle.model.specs.Numbers.{most_group, most_pages, figure_words, header_words, page_words}
use Rattle.model.specs.declared.Operation.{Operation}
use Rattle.model.specs.declared.Operation.TheVariants.{Allocate, Free, Reset}
use Rattle.model.specs.declared.Refusal.TheVariants.{BadPages, FewWords, NoState, BadList}
use Rattle.model.specs.declared.Answer.TheVariants.{Refused, Done}
use Rattle.model.specs.State.{State}
use Rattle.model.specs.Holdings.{Account, accounted, fresh_account, ceiling_of}
use Rattle.model.specs.Calls.{Action, group, trim, query, listing, holdings, ceiling, Command, init, act, Outcome, answers, provided, refusal_of}
use Rattle.model.specs.Ceilings.{set_ceiling}
use Rattle.model.specs.Allocate.{allocate}
use Rattle.model.specs.Free.{free, reset}
use Rattle.model.specs.Trim.{trim_all, query_at}
use Rattle.model.specs.Listing.{list_into}

-- What a group, whose ceiling is c, asks of a valid state.
abbrev pub asked : ℕ → ℕ → Operation → State → Outcome State
asked c g (Allocate n) s = allocate c g n s
asked c g (Free o) s = free g o s
asked c g Reset s = reset g s

-- The holdings into a list of n records: it is to be as long as there are groups. Refusal 9. (What it is filled with are the account's
-- records, `holdings_of`.)
abbrev pub fetch : ℕ → State → Outcome State
fetch n s = provided (eqb n most_group) (Refused BadList) s (answers s Done)

-- What is asked of the state alone, as a valid account has it.
abbrev pub of_state : Account → Outcome State → Outcome Account
of_state a o = answers (accounted a o.after) o.answer

-- What is asked of a valid account.
abbrev pub serve : Account → Action → Outcome Account
serve a (group c) = of_state a (asked (ceiling_of a c.group) c.group c.operation a.state)
serve a trim = of_state a (trim_all a.state)
serve a (query o) = of_state a (query_at o a.state)
serve a (listing n) = of_state a (list_into n a.state)
serve a (holdings n) = of_state a (fetch n a.state)
serve a (ceiling g c) = set_ceiling g c a

-- The lent words (document 01: the books): their number, and the valid account that they encode (document 01: picture).
pub record Metadata : Type 0 where
  pub words : ℕ
  pub account : Option Account

-- The words of a state of n pages, and all words of an arena of n pages: those and the groups' figures in front of them.
abbrev pub words_for : ℕ → ℕ
words_for n = header_words + page_words * n

abbrev pub all_words : ℕ → ℕ
all_words n = figure_words + words_for n

abbrev pub keeping : Metadata → Account → Metadata
keeping m a = record { words = m.words; account = some a }

-- Init forgets what the words held. Refusals in document 01's order: 1, 2.
abbrev pub initialise : Metadata → ℕ → Outcome Metadata
initialise m n =
    provided (leb 1 n && leb n most_pages) (Refused BadPages) m
    (provided (leb (all_words n) m.words) (Refused FewWords) m (answers (keeping m (fresh_account n)) Done))

-- Any other call: refusal 3 comes first.
abbrev pub on_account : Metadata → Action → Option Account → Outcome Metadata
on_account m a none = answers m (refusal_of a NoState)
on_account m a (some b) = let o = serve b a in answers (keeping m o.after) o.answer

abbrev pub perform : Metadata → Command → Outcome Metadata
perform m (init n) = initialise m n
perform m (act a) = on_account m a m.account

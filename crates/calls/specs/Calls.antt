-- What a public call answers, and what it leaves in the lent words (document 01, "Calls" and "Numbers for no"; document 02, c and e): the rules
-- of the model, performed on what the words hold. Assumes nothing.
use Rattle.std.specs.Prelude.{ℕ, List, ◌++◌, Bool, cond, ◌&&◌, leb, eqb, length, drop}
use Rattle.std.proofs.Math.Option.{Option, none, some}
use Rattle.model.specs.Numbers.{most_group, most_pages, figure_words}
use Rattle.model.specs.declared.Answer.{Answer}
use Rattle.model.specs.declared.Answer.TheVariants.{Refused, Done}
use Rattle.model.specs.declared.Refusal.TheVariants.{BadList}
use Rattle.model.specs.declared.Holding.{Holding}
use Rattle.model.specs.State.{State}
use Rattle.model.specs.PageMap.{page_map}
use Rattle.model.specs.Holdings.{Account, holdings_of}
use Rattle.model.specs.Calls.{Command, init, act}
use Rattle.model.specs.Listing.{listing_text}
use Rattle.model.specs.Perform.{Metadata, all_words, perform}
use Rattle.header.specs.Encoding.{pages_in}
use Rattle.account.specs.Encoding.{account_encoding}
use Rattle.account.specs.Decoding.{account_of}
use Rattle.listing.specs.Into.{listed_into}

-- What the rules see of lent words: how many there are, and which valid account they encode, if any.
abbrev pub view_of : List ℕ → Metadata
view_of w = record { words = length w; account = account_of w }

-- The state of an account, if there is one; so that of the words.
abbrev pub state_in : Option Account → Option State
state_in none = none
state_in (some a) = some a.state

abbrev pub state_of : List ℕ → Option State
state_of w = state_in (account_of w)

-- The words w once an account is written into them: its own words in front, the later words as they were.
abbrev pub written : List ℕ → Option Account → List ℕ
written w none = w
written w (some a) = account_encoding a ++ drop (length (account_encoding a)) w

-- What a call on the words w answers, and the words after it.
unfoldable pub answer_of : List ℕ → Command → Answer
answer_of w c = (perform (view_of w) c).answer

unfoldable pub meta_after : List ℕ → Command → List ℕ
meta_after w c = written w (perform (view_of w) c).after.account

-- The buffer b of a listing once the call is over: the listing of the state and the bytes behind it, where the words encode an account
-- and its listing has room; else what it held.
abbrev pub listed_of : Option Account → List ℕ → List ℕ
listed_of none b = b
listed_of (some a) b = listed_into b (listing_text (page_map a.state))

unfoldable pub text_after : List ℕ → List ℕ → List ℕ
text_after w b = listed_of (account_of w) b

-- The list l of the holdings once the call is over: the account's twelve records, group 1 first, where the words encode an account and the
-- list has twelve; else what it held.
abbrev pub held_in : Option Account → List Holding → List Holding
held_in none l = l
held_in (some a) l = cond (eqb (length l) most_group) (holdings_of a) l

unfoldable pub list_after : List ℕ → List Holding → List Holding
list_after w l = held_in (account_of w) l

-- What the holdings answer on words that encode an account, by whether the list was filled.
abbrev pub fetched_if : Bool → Answer
fetched_if filled = cond filled Done (Refused BadList)

-- The pages of an arena; 0 for a number of pages that no arena has.
abbrev pub legal_pages : ℕ → ℕ
legal_pages n = cond (leb 1 n && leb n most_pages) n 0

-- How far into the words a call goes at most: as far as the words of the arena that an init asks for, or that the words name (in the
-- header's word 1, document 01's N) for any other call. Where that is no arena, as far as the fixed words.
abbrev pub extent : List ℕ → Command → ℕ
extent w (init n) = all_words (legal_pages n)
extent w (act a) = all_words (legal_pages (pages_in (drop figure_words w)))

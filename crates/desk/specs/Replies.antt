-- What a line is answered with, and what it leaves in the lent words (document 01, "The bench program and one whole session"): a call
-- is performed and its answer written as a line, a listing that is not refused writes its text, and anything else writes `?` and
-- changes nothing. w stands for the lent words, n for the bytes of the buffer that the reply is written into. Assumes nothing.
use Rattle.std.specs.Prelude.{ℕ, ◌≤◌, ◌<◌, ◌≡◌, cond, List, [], length, drop}
use Rattle.std.specs.Prelude as Prelude
use Rattle.std.specs.Prelude.{Some, None}
use Rattle.std.proofs.Math.Option.{Option, none, some}
use Rattle.std.proofs.lemmas.List.Edits.{sets}
use Rattle.model.specs.State.{State}
use Rattle.model.specs.PageMap.{page_map}
use Rattle.model.specs.Calls.{Command, is_refused, init, act, group, trim, query, listing}
use Rattle.model.specs.Listing.{listing_text}
use Rattle.uplink.specs.declared.Line.{Line}
use Rattle.uplink.specs.declared.Line.TheVariants.{Init, Group, Trim, Query, Listing, Bad}
use Rattle.uplink.specs.Answers.{answer_text, bad_text, answer_room}
use Rattle.uplink.specs.Fragments.{Held, step_from}
use Rattle.calls.specs.Calls.{state_of, answer_of, meta_after}
use Rattle.desk.specs.declared.Turn.{Turn}

-- ---- one line

-- The call that a line is; a bad line is none.
abbrev pub command_of : ℕ → Line → Option Command
command_of n (Init p) = some (init p)
command_of n (Group c) = some (act (group c))
command_of n Trim = some (act trim)
command_of n (Query o) = some (act (query o))
command_of n Listing = some (act (listing n))
command_of n Bad = none

-- The text of the listing that words encode.
abbrev pub listing_of : Option State → List ℕ
listing_of none = []
listing_of (some s) = listing_text (page_map s)

-- The bytes that a line is answered with.
unfoldable pub reply_to : List ℕ → ℕ → Line → List ℕ
reply_to w n (Init p) = answer_text (answer_of w (init p))
reply_to w n (Group c) = answer_text (answer_of w (act (group c)))
reply_to w n Trim = answer_text (answer_of w (act trim))
reply_to w n (Query o) = answer_text (answer_of w (act (query o)))
reply_to w n Listing =
    let a = answer_of w (act (listing n)) in
    cond (is_refused a) (answer_text a) (listing_of (state_of w))
reply_to w n Bad = bad_text

-- The words after a line. (How many bytes a listing's buffer has does not matter: a listing changes no word.)
abbrev pub words_by : List ℕ → Option Command → List ℕ
words_by w none = w
words_by w (some c) = meta_after w c

unfoldable pub words_after : List ℕ → Line → List ℕ
words_after w l = words_by w (command_of 0 l)

-- A reply in a lent buffer b: r is its length, and m the buffer then, with the reply at its front as far as the buffer reaches. (`sets`
-- drops the stores past the end.) A buffer with room for every answer's line has room for every reply: a listing that has none is refused.
pub record Replied (b reply : List ℕ) (r : ℕ) (m : List ℕ) : Type 0 where
  pub bytes : r ≡ length reply
  pub buffer : m ≡ sets b 0 reply
  pub fits : answer_room ≤ length b → r ≤ length b

-- ---- one turn

-- The same where a turn's bytes ended a line or none.
unfoldable pub reply_got : List ℕ → ℕ → Prelude.Option Line → List ℕ
reply_got w n (Some l) = reply_to w n l
reply_got w n None = []

unfoldable pub words_got : List ℕ → Prelude.Option Line → List ℕ
words_got w (Some l) = words_after w l
words_got w None = w

-- What a turn over the fragment s from a position on answers and leaves, where k was held, the words were w, and the buffer was b:
-- the reader's step, and the line that it ended is served. h is held then, and v and m are the words and the buffer.
pub record TurnBy (k : Held) (w s : List ℕ) (from : ℕ) (b : List ℕ) (t : Turn) (h : Held) (v m : List ℕ) : Type 0 where
  pub after : h ≡ (step_from from k (drop from s)).after
  pub next : t.next ≡ (step_from from k (drop from s)).next
  pub within : from ≤ length s → t.next ≤ length s
  pub onward : from < length s → from < t.next
  pub words : v ≡ words_got w (step_from from k (drop from s)).line
  pub reply : Replied b (reply_got w (length b) (step_from from k (drop from s)).line) t.len m

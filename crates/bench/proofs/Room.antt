-- The program's room for a reply is enough for every listing: its words are those of 24 pages at most. Assumes nothing.
use Prim.Native.Nat.{ℕ, ◌≤◌}
use mathlib.Core.Path.{◌≡◌, ap}
use mathlib.Core.Bool.{false}
use mathlib.Core.List.{List}
use mathlib.Core.Option.{some}
use native.Mathlib.Omega.{arith}
use lib.ListN.{length}
use Rattle.model.specs.State.{State}
use Rattle.model.specs.Calls.{act, listing, is_refused}
use Rattle.uplink.specs.declared.Line.{Line}
use Rattle.calls.specs.Calls.{state_of, answer_of}
use Rattle.calls.proofs.Promises as promises
use Rattle.calls.proofs.Promises.{longest-few}
use Rattle.desk.specs.Session.{words_after_all}
use Rattle.desk.proofs.Session.{words_long}
use Rattle.listing.specs.Longest.{longest}
use Rattle.listing.proofs.Lengths.{longest-figures}
use Rattle.bench.specs.Numbers.{bench_pages, bench_words, reply_room}

pub reply-room : longest bench_pages ≡ reply_room
reply-room = longest-figures.0

-- No listing of a state is refused.
pub listing-answered : (w : List ℕ) → length w ≤ bench_words → (s : State) → state_of w ≡ some s → is_refused (answer_of w (act (listing reply_room))) ≡ false
listing-answered w h s e = ap is_refused (promises.listing-answered w s e reply_room (omega (arith, longest-few w s e bench_pages h, reply-room)))

-- Nor is one after any lines.
pub session-answered : (w : List ℕ) → length w ≤ bench_words → (ls : List Line) (s : State) → state_of (words_after_all w ls) ≡ some s → is_refused (answer_of (words_after_all w ls) (act (listing reply_room))) ≡ false
session-answered w h ls s e = listing-answered _ (omega (arith, words_long w ls)) s e

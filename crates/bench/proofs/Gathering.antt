-- Serving a fragment turn by turn: what is served so far, and that the replies gathered have room. Assumes nothing.
use Prim.Native.Nat.{ℕ, ◌+◌, ◌-◌, ◌≤◌}
use mathlib.Core.Path.{◌≡◌, ap, ◌∙◌}
use mathlib.Core.List.{List, [], ◌++◌}
use native.Mathlib.Omega.{arith}
use lib.ListN.{length, take, drop, length-append, length-drop, drop_of_length-le}
use lib.Seq.{length-sets, length-take-le}
use Rattle.std.specs.Prelude.{Result, Ok, Err, OnOk}
use Rattle.uplink.specs.Answers.{answer_room}
use Rattle.uplink.specs.Fragments.{Held, held_after, lines_by}
use Rattle.desk.specs.declared.Turn.{Turn}
use Rattle.desk.specs.Replies.{Replied, TurnBy}
use Rattle.desk.specs.Session.{words_after_all}
use Rattle.desk.proofs.Session.{turn-words, turn-held}
use Rattle.bench.specs.Fragments.{ServedAll}
use Rattle.bench.specs.Numbers.{reply_room}

-- ---- a reply in a part of the buffer

-- The room for one reply has room for every answer's line.
pub reply-enough : answer_room ≤ reply_room
reply-enough = omega arith

module _ {reply m : List ℕ} {r : ℕ} where
  -- In its first n bytes.
  pub front-holds : (o : List ℕ) (n : ℕ) → n ≤ length o → answer_room ≤ n → Replied (take n o) reply r m → r ≤ length (m ++ drop n o)
  front-holds o n h k p =
      let long : length (take n o) ≡ n = length-take-le n o h in
      omega (arith, p.fits (omega arith), ap length p.buffer, length-sets (take n o) 0 reply, length-append m (drop n o))

-- In the room behind the bytes used, of a buffer o that has room for one more reply: u is the buffer then, and r the reply's length.
pub record Gathered (o : List ℕ) (used r : ℕ) (u : List ℕ) : Type 0 where
  pub long : length u ≡ length o
  pub holds : used + r ≤ length u

module _ {reply m : List ℕ} {r : ℕ} (o : List ℕ) (used : ℕ) (room : used + reply_room ≤ length o) (p : Replied (take (used + reply_room - used) (drop used o)) reply r m) where
  part-long : length (take (used + reply_room - used) (drop used o)) ≡ reply_room
  part-long = length-take-le (used + reply_room - used) _ (omega (arith, length-drop used o)) ∙ omega arith

  put-long : length m ≡ reply_room
  put-long = ap length p.buffer ∙ length-sets _ 0 reply ∙ part-long

  part-keeps : length (take used o ++ (m ++ drop (used + reply_room - used) (drop used o))) ≡ length o
  part-keeps =
      omega (
        arith,
        put-long,
        length-append (take used o) (m ++ drop (used + reply_room - used) (drop used o)),
        length-append m (drop (used + reply_room - used) (drop used o)),
        length-take-le used o (omega arith),
        length-drop (used + reply_room - used) (drop used o),
        length-drop used o,
      )

  pub gathered : Gathered o used r (take used o ++ (m ++ drop (used + reply_room - used) (drop used o)))
  gathered = record {
    long = part-keeps;
    holds = omega (arith, part-keeps, part-long, p.fits (omega (arith, part-long)));
  }

-- ---- turns

-- Of the fragment s, which is to be served on the words w₀ with the buffer o₀ where k₀ is held, the bytes before `at` are served; w and
-- o are the words and the buffer now, and k is held.
pub record Serving (w₀ s o₀ : List ℕ) (k₀ : Held) (w o : List ℕ) (k : Held) (at : ℕ) : Type 0 where
  pub within : at ≤ length s
  pub after : held_after k (drop at s) ≡ held_after k₀ s
  pub words : words_after_all w (lines_by k (drop at s)) ≡ words_after_all w₀ (lines_by k₀ s)
  pub words_long : length w ≡ length w₀
  pub buffer_long : length o ≡ length o₀

module _ {w₀ s o₀ : List ℕ} {k₀ : Held} {w o : List ℕ} {k : Held} {at : ℕ} (h : Serving w₀ s o₀ k₀ w o k at) where
  pub serving-turn : {b v m u : List ℕ} {t : Turn} {n : Held} → TurnBy k w s at b t n v m → length v ≡ length w → length u ≡ length o → Serving w₀ s o₀ k₀ v u n t.next
  serving-turn {v} {u} {t} y e f = record {
    within = y.within h.within;
    after = cc (turn-held y);
    words = cc (turn-words y);
    words_long = e ∙ h.words_long;
    buffer_long = f ∙ h.buffer_long;
  }

  -- All of it is served.
  pub serving-done : length s ≤ at → ServedAll k₀ w₀ s k w
  unfolding held_after lines_by words_after_all
  serving-done e =
      let end : drop at s ≡ [] = drop_of_length-le s {i = at} e in
      record {
        after = cc;
        words = cc;
      }

-- What holds in any case holds of what was written.
pub on-ok : {T E P : Type 0} (r : Result T E) → P → OnOk r P
on-ok (Ok x) p = p
on-ok (Err e) p = tt

-- One whole session: however the input is cut into fragments, and these into turns, the replies are those to the lines of the whole
-- input, one after another. Assumes nothing.
use Prim.Native.Nat.{ℕ}
use mathlib.Core.Path.{◌≡◌, refl, ap, ◌∙◌}
use mathlib.Core.List.{List, [], ◌∷◌, ◌++◌}
use mathlib.Core.Option.{Option, none, some}
use native.Mathlib.Omega.{arith}
use lib.ListN.{length, drop, drop_of_length-le}
use lib.Seq.{drop-drop}
use Rattle.model.specs.Calls.{Command}
use Rattle.text.specs.Writing.{joined}
use Rattle.uplink.specs.declared.Line.{Line}
use Rattle.std.specs.Prelude as Prelude
use Rattle.std.specs.Prelude.{Some, None}
use Rattle.uplink.specs.declared.Fed.{Fed}
use Rattle.uplink.specs.Fragments.{Held, Step, step_from, step_of, FedBy, held_after, lines_by}
use Rattle.uplink.proofs.Fragments.{fragments-input, fed-more, fed-whole}
use Rattle.desk.specs.declared.Turn.{Turn}
use Rattle.calls.proofs.Promises.{length-unchanged}
use Rattle.desk.specs.Replies.{command_of, words_by, words_after, reply_got, words_got, TurnBy}
use Rattle.desk.specs.Session.{output_of, words_after_all, input_lines, lines_in}

-- ---- lines after lines

-- No word is gained or lost.
line-long : (w : List ℕ) (c : Option Command) → length (words_by w c) ≡ length w
line-long w none = refl
line-long w (some c) = length-unchanged w c

pub words_long : (w : List ℕ) (ls : List Line) → length (words_after_all w ls) ≡ length w
unfolding words_after_all words_after
words_long w [] = refl
words_long w (l ∷ ls) = words_long (words_after w l) ls ∙ line-long w (command_of 0 l)

-- ---- fragments

pub session-output : (w : List ℕ) (n : ℕ) (xs : List (List ℕ)) → output_of w n (lines_in xs) ≡ output_of w n (input_lines (joined xs))
session-output w n xs = ap (output_of w n) (fragments-input xs)

-- ---- turns

-- The step of a turn, as a step of the reader.
module _ {k : Held} {w s : List ℕ} {from : ℕ} {b : List ℕ} {t : Turn} {r : Held} {v m : List ℕ} (h : TurnBy k w s from b t r v m) where
  step : Step
  step = step_from from k (drop from s)

  fed : Fed
  unfolding step
  fed = record { next = t.next; line = step.line }

  turn-fed : FedBy k s from fed r
  unfolding fed step_of
  turn-fed = record { step = λ i. record { after = h.after i; next = h.next i; line = step.line }; within = h.within; onward = h.onward }

  -- Of the lines of the fragment from a position on the turn has served the first, if there is one: the others and what is held at the
  -- fragment's end are those of the bytes behind the turn, and the replies are the turn's reply and those that follow.
  abbrev Turned : Prelude.Option Line → Type 0
  Turned g =
      (output_of w (length b) (lines_by k (drop from s)) ≡ reply_got w (length b) g ++ output_of (words_got w g) (length b) (lines_by r (drop t.next s)))
      × (words_after_all w (lines_by k (drop from s)) ≡ words_after_all (words_got w g) (lines_by r (drop t.next s)))
      × (held_after k (drop from s) ≡ held_after r (drop t.next s))

  turned : (g : Prelude.Option Line) → step.line ≡ g → Turned g
  unfolding fed output_of words_after_all reply_got words_got lines_by held_after
  turned None e =
      let f = fed-more turn-fed e in
      let end : drop t.next s ≡ [] = cc (drop-drop (length (drop from s)) from s, drop_of_length-le (drop from s) {i = length (drop from s)} (omega arith)) in
      let same : lines_by k (drop from s) ≡ lines_by r (drop t.next s) = cc in
      (ap (output_of w (length b)) same, ap (words_after_all w) same, cc)
  turned (Some l) e =
      let f = fed-whole turn-fed e in
      let all : lines_by k (drop from s) ≡ l ∷ lines_by r (drop t.next s) = cc in
      (ap (output_of w (length b)) all, ap (words_after_all w) all, cc)

  pub turn-output : output_of w (length b) (lines_by k (drop from s)) ≡ reply_got w (length b) (step_from from k (drop from s)).line ++ output_of v (length b) (lines_by r (drop t.next s))
  unfolding step
  turn-output = cc (turned step.line refl).0

  pub turn-words : words_after_all w (lines_by k (drop from s)) ≡ words_after_all v (lines_by r (drop t.next s))
  unfolding step
  turn-words = cc (turned step.line refl).1

  pub turn-held : held_after k (drop from s) ≡ held_after r (drop t.next s)
  turn-held = (turned step.line refl).2

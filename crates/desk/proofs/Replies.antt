-- Each kind of line is answered as specs/Replies.antt says, from what the public calls and the writers of lines promise.
-- Assumes nothing.
use Prim.Native.Nat.{ℕ, ◌+◌, ◌≤◌}
use mathlib.Core.Path.{◌≡◌, refl, sym, ap, ◌∙◌, subst}
use mathlib.Core.Bool.{Bool, true, false, cond}
use mathlib.Core.List.{List, ◌++◌}
use mathlib.Core.Option.{Option}
use native.Mathlib.Omega.{arith}
use lib.Dec.{leb}
use lib.ListN.{length, drop}
use lib.Seq.{sets}
use borrow.Author.Tests.{leb-true}
use Rattle.lemmas.proofs.Cases.{true-false}
use Rattle.model.specs.declared.Refusal.TheVariants.{ShortBuffer}
use Rattle.model.specs.declared.Call.{Call}
use Rattle.model.specs.declared.Answer.{Answer}
use Rattle.model.specs.declared.Answer.TheVariants.{Refused, Counted}
use Rattle.model.specs.State.{State}
use Rattle.model.specs.PageMap.{page_map}
use Rattle.model.specs.Holdings.{Account}
use Rattle.model.specs.Ascii.{ascii}
use Rattle.model.specs.Calls.{Command, init, act, group, trim, query, listing, is_refused, answers, provided}
use Rattle.model.specs.Listing.{listing_text}
use Rattle.model.specs.Perform.{on_account}
use Rattle.text.specs.Writing.{Wrote}
use Rattle.listing.proofs.Into.{sets-front}
use Rattle.uplink.specs.declared.Line.{Line}
use Rattle.uplink.specs.declared.Line.TheVariants.{Init, Group, Trim, Query, Listing, Bad}
use Rattle.uplink.specs.Answers.{answer_text, bad_text, answer_room}
use Rattle.calls.specs.Calls.{view_of, state_in, answer_of, meta_after, listed_of, text_after}
use Rattle.calls.proofs.Words.{by-account}
use Rattle.calls.proofs.Promises.{listing-unchanged}
use Rattle.desk.specs.Replies.{listing_of, reply_to, words_after, Replied}

-- ---- a call's answer, as a line

-- A line that was written is the reply.
pub replied-line : {b text reply : List ℕ} {r : ℕ} {m : List ℕ} → reply ≡ text → Wrote b 0 text r m → r ≤ answer_room → Replied b reply r m
replied-line {b} {text} {reply} {r} {m} e w h = record {
  bytes = let n : length reply ≡ length text = ap length e in omega arith;
  buffer = cc;
  fits = omega arith;
}

pub bad-short : {b : List ℕ} {r : ℕ} {m : List ℕ} → Wrote b 0 bad_text r m → r ≤ answer_room
unfolding bad_text ascii
bad-short s = omega arith

count_same : {k n : ℕ} → Counted k ≡ Counted n → k ≡ n
count_same e = cc

-- A line that is the call c: its reply is the line of the answer.
abbrev Performs : List ℕ → ℕ → Line → Command → Type 0
Performs w n q c = (reply_to w n q ≡ answer_text (answer_of w c)) × (words_after w q ≡ meta_after w c)

module _ (w : List ℕ) (n : ℕ) where
  pub performs-init : (p : ℕ) → Performs w n (Init p) (init p)
  unfolding reply_to words_after
  performs-init p = (refl, refl)

  pub performs-group : (c : Call) → Performs w n (Group c) (act (group c))
  unfolding reply_to words_after
  performs-group c = (refl, refl)

  pub performs-trim : Performs w n Trim (act trim)
  unfolding reply_to words_after
  performs-trim = (refl, refl)

  pub performs-query : (o : ℕ) → Performs w n (Query o) (act (query o))
  unfolding reply_to words_after
  performs-query o = (refl, refl)

module _ (w b : List ℕ) (l : Line) where
  -- The words after the line, and its reply.
  abbrev pub ServedBy : ℕ → List ℕ → List ℕ → Type 0
  ServedBy r v m = (v ≡ words_after w l) × Replied b (reply_to w (length b) l) r m

  pub served-call : (c : Command) {q : Line} {a : Answer} {r : ℕ} {v m : List ℕ} → l ≡ q → Performs w (length b) q c → (a ≡ answer_of w c) × (v ≡ meta_after w c) → Wrote b 0 (answer_text a) r m × (r ≤ 0 + answer_room) → ServedBy r v m
  served-call c {q} {a} {r} {v} {m} e p h s =
      let short : r ≤ answer_room = omega arith in
      (cc, replied-line (cc) s.0 short)

  pub served-bad : {r : ℕ} {m : List ℕ} → l ≡ Bad → Wrote b 0 bad_text r m → ServedBy r w m
  unfolding reply_to words_after
  served-bad {r} {m} e s = (ap (words_after w) (sym e), replied-line (ap (reply_to w (length b)) e) s (bad-short s))

  pub served-listing : {r : ℕ} {v m : List ℕ} → l ≡ Listing → (v ≡ w) × Replied b (reply_to w (length b) Listing) r m → ServedBy r v m
  unfolding words_after
  served-listing {r} {v} {m} e h =
      (cc (listing-unchanged w 0), rw e h.1)

-- ---- the listing

-- What the call answers, what it leaves in the buffer b, and the reply: the text's length, the text at the buffer's front, the text; or
-- a refusal, the buffer as it was, the refusal's line.
pub data Listed (b : List ℕ) (a : Answer) (v reply : List ℕ) : Type 0 where
  whole : length reply ≤ length b → a ≡ Counted (length reply) → v ≡ sets b 0 reply → Listed b a v reply
  refused : is_refused a ≡ true → v ≡ b → reply ≡ answer_text a → Listed b a v reply

listed_by : (b : List ℕ) (s : State) (t : List ℕ) (room : Bool) → leb (length t) (length b) ≡ room
    → Listed b (provided room (Refused ShortBuffer) s (answers s (Counted (length t)))).answer (cond room (t ++ drop (length t) b) b) (cond (is_refused (provided room (Refused ShortBuffer) s (answers s (Counted (length t)))).answer) (answer_text (provided room (Refused ShortBuffer) s (answers s (Counted (length t)))).answer) t)
listed_by b s t true e =
    let fits : length t ≤ length b = leb-true (length t) (length b) e in
    whole fits refl (sym (sets-front t b fits))
listed_by b s t false e = refused refl refl refl

listing-listed : (w b : List ℕ) → Listed b (answer_of w (act (listing (length b)))) (text_after w b) (reply_to w (length b) Listing)
unfolding answer_of text_after reply_to
listing-listed w b =
    let n = length b in
    let said : Option Account → Answer = λ y. (on_account (view_of w) (listing n) y).answer in
    by-account (λ y. Listed b (said y) (listed_of y b) (cond (is_refused (said y)) (answer_text (said y)) (listing_of (state_in y)))) w
    (λ _. refused refl refl refl)
    (λ x _ _. let t = listing_text (page_map x.state) in listed_by b x.state t (leb (length t) n) refl)

module _ (w b : List ℕ) {a : Answer} {v : List ℕ} (h : (a ≡ answer_of w (act (listing (length b)))) × (v ≡ text_after w b)) where
  called-listed : Listed b a v (reply_to w (length b) Listing)
  called-listed = subst (λ x. Listed b x v (reply_to w (length b) Listing)) (sym h.0) (subst (λ u. Listed b (answer_of w (act (listing (length b)))) u (reply_to w (length b) Listing)) (sym h.1) (listing-listed w b))

  -- The call counted k bytes.
  pub listing-counted : {k : ℕ} → a ≡ Counted k → Replied b (reply_to w (length b) Listing) k v
  listing-counted {k} e = go called-listed
    where
      go : {t : List ℕ} → Listed b a v t → Replied b t k v
      go (whole fits told put) = record { bytes = count_same (sym e ∙ told); buffer = put; fits = λ _. omega (arith, count_same (sym e ∙ told)) }
      go (refused is kept said) = true-false is (cc)

  -- It counted none: the refusal's line was written.
  pub listing-refused : {r : ℕ} {m : List ℕ} → ((k : ℕ) → a ≡ Counted k → ⊥) → Wrote v 0 (answer_text a) r m × (r ≤ 0 + answer_room) → Replied b (reply_to w (length b) Listing) r m
  listing-refused {r} {m} not s = go called-listed
    where
      go : {t : List ℕ} → Listed b a v t → Replied b t r m
      go {t} (whole fits told put) = absurd (not (length t) told)
      go (refused is kept said) =
          let short : r ≤ answer_room = omega arith in
          replied-line said (rw kept at s.0) short

-- A call on words is the call on the front of them that it can need (`extent`), with the words behind as they were. Assumes nothing.
use Prim.Native.Nat.{ℕ, ◌≤◌, ◌<◌, min}
use mathlib.Core.Path.{◌≡◌, refl, sym, ap, ◌∙◌}
use mathlib.Core.List.{List, ◌++◌, append_assoc}
use mathlib.Core.Option.{some}
use mathlib.Core.Bool.{true, false, ◌&&◌}
use native.Mathlib.Omega.{arith}
use lib.Dec.{leb}
use lib.ListN.{length, take, drop, length-take, take-append-drop}
use lib.Seq.{get_or-take, take-take, drop-append-le}
use borrow.Author.Tests.{leb-true, leb-false, le-leb}
use Rattle.lemmas.proofs.Cases.{bool, and_left, and_right, and_both, refuted, true-false}
use Rattle.model.specs.Numbers.{most_pages, figure_words, header_words}
use Rattle.model.specs.Arena.{total}
use Rattle.model.specs.Holdings.{Account, fresh_account}
use Rattle.model.specs.Calls.{Action, Command, init, act, is_refused}
use Rattle.model.specs.declared.Refusal.TheVariants.{NoState}
use Rattle.model.proofs.Answers.{refusal-refused}
use Rattle.model.specs.Perform.{all_words}
use Rattle.header.specs.Encoding.{pages_in}
use Rattle.metadata.specs.Decoding.{decode}
use Rattle.metadata.proofs.States.{state-pages}
use Rattle.account.specs.Encoding.{account_encoding, BeginsWith}
use Rattle.account.specs.Decoding.{state_part, account_in, is_account, account_of}
use Rattle.account.proofs.Accounts.{front_fits, passed, account-valid, account-begins, account-long, begins-passes, account_of-some, account_of-none}
use Rattle.calls.specs.Calls.{written, answer_of, meta_after, legal_pages, extent}
use Rattle.calls.proofs.Words.{following, encodes-of, by-account, refused-same, unserved-answer, served-long, served-answer, served-words}
use Rattle.calls.proofs.Fresh.{bad-answer, short-answer, fresh-done, fresh-words}

-- A call on the words w is the call on the first k of them, with the others behind.
abbrev pub Alone : List ℕ → Command → ℕ → Type 0
Alone w c k = (answer_of w c ≡ answer_of (take k w) c) × (meta_after w c ≡ meta_after (take k w) c ++ drop k w)

pages-named : (a : ℕ) → 1 < a → (w : List ℕ) → pages_in (take a w) ≡ pages_in w
pages-named a h w = get_or-take a w 1 0 h

legal-pages : (n : ℕ) → 1 ≤ n → n ≤ most_pages → legal_pages n ≡ n
legal-pages n a b = rw (and_both (leb 1 n) (leb n most_pages) (le-leb 1 n a) (le-leb n most_pages b))

module _ (w : List ℕ) (k : ℕ) where
  few : length (take k w) ≤ k
  few = omega (arith, length-take k w)

  -- Words that the front begins with, the words begin with; and the other way round, if the front is long enough.
  begins-there : (x : Account) → BeginsWith (take k w) x → BeginsWith w x
  begins-there x b = sym (take-take (length (account_encoding x)) k w (omega (arith, few, front_fits (account_encoding x) (take k w) b))) ∙ b

  begins-here : (x : Account) → length (account_encoding x) ≤ k → BeginsWith w x → BeginsWith (take k w) x
  begins-here x h b = take-take (length (account_encoding x)) k w h ∙ b

  -- The account of words that pass reaches as far as they say.
  account-reaches : is_account w ≡ true → length (account_encoding (account_in w)) ≡ all_words (legal_pages (pages_in (drop figure_words w)))
  unfolding account_in
  account-reaches t =
      let v = account-valid w t in
      let m = pages_in (drop figure_words w) in
      let n : total (decode (state_part w)).segments ≡ m = state-pages (state_part w) (passed w t).0 ∙ pages-named header_words (omega arith) (drop figure_words w) in
      account-long (account_in w) v ∙ ap (λ j. all_words j) (n ∙ sym (legal-pages m (omega (arith, v.state.least)) (omega (arith, v.state.most))))

  pub front-account : all_words (legal_pages (pages_in (drop figure_words w))) ≤ k → account_of (take k w) ≡ account_of w
  front-account h = bool (is_account w)
      (λ t. let v = account-valid w t in let b = account-begins w t in
      account_of-some (take k w) (account_in w) v (begins-here (account_in w) (omega (arith, account-reaches t)) b) ∙ sym (account_of-some w (account_in w) v b))
      (λ t. let x = account_in (take k w) in
      let no : is_account (take k w) ≡ false = refuted (is_account (take k w)) (λ u. true-false (begins-passes x (account-valid (take k w) u) w (begins-there x (account-begins (take k w) u))) t) in
      account_of-none (take k w) no ∙ sym (account_of-none w t))

  -- An account that has room in the front is written into it.
  written-front : (x : Account) → length (account_encoding x) ≤ length (take k w) → written w (some x) ≡ written (take k w) (some x) ++ drop k w
  written-front x h =
      let n = length (account_encoding x) in
      ap (λ d. account_encoding x ++ d) (ap (drop n) (sym (take-append-drop k w)) ∙ drop-append-le n (take k w) (drop k w) h)
      ∙ sym (append_assoc (account_encoding x) (drop n (take k w)) (drop k w))

  refused-front : (c : Command) → is_refused (answer_of w c) ≡ true → answer_of w c ≡ answer_of (take k w) c → Alone w c k
  refused-front c r e = (e, refused-same w c r ∙ sym (take-append-drop k w) ∙ ap (λ l. l ++ drop k w) (sym (refused-same (take k w) c (ap is_refused (sym e) ∙ r))))

  acted-front : (a : Action) → all_words (legal_pages (pages_in (drop figure_words w))) ≤ k → Alone w (act a) k
  acted-front a h = by-account (λ _. Alone w (act a) k) w
      (λ e. let no = unserved-answer w e a in refused-front (act a) (ap is_refused no ∙ refusal-refused a NoState) (no ∙ sym (unserved-answer (take k w) (front-account h ∙ e) a)))
      (λ x e p. let q = encodes-of (take k w) x (front-account h ∙ e) in (
        served-answer w x p.valid p.begins a ∙ sym (served-answer (take k w) x q.valid q.begins a),
        served-words w x p.valid p.begins a
            ∙ written-front (following x a) (omega (arith, served-long x p.valid a, front_fits (account_encoding x) (take k w) q.begins))
            ∙ ap (λ l. l ++ drop k w) (sym (served-words (take k w) x q.valid q.begins a)),
      ))

  init-front : (n : ℕ) → all_words (legal_pages n) ≤ k → Alone w (init n) k
  init-front n h = bool (leb 1 n && leb n most_pages)
      (λ t. go (leb-true 1 n (and_left (leb 1 n) (leb n most_pages) t)) (leb-true n most_pages (and_right (leb 1 n) (leb n most_pages) t)))
      (λ t. let no = bad-answer w n t in refused-front (init n) (ap is_refused (sym no)) (sym no ∙ bad-answer (take k w) n t))
    where
      go : 1 ≤ n → n ≤ most_pages → Alone w (init n) k
      go a b =
          let there : (n ≡ 0 → ⊥) = λ z. omega arith in
          let front : length (take k w) ≡ min k (length w) = length-take k w in
          let inside : all_words n ≤ k = omega (arith, h, legal-pages n a b) in
          bool (leb (all_words n) (length w))
          (λ t. let long = leb-true (all_words n) (length w) t in
          let all = fresh-done w n there b (all_words n) refl long in
          let part = fresh-done (take k w) n there b (all_words n) refl (omega arith) in (
            sym all.0 ∙ part.0,
            sym all.1 ∙ written-front (fresh_account n) (omega (arith, fresh-words w n there b (all_words n) refl)) ∙ ap (λ l. l ++ drop k w) part.1,
          ))
          (λ t. let short = leb-false (all_words n) (length w) t in
          let no = short-answer w n there b (all_words n) refl (omega arith) in
          refused-front (init n) (ap is_refused (sym no)) (sym no ∙ short-answer (take k w) n there b (all_words n) refl (omega arith)))

pub front-alone : (w : List ℕ) (c : Command) (k : ℕ) → extent w c ≤ k → Alone w c k
front-alone w (init n) k h = init-front w k n h
front-alone w (act a) k h = acted-front w k a h

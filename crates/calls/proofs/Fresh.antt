-- Init: its refusals, and the words that it leaves. Assumes nothing.
use Prim.Native.Nat.{ℕ, ◌≤◌, ◌<◌}
use mathlib.Core.Path.{◌≡◌, refl, sym, ap, ◌∙◌}
use mathlib.Core.List.{List, ◌++◌}
use mathlib.Core.Logic.{◌⊎◌, inl, inr}
use mathlib.Core.Option.{some}
use mathlib.Core.Bool.{Bool, true, false, ◌&&◌}
use native.Mathlib.Omega.{arith}
use lib.Dec.{leb}
use lib.ListN.{length, drop}
use borrow.Author.Tests.{leb-true, le-leb, lt-leb}
use Rattle.lemmas.proofs.Cases.{and_left, and_right, and_both, refuted}
use Rattle.model.specs.Numbers.{most_pages}
use Rattle.model.specs.declared.Refusal.TheVariants.{BadPages, FewWords}
use Rattle.model.specs.declared.Answer.TheVariants.{Refused, Done}
use Rattle.model.specs.Holdings.{fresh_account}
use Rattle.model.specs.Calls.{init, Outcome, answers, is_refused, provided}
use Rattle.model.specs.Perform.{Metadata, all_words, keeping}
use Rattle.model.proofs.Accounts.{fresh-account}
use Rattle.account.specs.Encoding.{account_encoding}
use Rattle.account.proofs.Accounts.{account-long}
use Rattle.calls.specs.Calls.{view_of, written, answer_of, meta_after}
use Rattle.calls.proofs.Words.{refused-same}

module _ (w : List ℕ) (n : ℕ) where
  -- Init by the results of its two tests.
  abbrev tested : Bool → Bool → Outcome Metadata
  tested a b = provided a (Refused BadPages) (view_of w) (provided b (Refused FewWords) (view_of w) (answers (keeping (view_of w) (fresh_account n)) Done))

  tested-answer : (a b : Bool) → (leb 1 n && leb n most_pages) ≡ a → leb (all_words n) (length w) ≡ b → (tested a b).answer ≡ answer_of w (init n)
  unfolding answer_of
  tested-answer a b p q = λ i. (tested (sym p i) (sym q i)).answer

  tested-words : (a b : Bool) → (leb 1 n && leb n most_pages) ≡ a → leb (all_words n) (length w) ≡ b → written w (tested a b).after.account ≡ meta_after w (init n)
  unfolding meta_after
  tested-words a b p q = λ i. written w (tested (sym p i) (sym q i)).after.account

  -- Refusal 1.
  pub bad-answer : (leb 1 n && leb n most_pages) ≡ false → Refused BadPages ≡ answer_of w (init n)
  bad-answer t = tested-answer false (leb (all_words n) (length w)) t refl

  bad : (leb 1 n && leb n most_pages) ≡ false → (Refused BadPages ≡ answer_of w (init n)) × (w ≡ meta_after w (init n))
  bad t = (bad-answer t, sym (refused-same w (init n) (ap (λ r. is_refused r) (sym (bad-answer t)))))

  pub no-pages : n ≡ 0 → (Refused BadPages ≡ answer_of w (init n)) × (w ≡ meta_after w (init n))
  no-pages z = bad (refuted (leb 1 n && leb n most_pages) (λ t. omega (arith, leb-true 1 n (and_left (leb 1 n) (leb n most_pages) t))))

  pub many-pages : most_pages < n → (Refused BadPages ≡ answer_of w (init n)) × (w ≡ meta_after w (init n))
  many-pages h = bad (refuted (leb 1 n && leb n most_pages) (λ t. omega (arith, leb-true n most_pages (and_right (leb 1 n) (leb n most_pages) t))))

  -- As the code tests for both.
  pub bad-pages : (n ≡ 0) ⊎ ((n ≡ 0 → ⊥) × (most_pages < n)) → (Refused BadPages ≡ answer_of w (init n)) × (w ≡ meta_after w (init n))
  bad-pages (inl z) = no-pages z
  bad-pages (inr h) = many-pages h.1

  module _ (there : (n ≡ 0 → ⊥)) (few : n ≤ most_pages) where
    legal : (leb 1 n && leb n most_pages) ≡ true
    legal = and_both (leb 1 n) (leb n most_pages) (le-leb 1 n (omega (arith, there))) (le-leb n most_pages few)

    module _ (e : ℕ) (at : e ≡ all_words n) where
      -- Refusal 2.
      pub short-answer : length w < e → Refused FewWords ≡ answer_of w (init n)
      short-answer h = tested-answer true false legal (lt-leb (all_words n) (length w) (omega (arith, at)))

      pub few_words : length w < e → (Refused FewWords ≡ answer_of w (init n)) × (w ≡ meta_after w (init n))
      few_words h = (short-answer h, sym (refused-same w (init n) (ap (λ r. is_refused r) (sym (short-answer h)))))

      -- The fresh account is written.
      pub fresh-done : e ≤ length w → (Done ≡ answer_of w (init n)) × (written w (some (fresh_account n)) ≡ meta_after w (init n))
      fresh-done l =
          let long : leb (all_words n) (length w) ≡ true = le-leb (all_words n) (length w) (omega (arith, at)) in
          (tested-answer true true legal long, tested-words true true legal long)

      -- The words of the arena have been set up.
      pub fresh-words : length (account_encoding (fresh_account n)) ≡ e
      fresh-words = omega (arith, at, account-long (fresh_account n) (fresh-account n (omega (arith, there)) few))

      pub set-up-done : e ≤ length w → (v : List ℕ) → v ≡ account_encoding (fresh_account n) → (Done ≡ answer_of w (init n)) × (v ++ drop e w ≡ meta_after w (init n))
      set-up-done l v f = ((fresh-done l).0, (λ i. f i ++ drop (sym fresh-words i) w) ∙ (fresh-done l).1)

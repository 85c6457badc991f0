-- What the holdings answer and leave of the list, by the check of the words. Assumes nothing.
use Prim.Native.Nat.{ℕ, ◌+◌, ◌≤◌, ◌<◌}
use mathlib.Core.Option.{some}
use mathlib.Core.Path.{◌≡◌, sym, ap, ◌∙◌}
use mathlib.Core.Bool.{true, false, cond}
use mathlib.Core.List.{List}
use native.Mathlib.Omega.{arith}
use lib.Dec.{eqb}
use borrow.Author.Tests.{eq-eqb, ne_eqb}
use Rattle.std.specs.Prelude.{◌≢◌, Result, Ok, Err, MatchResult}
use lib.ListN.{length, take}
use lib.Seq.{get_or-take}
use Rattle.lemmas.specs.ListFrom.{list_from}
use Rattle.lemmas.proofs.Cases.{bool}
use Rattle.lemmas.proofs.ListFrom.{length-list_from, get_or-list_from, is-list_from}
use Rattle.model.specs.Numbers.{most_group, figure_words}
use Rattle.model.specs.declared.Holding.{Holding}
use Rattle.model.specs.declared.Answer.TheVariants.{Refused}
use Rattle.model.specs.declared.Refusal.{Refusal}
use Rattle.model.specs.declared.Refusal.TheVariants.{NoState, BadList}
use Rattle.model.specs.Holdings.{Account, holding_of, holdings_of, ceiling_at}
use Rattle.model.specs.Calls.{holdings, act, plain_answer}
use Rattle.figures.specs.Encoding.{at_held, at_greatest, record_in}
use Rattle.figures.specs.Records.{records_in, filled}
use Rattle.figures.proofs.Encoded.{record-encoded}
use Rattle.account.specs.Decoding.{account_in, is_account, account_of}
use Rattle.account.proofs.Accounts.{has-figures, figures-are, account-valid, account-begins, account_of-some, account_of-none}
use Rattle.calls.specs.Calls.{answer_of, held_in, fetched_if, list_after}
use Rattle.calls.proofs.Words.{encodes-of, unserved-answer, served-answer}

-- Words that encode an account: the answer goes by the list's length.
pub fetched-answer : (w : List ℕ) (x : Account) → account_of w ≡ some x → (n : ℕ) → answer_of w (act (holdings n)) ≡ fetched_if (eqb n most_group)
fetched-answer w x e n = let k = encodes-of w x e in served-answer w x k.valid k.begins (holdings n) ∙ bool (eqb n most_group) (λ t. rw t) (λ t. rw t)

module _ (w : List ℕ) (l : List Holding) where
  module _ (t : is_account w ≡ true) where
    abbrev x : Account
    x = account_in w

    pub good-long : figure_words ≤ length w
    good-long = omega (arith, has-figures w t)

    account-is : account_of w ≡ some x
    account-is = account_of-some w x (account-valid w t) (account-begins w t)

    -- What the filling of the list brings is what the call answers.
    pub good-answer : (r : Result Unit Refusal) → MatchResult r (λ _. length l ≡ most_group) (λ k. (length l ≢ most_group) × (k ≡ BadList)) → plain_answer r ≡ answer_of w (act (holdings (length l)))
    good-answer (Ok u) h = ap fetched_if (sym (eq-eqb (length l) most_group h)) ∙ sym (fetched-answer w x account-is (length l))
    good-answer (Err k) h = ap Refused h.1 ∙ ap fetched_if (sym (ne_eqb (length l) most_group h.0)) ∙ sym (fetched-answer w x account-is (length l))

    -- The records in the words are the account's.
    front : (i : ℕ) → i < most_group → record_in w i ≡ record_in (take figure_words w) i
    front i b = λ j. record {
      blocks = sym (get_or-take figure_words w i 0 (omega arith)) j;
      held = sym (get_or-take figure_words w (at_held + i) 0 (omega arith)) j;
      greatest = sym (get_or-take figure_words w (at_greatest + i) 0 (omega arith)) j;
    }

    records : records_in w ≡ holdings_of x
    unfolding records_in
    records = is-list_from (holding_of x) 0 most_group (list_from (record_in w) 0 most_group) (holding_of x 0) (length-list_from (record_in w) 0 most_group)
        (λ i b. get_or-list_from (record_in w) 0 most_group i (holding_of x 0) b ∙ at-index (0 + i) (omega arith))
      where
        at-index : (i : ℕ) → i < most_group → record_in w i ≡ holding_of (account_in w) i
        at-index i b = front i b ∙ ap (λ f. record_in f i) (figures-are w t) ∙ record-encoded (holding_of (account_in w)) (ceiling_at (account_in w)) i b

    pub good-list : filled w l ≡ list_after w l
    unfolding filled list_after
    good-list = ap (λ r. cond (eqb (length l) most_group) r l) records ∙ ap (λ y. held_in y l) (sym account-is)

  module _ (t : is_account w ≡ false) where
    pub bad-answer : Refused NoState ≡ answer_of w (act (holdings (length l)))
    bad-answer = sym (unserved-answer w (account_of-none w t) (holdings (length l)))

    pub bad-list : l ≡ list_after w l
    unfolding list_after
    bad-list = ap (λ y. held_in y l) (sym (account_of-none w t))

-- Setting a ceiling on words that pass the check: its refusals, 4 and 5, and the one word that it changes. Assumes nothing.
use Prim.Native.Nat.{ℕ, ◌-◌, ◌≤◌, ◌<◌}
use mathlib.Core.Path.{◌≡◌, refl, sym, ap, ◌∙◌}
use mathlib.Core.List.{List, ◌++◌, append_assoc}
use mathlib.Core.Bool.{true, false}
use native.Mathlib.Omega.{arith}
use lib.ListN.{length, take, drop}
use lib.Seq.{drop_at, length-take-le}
use borrow.Author.Tests.{le-leb, lt-leb}
use Rattle.model.specs.Numbers.{most_group, most_bytes, figure_words}
use Rattle.model.specs.declared.Refusal.TheVariants.{BadGroup, BadSize}
use Rattle.model.specs.declared.Answer.{Answer}
use Rattle.model.specs.declared.Answer.TheVariants.{Refused, Done}
use Rattle.model.specs.Holdings.{Account, holding_of, ceiling_at}
use Rattle.model.specs.Ceilings.{limited, set_ceiling}
use Rattle.model.specs.Calls.{ceiling, act, is_refused, group_ok}
use Rattle.model.proofs.Allocated.{group-least, group-most}
use Rattle.figures.specs.Steps.{capped}
use Rattle.figures.proofs.Encoded.{length-figures}
use Rattle.metadata.specs.Encoding.{encode}
use Rattle.account.specs.Encoding.{figures_of, account_encoding}
use Rattle.account.specs.Decoding.{account_in, is_account}
use Rattle.account.proofs.Accounts.{account-valid, account-begins, has-figures, figures-are}
use Rattle.account.proofs.Next.{capped-figures}
use Rattle.calls.specs.Calls.{answer_of, meta_after}
use Rattle.calls.proofs.Words.{front_same, refused-same, served-answer, served-words, served-long}

module _ (w : List ℕ) (g c : ℕ) where
  -- What the answer and the words are, where it is refused.
  refused : (r : Answer) → r ≡ answer_of w (act (ceiling g c)) → is_refused r ≡ true → (r ≡ answer_of w (act (ceiling g c))) × (w ≡ meta_after w (act (ceiling g c)))
  refused r e t = (e, sym (refused-same w (act (ceiling g c)) (ap is_refused (sym e) ∙ t)))

  module _ (t : is_account w ≡ true) where
    abbrev x : Account
    x = account_in w

    abbrev a : Answer
    a = answer_of w (act (ceiling g c))

    served : {r : Answer} → r ≡ (set_ceiling g c x).answer → r ≡ answer_of w (act (ceiling g c))
    served e = e ∙ sym (served-answer w x (account-valid w t) (account-begins w t) (ceiling g c))

    -- Refusal 4, ..
    pub set-bad-group : group_ok g ≡ false → (Refused BadGroup ≡ answer_of w (act (ceiling g c))) × (w ≡ meta_after w (act (ceiling g c)))
    set-bad-group u = refused (Refused BadGroup) (served (rw u)) refl

    module _ (u : group_ok g ≡ true) where
      -- .. 5.
      pub set-too-large : most_bytes < c → (Refused BadSize ≡ answer_of w (act (ceiling g c))) × (w ≡ meta_after w (act (ceiling g c)))
      set-too-large h = refused (Refused BadSize) (served (rw (u, lt-leb c most_bytes h))) refl

      index-low : g - 1 < most_group
      index-low = omega (arith, group-least g u, group-most g u)

      -- The figures are lent, ..
      pub set-lent : take figure_words w ≡ figures_of (account_in w)
      set-lent = figures-are w t

      pub set_long : figure_words ≤ length w
      set_long = omega (arith, has-figures w t)

      pub set-needs : (f : List ℕ) → f ≡ take figure_words w → (i : ℕ) → i ≡ g - 1 → (length f ≡ figure_words) × (i < most_group)
      set-needs f e i at = (ap length e ∙ length-take-le figure_words w set_long, omega (arith, index-low))

      -- .. and come back with the ceiling.
      pub set-done : c ≤ most_bytes → (v : List ℕ) (i : ℕ) → i ≡ g - 1 → v ≡ capped i c (take figure_words w) →
          (Done ≡ answer_of w (act (ceiling g c))) × (v ++ drop figure_words w ≡ meta_after w (act (ceiling g c)))
      unfolding account_encoding
      set-done h v i at q =
          let y = limited g c x in
          let same : (set_ceiling g c x).after ≡ y = rw (u, le-leb c most_bytes h) in
          let F-long = length-figures (holding_of x) (ceiling_at x) in
          let whole : w ≡ figures_of x ++ (encode x.state ++ drop (length (account_encoding x)) w)
          = sym (front_same (account_encoding x) w (account-begins w t)) ∙ append_assoc (figures_of x) (encode x.state) (drop (length (account_encoding x)) w) in
          let step : v ≡ figures_of y = q ∙ (λ j. capped (at j) c (set-lent j)) ∙ capped-figures x (account-valid w t) g c index-low in (
            served (rw (u, le-leb c most_bytes h)),
            (λ j. step j ++ drop figure_words (whole j))
                ∙ ap (λ l. figures_of y ++ l) (drop_at (figures_of x) (encode x.state ++ drop (length (account_encoding x)) w) figure_words F-long)
                ∙ sym (append_assoc (figures_of y) (encode y.state) (drop (length (account_encoding x)) w))
                ∙ (λ j. account_encoding (sym same j) ++ drop (sym (served-long x (account-valid w t) (ceiling g c)) j) w)
                ∙ sym (served-words w x (account-valid w t) (account-begins w t) (ceiling g c)),
          )

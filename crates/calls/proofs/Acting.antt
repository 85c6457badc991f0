-- The calls on words that pass the check: the words of the state are lent to the function that serves the call, and come back as those
-- of the state that the rules leave; then the figures of the group are stepped. Assumes nothing.
use Prim.Native.Nat.{ℕ, ◌+◌, ◌-◌, ◌*◌, ◌≤◌}
use mathlib.Core.Path.{◌≡◌, refl, sym, ap, ◌∙◌, subst}
use mathlib.Core.List.{List, ◌++◌, append_assoc}
use mathlib.Core.Option.{none, some}
use Rattle.std.specs.Prelude.{Option, None, Some, is_some}
use Rattle.std.proofs.lemmas.Option.{none-some, same_Some}
use mathlib.Core.Bool.{Bool, true, false}
use native.Mathlib.Omega.{arith}
use lib.ListN.{length, take, drop}
use lib.Seq.{take_at, drop_at, drop-drop}
use Rattle.lemmas.specs.Parts.{mid, put_mid}
use Rattle.lemmas.proofs.Cases.{bool, true-false}
use Rattle.lemmas.proofs.Parts.{mid_at, put-at}
use Rattle.model.specs.Numbers.{most_pages, figure_words, header_words, page_words}
use Rattle.model.specs.declared.Refusal.TheVariants.{NoState}
use Rattle.model.specs.declared.Call.{Call}
use Rattle.model.specs.declared.Operation.{Operation}
use Rattle.model.specs.declared.Answer.{Answer}
use Rattle.model.specs.Arena.{total}
use Rattle.model.specs.State.{State}
use Rattle.model.specs.Holdings.{Account, accounted, holding_of, ceiling_at}
use Rattle.model.specs.Valid.{ValidAccount}
use Rattle.model.specs.PageMap.{shown, page_map, block_at}
use Rattle.model.specs.Trim.{described, query_at}
use Rattle.model.specs.Calls.{Action, group, listing, act, Outcome, is_refused, refusal_of}
use Rattle.model.proofs.Answers.{refusal-refused}
use Rattle.model.proofs.Accounts.{serve-same}
use Rattle.model.specs.Listing.{listing_text}
use Rattle.model.specs.Perform.{of_state, serve, words_for, all_words}
use Rattle.header.specs.Encoding.{pages_in}
use Rattle.pages.specs.Decoding.{segments_of, Holds}
use Rattle.listing.specs.Into.{list_answer, listed_into}
use Rattle.listing.proofs.Into.{list-answer}
use Rattle.figures.proofs.Encoded.{length-figures}
use Rattle.metadata.specs.Encoding.{encode}
use Rattle.metadata.specs.Decoding.{header_part, pages_part, decode, is_state}
use Rattle.metadata.proofs.States.{state-read, state-pages, encode-long}
use Rattle.account.specs.Encoding.{figures_of, account_encoding}
use Rattle.account.specs.Decoding.{state_part, account_in, is_account, account_of}
use Rattle.account.proofs.Accounts.{front_fits, passed, account-valid, account-begins, account-long, account_of-some, account_of-none}
use Rattle.steps.specs.Lent.{Good}
use Rattle.steps.specs.Outcomes.{Makes}
use Rattle.steps.proofs.Kept.{good_of, good-decoded}
use Rattle.calls.specs.Calls.{state_in, state_of, answer_of, meta_after, listed_of, text_after}
use Rattle.calls.specs.Arena.{pages_of, Arena}
use Rattle.calls.proofs.Returning.{room_told}
use Rattle.calls.proofs.Words.{front_same, following, refused-same, unserved-answer, served-long, served-answer, served-words}

-- A test that cannot come out so proves any.
pub never_true : {b : Bool} → false ≡ true → b ≡ true
never_true e = cc

pub never-false : {b : Bool} → true ≡ false → b ≡ false
never-false e = cc

-- The arena's pages, as the check tells them ----------------------------------------------------------------------------------------

module _ (w : List ℕ) where
  account-is : is_account w ≡ true → account_of w ≡ some (account_in w)
  account-is t = account_of-some w (account_in w) (account-valid w t) (account-begins w t)

  pub pages-none : is_account w ≡ false → None ≡ pages_of (state_of w)
  pages-none t = ap (λ y. pages_of (state_in y)) (sym (account_of-none w t))

  pub pages-some : is_account w ≡ true → (n : ℕ) → n ≡ total (account_in w).state.segments → Some n ≡ pages_of (state_of w)
  pages-some t n e = ap (λ k. Some k) e ∙ ap (λ y. pages_of (state_in y)) (sym (account-is t))

  -- No pages: the words encode no account, and the call is refused.
  module _ (is : None ≡ pages_of (state_of w)) where
    no-account : account_of w ≡ none
    no-account = bool (is_account w)
        (λ t. absurd (none-some _ (is ∙ sym (pages-some t (total (account_in w).state.segments) refl))))
        (λ t. account_of-none w t)

    pub refused-answer : (a : Action) → refusal_of a NoState ≡ answer_of w (act a)
    refused-answer a = sym (unserved-answer w no-account a)

    pub refused-words : (a : Action) → w ≡ meta_after w (act a)
    refused-words a = sym (refused-same w (act a) (ap (λ r. is_refused r) (sym (refused-answer a)) ∙ refusal-refused a NoState))

    pub refused-text : (b : List ℕ) → b ≡ text_after w b
    unfolding text_after
    refused-text b = ap (λ y. listed_of y b) (sym no-account)

  -- Some pages: they begin with those of a valid account.
  pub arena-of : (n : ℕ) → Some n ≡ pages_of (state_of w) → Arena w n
  arena-of n is = bool (is_account w)
      (λ t. record { account = t; pages = same_Some _ _ (is ∙ sym (pages-some t (total (account_in w).state.segments) refl)) })
      (λ t. absurd (none-some _ (pages-none t ∙ sym is)))

  -- The same by the test whether there are any.
  pub none-told : (r : Option ℕ) → r ≡ pages_of (state_of w) → is_some r ≡ false → None ≡ pages_of (state_of w)
  none-told None e t = e
  none-told (Some n) e t = true-false refl t

  pub some-told : (r : Option ℕ) → r ≡ pages_of (state_of w) → is_some r ≡ true → is_account w ≡ true
  some-told None e t = true-false t refl
  some-told (Some n) e t = (arena-of n e).account

-- The words lent --------------------------------------------------------------------------------------------------------------------

module _ {w : List ℕ} {n : ℕ} (h : Arena w n) where
  abbrev x : Account
  x = account_in w

  pub arena-valid : ValidAccount (account_in w)
  arena-valid = account-valid w h.account

  arena-long : length (account_encoding x) ≡ all_words n
  arena-long = account-long x arena-valid ∙ ap (λ k. all_words k) (sym h.pages)

  state-long : length (encode x.state) ≡ words_for n
  state-long = encode-long x.state arena-valid.state ∙ ap (λ k. words_for k) (sym h.pages)

  pub arena-few : n ≤ most_pages
  arena-few = omega (arith, h.pages, arena-valid.state.most)

  F-long : length (figures_of x) ≡ figure_words
  F-long = length-figures (holding_of x) (ceiling_at x)

  -- A call that the rules refuse.
  pub arena-denied : (a : Action) (r : Answer) → r ≡ (serve (account_in w) a).answer → is_refused r ≡ true → (r ≡ answer_of w (act a)) × (w ≡ meta_after w (act a))
  arena-denied a r q t =
      let said = q ∙ sym (served-answer w x arena-valid (account-begins w h.account) a) in
      (said, sym (refused-same w (act a) (ap is_refused (sym said) ∙ t)))

  module _ (e : ℕ) (at : e ≡ all_words n) where
    -- They are there.
    pub arena-inside : e ≤ length w
    arena-inside = omega (arith, at, arena-long, front_fits (account_encoding x) w (account-begins w h.account))

    -- The words in their parts: the figures, the state's, and those behind.
    abbrev rest : List ℕ
    rest = drop (e - figure_words) (drop figure_words w)

    whole : w ≡ figures_of x ++ (encode x.state ++ drop e w)
    unfolding account_encoding
    whole =
        sym (front_same (account_encoding x) w (account-begins w h.account))
        ∙ ap (λ k. account_encoding x ++ drop k w) (arena-long ∙ sym at)
        ∙ append_assoc (figures_of x) (encode x.state) (drop e w)

    part-long : length (encode x.state) ≡ e - figure_words
    part-long = omega (arith, at, state-long)

    pub figures-lent : take figure_words w ≡ figures_of x
    figures-lent = ap (take figure_words) whole ∙ take_at (figures_of x) (encode x.state ++ drop e w) figure_words F-long

    lent_is : mid figure_words (e - figure_words) w ≡ encode x.state
    lent_is = ap (mid figure_words (e - figure_words)) whole ∙ mid_at (figures_of x) (encode x.state) (drop e w) figure_words (e - figure_words) F-long part-long

    pub arena-good : Good (mid figure_words (e - figure_words) w) n
    arena-good = good_of (mid figure_words (e - figure_words) w) x.state n arena-valid.state lent_is h.pages

    pub arena-decoded : decode (mid figure_words (e - figure_words) w) ≡ x.state
    arena-decoded = good-decoded (mid figure_words (e - figure_words) w) x.state arena-valid.state lent_is

    -- The room of the block at an offset, as the query tells it.
    pub told-room : (o : ℕ) (r : Answer) → r ≡ (query_at o (decode (mid figure_words (e - figure_words) w))).answer → room_told r ≡ room_told (described (block_at (page_map (account_in w).state) o))
    told-room o r q = ap room_told (q ∙ ap (λ s. (query_at o s).answer) arena-decoded)

    -- The words of the state come back as v: behind the figures, which are as they were, and are lent for their step.
    module _ (v : List ℕ) where
      put_is : put_mid figure_words (e - figure_words) w v ≡ figures_of x ++ (v ++ drop e w)
      put_is = ap (λ l. put_mid figure_words (e - figure_words) l v) whole ∙ put-at (figures_of x) (encode x.state) (drop e w) v figure_words (e - figure_words) F-long part-long

      pub figures-there : take figure_words (put_mid figure_words (e - figure_words) w v) ≡ figures_of (account_in w)
      figures-there = ap (take figure_words) put_is ∙ take_at (figures_of x) (v ++ drop e w) figure_words F-long

      pub figures-count : figure_words ≡ length (take figure_words (put_mid figure_words (e - figure_words) w v))
      figures-count = sym (ap length figures-there ∙ F-long)

    -- What a rule f answers on the words lent is a refusal just if what it answers here is.
    pub arena-told : (f : State → Outcome State) {r : Answer} → r ≡ (f (decode (mid figure_words (e - figure_words) w))).answer → is_refused (f (account_in w).state).answer ≡ is_refused r
    arena-told f q = ap (λ s. is_refused (f s).answer) (sym arena-decoded) ∙ ap is_refused (sym q)

    -- A call that is one on the state alone, f. A lower function answers what f answers on the words lent, ..
    module _ (a : Action) (f : State → Outcome State) (is : serve (account_in w) a ≡ of_state (account_in w) (f (account_in w).state)) where
      pub arena-answer : (r : Answer) → r ≡ (f (decode (mid figure_words (e - figure_words) w))).answer → r ≡ answer_of w (act a)
      arena-answer r q = q ∙ ap (λ s. (f s).answer) arena-decoded ∙ ap (λ o. o.answer) (sym is) ∙ sym (served-answer w x arena-valid (account-begins w h.account) a)

      -- .. and leaves there the words of the state that f leaves. Where the figures are then those of the account that follows, all words
      -- are those of that account, and the later ones as they were.
      module _ (v : List ℕ) (q : v ≡ encode (f (decode (mid figure_words (e - figure_words) w))).after) where
        left : v ≡ encode (following x a).state
        left = q ∙ ap (λ s. encode (f s).after) arena-decoded ∙ ap (λ o. encode o.after.state) (sym is)

        all_words_lem : (g : List ℕ) → g ≡ figures_of (following x a) → g ++ (v ++ drop e w) ≡ meta_after w (act a)
        unfolding account_encoding
        all_words_lem g k =
            (λ i. k i ++ (left i ++ drop e w))
            ∙ sym (append_assoc (figures_of (following x a)) (encode (following x a).state) (drop e w))
            ∙ ap (λ k. account_encoding (following x a) ++ drop k w) (at ∙ sym arena-long ∙ sym (served-long x arena-valid a))
            ∙ sym (served-words w x arena-valid (account-begins w h.account) a)

        -- The account that follows.
        next-figures : figures_of (accounted (account_in w) (f (account_in w).state).after) ≡ figures_of (following x a)
        next-figures = ap (λ o. figures_of o.after) (sym is)

        -- The figures are stepped to those of the account that follows; or they stay.
        pub arena-stepped : (g : List ℕ) → g ≡ figures_of (accounted (account_in w) (f (account_in w).state).after) → g ++ drop figure_words (put_mid figure_words (e - figure_words) w v) ≡ meta_after w (act a)
        arena-stepped g k = ap (λ l. g ++ l) (ap (drop figure_words) (put_is v) ∙ drop_at (figures_of x) (v ++ drop e w) figure_words F-long) ∙ all_words_lem g (k ∙ next-figures)

        pub arena-still : figures_of (account_in w) ≡ figures_of (accounted (account_in w) (f (account_in w).state).after) → put_mid figure_words (e - figure_words) w v ≡ meta_after w (act a)
        arena-still k = put_is v ∙ all_words_lem (figures_of x) (k ∙ next-figures)

      -- Both: where it is refused the figures stay, and so all words; where not, they are stepped, to g.
      pub arena-refuses : {r : Answer} {v : List ℕ} → Makes (f (decode (mid figure_words (e - figure_words) w))) r v → is_refused r ≡ true →
          (r ≡ answer_of w (act a)) × (put_mid figure_words (e - figure_words) w v ≡ meta_after w (act a))
      arena-refuses {r} {v} m t =
          let no = ap (λ o. is_refused o.answer) is ∙ arena-told f m.0 ∙ t in
          (arena-answer r m.0, arena-still v m.1 (ap (λ y. figures_of y) (sym (serve-same x arena-valid a no) ∙ ap (λ o. o.after) is)))

      pub arena-serves : {r : Answer} {v g : List ℕ} → Makes (f (decode (mid figure_words (e - figure_words) w))) r v → g ≡ figures_of (accounted (account_in w) (f (account_in w).state).after) →
          (r ≡ answer_of w (act a)) × (g ++ drop figure_words (put_mid figure_words (e - figure_words) w v) ≡ meta_after w (act a))
      arena-serves {r} {v} {g} m k = (arena-answer r m.0, arena-stepped v m.1 g k)

    -- The pages' words, for the listing.
    abbrev fixed : ℕ
    fixed = figure_words + header_words

    state-ok : is_state (state_part w) ≡ true
    state-ok = (passed w h.account).0

    pages-told : n ≡ pages_in (header_part (state_part w))
    unfolding account_in
    pages-told = h.pages ∙ state-pages (state_part w) state-ok

    part-is : mid fixed (e - fixed) w ≡ pages_part (state_part w)
    part-is =
        ap (take (e - fixed)) (sym (drop-drop header_words figure_words w))
        ∙ ap (λ k. take k (drop header_words (drop figure_words w))) (let q : e - fixed ≡ page_words * pages_in (header_part (state_part w)) = omega (arith, at, pages-told) in q)

    pub arena-holds : Holds (mid (figure_words + header_words) (e - (figure_words + header_words)) w) n
    arena-holds = subst (λ l. Holds l n) (sym part-is) (subst (Holds (pages_part (state_part w))) (sym pages-told) (state-read (state_part w) state-ok).segments)

    map_is : listing_text (shown (segments_of (mid fixed (e - fixed) w))) ≡ listing_text (page_map x.state)
    unfolding decode account_in
    map_is = ap (λ l. listing_text (shown (segments_of l))) part-is

    pub arena-listing : (b : List ℕ) (r : Answer) → r ≡ list_answer (length b) (listing_text (shown (segments_of (mid (figure_words + header_words) (e - (figure_words + header_words)) w)))) →
        r ≡ answer_of w (act (listing (length b)))
    arena-listing b r q =
        q ∙ ap (λ t. list_answer (length b) t) map_is ∙ list-answer (length b) x.state ∙ sym (served-answer w x arena-valid (account-begins w h.account) (listing (length b)))

    pub arena-text : (b v : List ℕ) → v ≡ listed_into b (listing_text (shown (segments_of (mid (figure_words + header_words) (e - (figure_words + header_words)) w)))) → v ≡ text_after w b
    unfolding text_after
    arena-text b v q = q ∙ ap (λ t. listed_into b t) map_is ∙ ap (λ y. listed_of y b) (sym (account-is w h.account))

-- A group's call, told by its group and what it asks.
pub same-call : (w : List ℕ) (c : Call) (q : Operation) → c.operation ≡ q → (r : Answer) (v : List ℕ) →
    (r ≡ answer_of w (act (group (record { group = c.group; operation = q })))) × (v ≡ meta_after w (act (group (record { group = c.group; operation = q })))) →
    (r ≡ answer_of w (act (group c))) × (v ≡ meta_after w (act (group c)))
same-call w c q e r v h =
    let k : record { group = c.group; operation = q } ≡ c = λ i. record { group = c.group; operation = sym e i } in
    (h.0 ∙ ap (λ d. answer_of w (act (group d))) k, h.1 ∙ ap (λ d. meta_after w (act (group d))) k)

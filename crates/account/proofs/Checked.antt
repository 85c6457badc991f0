-- The test of any words, case by case as the code finds them, and the words of a fresh account. Assumes nothing.
use Prim.Native.Nat.{ℕ, suc, ◌+◌, ◌-◌, ◌*◌, ◌≤◌, ◌<◌}
use mathlib.Core.Path.{◌≡◌, sym, ap, ◌∙◌, subst}
use mathlib.Core.List.{List, [], ◌++◌}
use mathlib.Core.Bool.{Bool, true, false, ◌&&◌}
use native.Mathlib.Omega.{arith}
use lib.Dec.{leb}
use lib.ListN.{length, get_or, take, drop, replicate, length-drop, length-replicate, get_or-replicate}
use lib.Seq.{take_all}
use borrow.Author.Tests.{le-leb, eq-eqb}
use Rattle.std.specs.List.{list_all, range_with_len}
use Rattle.std.proofs.lemmas.List.Elements.{All-from_get_or}
use Rattle.std.proofs.lemmas.List.Folds.{list_all_at}
use Rattle.std.proofs.lemmas.List.Sums.{list_all-from_AllPass}
use Rattle.std.proofs.lemmas.List.FromFn.{length-range_with_len, get_or-range_with_len}
use Rattle.lemmas.specs.Below.{all_below}
use Rattle.lemmas.specs.Every.{every}
use Rattle.lemmas.specs.Parts.{mid, put_mid}
use Rattle.lemmas.specs.Zeros.{is_zero}
use Rattle.lemmas.proofs.Below.{all-at, all_of, all_none, all_more, all_done}
use Rattle.lemmas.proofs.Cases.{bool, refuted, true-false, and_both}
use Rattle.lemmas.proofs.Tests.{agree}
use Rattle.model.specs.Numbers.{page_bytes, most_bytes, most_group, most_pages, figure_words, header_words, page_words}
use Rattle.model.specs.declared.Holding.{Holding}
use Rattle.model.specs.Arena.{total}
use Rattle.model.specs.State.{fresh_state}
use Rattle.model.specs.PageMap.{shown, page_map}
use Rattle.model.specs.Holdings.{blocks_of, held_of, fresh_account, holding_of, ceiling_at}
use Rattle.model.specs.Perform.{words_for}
use Rattle.header.specs.Encoding.{pages_in}
use Rattle.figures.specs.Encoding.{at_held, at_greatest, at_ceiling, at_rest, figures_encoding, no_holding, largest, record_in, ceiling_in}
use Rattle.figures.proofs.Encoded.{length-figures, record-encoded, ceiling-encoded, rest-encoded, is-figures}
use Rattle.pages.specs.Decoding.{segments_of, Holds}
use Rattle.tally.specs.Figures.{Tallied}
use Rattle.metadata.specs.Encoding.{encode}
use Rattle.metadata.specs.Decoding.{header_part, pages_part, decode, is_state}
use Rattle.metadata.proofs.States.{state-valid, state-read, state-pages}
use Rattle.metadata.proofs.Fresh.{put-behind}
use Rattle.account.specs.Encoding.{figures_of, account_encoding}
use Rattle.account.specs.Decoding.{state_part, account_in, record_fits, ceiling_fits, state_fits, tally_fits, figures_fit, is_account}
use Rattle.account.proofs.Accounts.{fitting, passed, has-figures}

-- ---- one record

-- The test of the group at the index i, in figures f and the tally g.
module _ (f g : List ℕ) (i most : ℕ) where
  abbrev h : Holding
  h = record_in f i

  abbrev b : ℕ
  b = get_or g i 0

  abbrev r : ℕ
  r = get_or g (most_group + i) 0

  abbrev k : ℕ
  k = ceiling_in f i

  pub other-blocks : (get_or f i 0 ≡ get_or g i 0 → ⊥) → false ≡ tally_fits f g most i
  other-blocks n = sym (refuted _ (λ t. n (fitting h k b r most t).blocks))

  pub other-bytes : (get_or f (at_held + i) 0 ≡ get_or g (most_group + i) 0 → ⊥) → false ≡ tally_fits f g most i
  other-bytes n = sym (refuted _ (λ t. n (fitting h k b r most t).held))

  pub too-low : get_or f (at_greatest + i) 0 < get_or f (at_held + i) 0 → false ≡ tally_fits f g most i
  too-low n = sym (refuted _ (λ t. omega (arith, (fitting h k b r most t).least)))

  pub too-high : most < get_or f (at_greatest + i) 0 → false ≡ tally_fits f g most i
  too-high n = sym (refuted _ (λ t. omega (arith, (fitting h k b r most t).most)))

  pub last-test : get_or f i 0 ≡ get_or g i 0 → get_or f (at_held + i) 0 ≡ get_or g (most_group + i) 0 → get_or f (at_held + i) 0 ≤ get_or f (at_greatest + i) 0 →
      get_or f (at_greatest + i) 0 ≤ most → leb (get_or f (at_ceiling + i) 0) most_bytes ≡ tally_fits f g most i
  last-test p q l m = rw (eq-eqb h.blocks b p, eq-eqb h.held r q, le-leb h.held h.greatest l, le-leb h.greatest most m)

-- ---- all records, one after another

module _ (f g : List ℕ) (most : ℕ) where
  abbrev test : ℕ → Bool
  test = tally_fits f g most

  pub none-tested : all_below test 0 ≡ true
  none-tested = all_none test

  pub one-fails : (i : ℕ) → i < most_group → test i ≡ false → false ≡ all_below test most_group
  one-fails i l e = sym (refuted (all_below test most_group) (λ t. true-false (all-at test most_group t i l) e))

  pub one_more : (i : ℕ) → all_below test i ≡ true → test i ≡ true → all_below test (i + 1) ≡ true
  one_more i a e = all_more test i ∙ and_both (test i) (all_below test i) e a

  pub all_tested : (i : ℕ) → i ≤ most_group → most_group ≤ i → all_below test i ≡ true → true ≡ all_below test most_group
  all_tested i a b t = all_done test most_group i (omega arith) (sym t)

-- ---- all records, in their order

pub tested-in-order : (test : ℕ → Bool) (n : ℕ) → list_all test (range_with_len 0 n) ≡ all_below test n
tested-in-order test n = agree (list_all test (range_with_len 0 n)) (all_below test n)
    (λ t. all_of test n (λ i l. bool (test i) (λ e. e) (λ e.
    absurd (true-false t (list_all_at test (range_with_len 0 n) i 0 (omega (arith, length-range_with_len 0 n)) (ap test (at i l) ∙ e))))))
    (λ t. list_all-from_AllPass test (range_with_len 0 n) (All-from_get_or (λ i. test i ≡ true) (range_with_len 0 n) 0 (λ i l.
    let k : i < n = omega (arith, length-range_with_len 0 n) in ap test (at i k) ∙ all-at test n t i k)))
  where
    at : (i : ℕ) → i < n → get_or (range_with_len 0 n) i 0 ≡ i
    at i l = get_or-range_with_len 0 n i 0 l ∙ omega arith

-- ---- the figures of a state

-- The tally of the state's pages tells what each group holds.
module _ (w : List ℕ) (t : is_state w ≡ true) where
  pub state-most : total (decode w).segments ≤ most_pages
  state-most = (state-valid w t).most

  module _ (n : ℕ) (is : n ≡ total (decode w).segments) (e : ℕ) (at : e ≡ words_for n) where
    pages-named : n ≡ pages_in (header_part w)
    pages-named = is ∙ state-pages w t

    pub state-inside : e ≤ length w
    state-inside = omega (arith, at, pages-named, (state-read w t).long)

    part-is : mid header_words (e - header_words) w ≡ pages_part w
    part-is = ap (λ k. mid header_words k w) (let u : e - header_words ≡ page_words * pages_in (header_part w) = omega (arith, at, pages-named) in u)

    pub state-holds : Holds (mid header_words (e - header_words) w) n
    state-holds = subst (λ l. Holds l n) (sym part-is) (subst (Holds (pages_part w)) (sym pages-named) (state-read w t).segments)

    map_is : shown (segments_of (mid header_words (e - header_words) w)) ≡ page_map (decode w)
    unfolding decode
    map_is = ap (λ l. shown (segments_of l)) part-is

    module _ (f g : List ℕ) (tallied : Tallied g (shown (segments_of (mid header_words (e - header_words) w)))) (most : ℕ) (bytes : most ≡ n * page_bytes) where
      blocks-are : (i : ℕ) → i < most_group → get_or g i 0 ≡ blocks_of (suc i) (page_map (decode w))
      blocks-are i l = tallied.blocks i l ∙ ap (blocks_of (suc i)) map_is

      held-are : (i : ℕ) → i < most_group → get_or g (most_group + i) 0 ≡ held_of (suc i) (page_map (decode w))
      held-are i l = tallied.held i l ∙ ap (held_of (suc i)) map_is

      abbrev by-tally : ℕ → Bool
      by-tally = tally_fits f g most

      abbrev by_state : ℕ → Bool
      by_state = state_fits f (decode w)

      same_test : (i : ℕ) → i < most_group → by-tally i ≡ by_state i
      same_test i l = λ j. record_fits (record_in f i) (blocks-are i l j) (held-are i l j) ((bytes ∙ ap (λ k. k * page_bytes) is) j) && ceiling_fits f i

      same_tests : all_below by-tally most_group ≡ all_below by_state most_group
      same_tests = agree (all_below by-tally most_group) (all_below by_state most_group)
          (λ a. all_of by_state most_group (λ i l. sym (same_test i l) ∙ all-at by-tally most_group a i l))
          (λ a. all_of by-tally most_group (λ i l. same_test i l ∙ all-at by_state most_group a i l))

      pub no-figures : all_below by-tally most_group ≡ false → false ≡ figures_fit f (decode w)
      unfolding figures_fit
      no-figures q = sym (ap (λ b. b && every is_zero (mid at_rest (figure_words - at_rest) f)) (sym same_tests ∙ q))

      pub rest-decides : all_below by-tally most_group ≡ true → every is_zero (mid at_rest (figure_words - at_rest) f) ≡ figures_fit f (decode w)
      unfolding figures_fit
      rest-decides q = sym (ap (λ b. b && every is_zero (mid at_rest (figure_words - at_rest) f)) (sym same_tests ∙ q))

-- A tally that has begun.
pub empty-tally : Tallied (replicate (most_group + most_group) 0) []
empty-tally = record {
  long = length-replicate {A = ℕ} (most_group + most_group) 0;
  blocks = λ i l. get_or-replicate {A = ℕ} (most_group + most_group) i 0 0 (omega arith);
  held = λ i l. get_or-replicate {A = ℕ} (most_group + most_group) (most_group + i) 0 0 (omega arith);
}

-- ---- all words

module _ (w : List ℕ) where
  -- The words behind the figures, as the code lends them.
  pub behind-is : mid figure_words (length w - figure_words) w ≡ state_part w
  behind-is = take_all (length w - figure_words) (drop figure_words w) (omega (arith, length-drop figure_words w))

  pub pages-behind : total (decode (mid figure_words (length w - figure_words) w)).segments ≡ total (account_in w).state.segments
  unfolding account_in
  pages-behind = ap (λ v. total (decode v).segments) behind-is

  pub too_short : length w < figure_words → false ≡ is_account w
  too_short h = sym (refuted (is_account w) (λ t. omega (arith, has-figures w t)))

  pub no-state : is_state (mid figure_words (length w - figure_words) w) ≡ false → false ≡ is_account w
  no-state f = sym (refuted (is_account w) (λ t. true-false (passed w t).0 (ap is_state (sym behind-is) ∙ f)))

  pub figures-decide : is_state (mid figure_words (length w - figure_words) w) ≡ true →
      figures_fit (take figure_words w) (decode (mid figure_words (length w - figure_words) w)) ≡ is_account w
  unfolding is_account
  figures-decide t =
      ap (λ v. figures_fit (take figure_words w) (decode v)) behind-is
      ∙ sym (ap (λ b. b && figures_fit (take figure_words w) (decode (state_part w))) (ap is_state (sym behind-is) ∙ t))

-- ---- a fresh account

abbrev first : List ℕ
first = figures_encoding no_holding largest

fresh-figures : (n : ℕ) → first ≡ figures_of (fresh_account n)
fresh-figures n = is-figures (holding_of (fresh_account n)) (ceiling_at (fresh_account n)) first (length-figures no_holding largest)
    (λ i l. record-encoded no_holding largest i l ∙ (λ j. record { blocks = 0; held = 0; greatest = sym (get_or-replicate {A = ℕ} most_group i 0 0 l) j }))
    (λ i l. ceiling-encoded no_holding largest i l ∙ sym (get_or-replicate {A = ℕ} most_group i most_bytes 0 l))
    (rest-encoded no_holding largest)

pub fresh-set-up : (n : ℕ) (w f v : List ℕ) → f ≡ figures_encoding no_holding largest → v ≡ encode (fresh_state n) →
    put_mid figure_words (length (f ++ drop figure_words w) - figure_words) (f ++ drop figure_words w) v ≡ account_encoding (fresh_account n)
unfolding account_encoding
fresh-set-up n w f v p q = put-behind figure_words w f v (ap length p ∙ length-figures no_holding largest) ∙ (λ i. (p ∙ fresh-figures n) i ++ q i)

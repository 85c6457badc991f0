-- The test of any words is exact: it holds just if they begin with the encoding of a valid account, and that account is the one decoded.
-- Assumes nothing.
use Prim.Native.Nat.{ℕ, suc, ◌+◌, ◌-◌, ◌*◌, ◌≤◌, ◌<◌}
use mathlib.Core.Path.{◌≡◌, refl, sym, ap, ◌∙◌, subst}
use mathlib.Core.Logic.{◌↔◌}
use mathlib.Core.List.{List, ◌++◌}
use mathlib.Core.Option.{none, some}
use mathlib.Core.Bool.{Bool, true, false, ◌&&◌}
use native.Mathlib.Omega.{arith}
use lib.Dec.{leb, eqb}
use lib.ListN.{length, get_or, take, drop, length-append, length-drop}
use lib.Seq.{ext_get_or, get_or-take, take-add, take_at, drop_at, take_all, length-take-le}
use borrow.Author.Tests.{leb-true, leb-false, le-leb, eqb-true, eq-eqb}
use Rattle.lemmas.specs.Below.{all_below}
use Rattle.lemmas.specs.Parts.{mid}
use Rattle.lemmas.specs.Zeros.{zeros, is_zero}
use Rattle.lemmas.proofs.Below.{all-at, all_of}
use Rattle.lemmas.proofs.Cases.{bool, refuted, true-false, and_left, and_right, and_both}
use Rattle.lemmas.proofs.Every.{every-at, every_of}
use Rattle.lemmas.proofs.Parts.{length-mid, get_or-mid}
use Rattle.lemmas.proofs.Zeros.{drop-zeros}
use Rattle.model.specs.Numbers.{page_bytes, most_bytes, most_group, figure_words}
use Rattle.model.specs.declared.Holding.{Holding}
use Rattle.model.specs.Arena.{total}
use Rattle.model.specs.State.{State}
use Rattle.model.specs.PageMap.{page_map}
use Rattle.model.specs.Valid.{Valid, ValidAccount}
use Rattle.model.specs.Holdings.{blocks_of, held_of, Account, holding_of, ceiling_at}
use Rattle.model.specs.Perform.{all_words}
use Rattle.figures.specs.Encoding.{at_greatest, at_ceiling, at_rest, record_in, ceiling_in}
use Rattle.figures.proofs.Encoded.{length-figures, record-encoded, ceiling-encoded, rest-encoded, is-figures}
use Rattle.metadata.specs.Encoding as state
use Rattle.metadata.specs.Encoding.{encode}
use Rattle.metadata.specs.Decoding.{decode, is_state}
use Rattle.metadata.proofs.States.{state-valid, state-begins, begins-state, begins-decoded, encode-long, zeros-none as state-zeros}
use Rattle.account.specs.Encoding.{figures_of, account_encoding, BeginsWith}
use Rattle.account.specs.Decoding.{figures_part, state_part, account_in, record_fits, state_fits, figures_fit, is_account, account_of}

-- ---- one group's record and ceiling

-- What fits, as facts.
pub record Fitting (h : Holding) (c b r top : ℕ) : Type 0 where
  pub blocks : h.blocks ≡ b
  pub held : h.held ≡ r
  pub least : h.held ≤ h.greatest
  pub most : h.greatest ≤ top
  pub ceiling : c ≤ most_bytes

pub fitting : (h : Holding) (c b r most : ℕ) → (record_fits h b r most && leb c most_bytes) ≡ true → Fitting h c b r most
fitting h c b r most all =
    let t = and_left (record_fits h b r most) _ all in
    let B = eqb h.blocks b in
    let R = eqb h.held r in
    let L = leb h.held h.greatest in
    let u = and_left (B && R && L) _ t in
    let v = and_left (B && R) L u in
    record {
      blocks = eqb-true h.blocks b (and_left B R v);
      held = eqb-true h.held r (and_right B R v);
      least = leb-true h.held h.greatest (and_right (B && R) L u);
      most = leb-true h.greatest most (and_right (B && R && L) _ t);
      ceiling = leb-true c most_bytes (and_right (record_fits h b r most) _ all);
    }

pub fits : (h : Holding) (c b r most : ℕ) → Fitting h c b r most → (record_fits h b r most && leb c most_bytes) ≡ true
fits h c b r most f =
    let B = eqb h.blocks b in
    let R = eqb h.held r in
    let L = leb h.held h.greatest in
    and_both (record_fits h b r most) _
    (and_both (B && R && L) _ (and_both (B && R) L (and_both B R (eq-eqb h.blocks b f.blocks) (eq-eqb h.held r f.held)) (le-leb h.held h.greatest f.least))
    (le-leb h.greatest most f.most))
    (le-leb c most_bytes f.ceiling)

-- ---- the figures

module _ (f : List ℕ) (long : length f ≡ figure_words) (s : State) where
  abbrev test : ℕ → Bool
  test = state_fits f s

  abbrev Each-fits : Type 0
  Each-fits = (i : ℕ) → i < most_group → Fitting (record_in f i) (ceiling_in f i) (blocks_of (suc i) (page_map s)) (held_of (suc i) (page_map s)) (total s.segments * page_bytes)

  abbrev Rest-zero : Type 0
  Rest-zero = (i : ℕ) → at_rest ≤ i → i < figure_words → get_or f i 0 ≡ 0

  pub figures-told : figures_fit f s ≡ true → Each-fits × Rest-zero
  unfolding figures_fit
  figures-told t = (
    λ i l. fitting (record_in f i) (ceiling_in f i) _ _ _ (all-at test most_group (and_left (all_below test most_group) _ t) i l),
    λ i a l. let k = i - at_rest in
        let b : k < figure_words - at_rest = omega arith in
        ap (λ j. get_or f j 0) (let e : i ≡ at_rest + k = omega arith in e)
        ∙ sym (get_or-mid at_rest (figure_words - at_rest) f k 0 b)
        ∙ eqb-true _ 0 (every-at is_zero (mid at_rest (figure_words - at_rest) f) k 0 (and_right (all_below test most_group) _ t) (omega (arith, length-mid at_rest (figure_words - at_rest) f (omega arith)))),
  )

  pub figures-fit : Each-fits → Rest-zero → figures_fit f s ≡ true
  unfolding figures_fit
  figures-fit a b = and_both (all_below test most_group) _
      (all_of test most_group (λ i l. fits (record_in f i) (ceiling_in f i) _ _ _ (a i l)))
      (every_of is_zero (mid at_rest (figure_words - at_rest) f) 0 (λ k l.
      let c : k < figure_words - at_rest = omega (arith, length-mid at_rest (figure_words - at_rest) f (omega arith)) in
      eq-eqb _ 0 (get_or-mid at_rest (figure_words - at_rest) f k 0 c ∙ b (at_rest + k) (omega arith) (omega arith))))

-- ---- words that pass

-- The test in its two parts, and words that pass it.
pub passed : (w : List ℕ) → is_account w ≡ true → (is_state (state_part w) ≡ true) × (figures_fit (figures_part w) (decode (state_part w)) ≡ true)
unfolding is_account
passed w t = (and_left (is_state (state_part w)) _ t, and_right (is_state (state_part w)) _ t)

pub passes : (w : List ℕ) → is_state (state_part w) ≡ true → figures_fit (figures_part w) (decode (state_part w)) ≡ true → is_account w ≡ true
unfolding is_account
passes w t u = and_both (is_state (state_part w)) _ t u

-- Words that begin with e are long enough for it.
pub front_fits {ℓ} : {A : Type ℓ} (e w : List A) → take (length e) w ≡ e → length e ≤ length w
front_fits e w b = bool (leb (length e) (length w))
    (λ t. leb-true (length e) (length w) t)
    (λ t. absurd (omega (arith, leb-false (length e) (length w) t, ap length (sym (take_all (length e) w (omega (arith, leb-false (length e) (length w) t))) ∙ b))))

module _ (w : List ℕ) (t : is_account w ≡ true) where
  abbrev s : State
  s = decode (state_part w)

  state-ok : is_state (state_part w) ≡ true
  state-ok = (passed w t).0

  pub state-part : Valid (decode (state_part w))
  state-part = state-valid (state_part w) state-ok

  -- There are words behind the figures, so there are the figures.
  pub has-figures : figure_words < length w
  has-figures = omega (arith, length-drop figure_words w, front_fits (encode s) (state_part w) (state-begins (state_part w) state-ok), encode-long s state-part)

  front_long : length (figures_part w) ≡ figure_words
  front_long = length-take-le figure_words w (omega (arith, has-figures))

  told : Each-fits (figures_part w) front_long s × Rest-zero (figures_part w) front_long s
  told = figures-told (figures_part w) front_long s (passed w t).1

  -- A greatest figure in its word.
  greatest-at : (i : ℕ) → i < most_group → get_or (mid at_greatest most_group w) i 0 ≡ (record_in (figures_part w) i).greatest
  greatest-at i l = get_or-mid at_greatest most_group w i 0 l ∙ sym (get_or-take figure_words w (at_greatest + i) 0 (omega arith))

  -- A ceiling in its word.
  ceiling-at : (i : ℕ) → i < most_group → get_or (mid at_ceiling most_group w) i 0 ≡ ceiling_in (figures_part w) i
  ceiling-at i l = get_or-mid at_ceiling most_group w i 0 l ∙ sym (get_or-take figure_words w (at_ceiling + i) 0 (omega arith))

  pub account-valid : ValidAccount (account_in w)
  unfolding account_in
  account-valid = record {
    state = state-part;
    groups = length-mid at_greatest most_group w (omega (arith, has-figures));
    least = λ i l. let f = told.0 i l in omega (arith, greatest-at i l, f.held, f.least);
    most = λ i l. let f = told.0 i l in omega (arith, greatest-at i l, f.most);
    limits = length-mid at_ceiling most_group w (omega (arith, has-figures));
    ceiling = λ i l. omega (arith, ceiling-at i l, (told.0 i l).ceiling);
  }

  pub figures-are : figures_part w ≡ figures_of (account_in w)
  unfolding account_in
  figures-are = is-figures (holding_of (account_in w)) (ceiling_at (account_in w)) (figures_part w) front_long
      (λ i l. let f = told.0 i l in λ j. record { blocks = f.blocks j; held = f.held j; greatest = sym (greatest-at i l) j })
      (λ i l. sym (ceiling-at i l))
      told.1

  pub account-begins : BeginsWith w (account_in w)
  unfolding account_encoding account_in
  account-begins =
      ap (λ k. take k w) (length-append (figures_of (account_in w)) (encode s) ∙ ap (λ k. k + length (encode s)) (length-figures (holding_of (account_in w)) (ceiling_at (account_in w))))
      ∙ take-add figure_words (length (encode s)) w
      ∙ (λ i. figures-are i ++ state-begins (state_part w) state-ok i)

-- ---- the encoding of a valid account passes, and decodes to it

module _ (a : Account) (v : ValidAccount a) where
  abbrev F : List ℕ
  F = figures_of a

  abbrev S : List ℕ
  S = encode a.state

  F-long : length F ≡ figure_words
  F-long = length-figures (holding_of a) (ceiling_at a)

  pub account-long : length (account_encoding a) ≡ all_words (total a.state.segments)
  unfolding account_encoding
  account-long = length-append F S ∙ (λ i. F-long i + encode-long a.state v.state i)

  module _ (w : List ℕ) (b : BeginsWith w a) where
    both : take figure_words w ++ take (length S) (drop figure_words w) ≡ F ++ S
    unfolding account_encoding
    both = sym (take-add figure_words (length S) w) ∙ ap (λ k. take k w) (sym (length-append F S ∙ ap (λ k. k + length S) F-long)) ∙ b

    in_words : length (account_encoding a) ≤ length w
    in_words = front_fits (account_encoding a) w b

    front : length (take figure_words w) ≡ figure_words
    front = length-take-le figure_words w (omega (arith, in_words, account-long))

    figures-is : figures_part w ≡ F
    figures-is = sym (take_at (take figure_words w) (take (length S) (drop figure_words w)) figure_words front) ∙ ap (take figure_words) both ∙ take_at F S figure_words F-long

    state-is : state.BeginsWith (state_part w) a.state
    state-is = sym (drop_at (take figure_words w) (take (length S) (drop figure_words w)) figure_words front) ∙ ap (drop figure_words) both ∙ drop_at F S figure_words F-long

    decoded : decode (state_part w) ≡ a.state
    decoded = begins-decoded a.state v.state (state_part w) state-is

    greatest-is : mid at_greatest most_group w ≡ a.greatest
    greatest-is = ext_get_or 0 (mid at_greatest most_group w) a.greatest (at_all ∙ sym v.groups) (λ i l.
        let k : i < most_group = omega (arith, at_all) in
        get_or-mid at_greatest most_group w i 0 k
        ∙ sym (get_or-take figure_words w (at_greatest + i) 0 (omega arith))
        ∙ ap (λ f. get_or f (at_greatest + i) 0) figures-is
        ∙ ap (λ r. r.greatest) (record-encoded (holding_of a) (ceiling_at a) i k))
      where
        at_all : length (mid at_greatest most_group w) ≡ most_group
        at_all = length-mid at_greatest most_group w (omega (arith, in_words, account-long))

    ceilings-is : mid at_ceiling most_group w ≡ a.ceilings
    ceilings-is = ext_get_or 0 (mid at_ceiling most_group w) a.ceilings (at_all ∙ sym v.limits) (λ i l.
        let k : i < most_group = omega (arith, at_all) in
        get_or-mid at_ceiling most_group w i 0 k
        ∙ sym (get_or-take figure_words w (at_ceiling + i) 0 (omega arith))
        ∙ ap (λ f. get_or f (at_ceiling + i) 0) figures-is
        ∙ ceiling-encoded (holding_of a) (ceiling_at a) i k)
      where
        at_all : length (mid at_ceiling most_group w) ≡ most_group
        at_all = length-mid at_ceiling most_group w (omega (arith, in_words, account-long))

    pub begins-account : account_in w ≡ a
    unfolding account_in
    begins-account = λ i. record { state = decoded i; greatest = greatest-is i; ceilings = ceilings-is i }

    pub begins-passes : is_account w ≡ true
    begins-passes = passes w (begins-state a.state v.state (state_part w) state-is)
        (ap (λ f. figures_fit f (decode (state_part w))) figures-is ∙ ap (figures_fit F) decoded ∙ figures-fit F F-long a.state
        (λ i l.
        let fit : Fitting (holding_of a i) (ceiling_at a i) (blocks_of (suc i) (page_map a.state)) (held_of (suc i) (page_map a.state)) (total a.state.segments * page_bytes)
        = record { blocks = refl; held = refl; least = v.least i l; most = v.most i l; ceiling = v.ceiling i l } in
        subst (λ (h : Holding × ℕ). Fitting h.0 h.1 (blocks_of (suc i) (page_map a.state)) (held_of (suc i) (page_map a.state)) (total a.state.segments * page_bytes))
        (λ j. (sym (record-encoded (holding_of a) (ceiling_at a) i l) j, sym (ceiling-encoded (holding_of a) (ceiling_at a) i l) j)) fit)
        (rest-encoded (holding_of a) (ceiling_at a)))

-- THE theorem of the test.
pub account-iff : (w : List ℕ) → (is_account w ≡ true) ↔ ((a : Account) × ValidAccount a × BeginsWith w a)
account-iff w = (λ t. (account_in w, account-valid w t, account-begins w t), λ f. begins-passes f.0 f.1 w f.2)

-- Each valid account has exactly one encoding: equal encodings are of equal accounts.
pub account-once : (a b : Account) → ValidAccount a → ValidAccount b → account_encoding a ≡ account_encoding b → a ≡ b
account-once a b v u e =
    sym (begins-account a v (account_encoding a) (take_all (length (account_encoding a)) (account_encoding a) (omega arith)))
    ∙ begins-account b u (account_encoding a) (rw e (take_all (length (account_encoding b)) (account_encoding b) (omega arith)))

-- The account of words, by the test.
pub account_of-some : (w : List ℕ) (a : Account) → ValidAccount a → BeginsWith w a → account_of w ≡ some a
unfolding account_of
account_of-some w a v b = rw (begins-passes a v w b) (ap some (begins-account a v w b))

pub account-encoded : (a : Account) → ValidAccount a → account_of (account_encoding a) ≡ some a
account-encoded a v = account_of-some (account_encoding a) a v (take_all (length (account_encoding a)) (account_encoding a) (omega arith))

pub account_of-none : (w : List ℕ) → is_account w ≡ false → account_of w ≡ none
unfolding account_of
account_of-none w t = rw t

-- Zeros of any length encode none.
pub zeros-none : (n : ℕ) → is_account (zeros n) ≡ false
zeros-none n = refuted _ (λ t. true-false (passed (zeros n) t).0 (ap is_state (drop-zeros figure_words n) ∙ state-zeros (n - figure_words)))

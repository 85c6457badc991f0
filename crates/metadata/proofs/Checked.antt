-- The test of any words, case by case as the code finds them. Assumes nothing.
use Prim.Native.Nat.{ℕ, ◌+◌, ◌-◌, ◌*◌, ◌≤◌, ◌<◌}
use mathlib.Core.Path.{◌≡◌, refl, sym, ap, ◌∙◌}
use mathlib.Core.List.{List}
use mathlib.Core.Bool.{true, false}
use native.Mathlib.Omega.{arith}
use lib.ListN.{length}
use Rattle.lemmas.specs.Parts.{mid}
use Rattle.lemmas.proofs.Cases.{bool, refuted, true-false}
use Rattle.lemmas.proofs.Parts.{length-mid}
use Rattle.model.specs.Numbers.{most_pages, header_words, page_words}
use Rattle.model.specs.Perform.{words_for}
use Rattle.header.specs.Keys.{keys_of}
use Rattle.header.specs.Encoding.{pages_in, spare_in, lists_in, is_header}
use Rattle.pages.specs.Decoding.{segments_of, Holds}
use Rattle.pages.specs.Legal.{legal_segments}
use Rattle.pages.proofs.AllLegal.{legal-iff}
use Rattle.metadata.specs.Lists.{fit_from, lists_legal}
use Rattle.metadata.specs.Decoding.{header_part, pages_part, decode, is_state}
use Rattle.metadata.proofs.States.{passed, passes}

decoded-is : (w : List ℕ) →
    fit_from (spare_in (header_part w)) (lists_in (header_part w)) (length (keys_of (lists_in (header_part w))) + length (spare_in (header_part w))) 0 0 (segments_of (pages_part w)) ≡ lists_legal (decode w)
unfolding lists_legal decode
decoded-is w = refl

module _ (w : List ℕ) where
  pub too_short : length w < header_words → false ≡ is_state w
  too_short h = sym (refuted (is_state w) (λ t. omega (arith, (passed w t).long)))

  pub no_header : is_header (header_part w) ≡ false → false ≡ is_state w
  no_header f = sym (refuted (is_state w) (λ t. true-false (passed w t).header f))

  -- The arena's pages, the words that it has, and the words of its pages as the code lends them.
  module _ (n : ℕ) (is : n ≡ pages_in (header_part w)) (e : ℕ) (at : e ≡ words_for n) where
    abbrev lent : List ℕ
    lent = mid header_words (e - header_words) w

    pub pages-missing : length w < e → false ≡ is_state w
    pages-missing h = sym (refuted (is_state w) (λ t. omega (arith, is, at, (passed w t).long)))

    part-is : mid header_words (e - header_words) w ≡ pages_part w
    part-is = ap (λ k. mid header_words k w) (let u : e - header_words ≡ page_words * pages_in (header_part w) = omega (arith, is, at) in u)

    pub part-long : e ≤ length w → length (mid header_words (e - header_words) w) ≡ page_words * n
    part-long h = length-mid header_words (e - header_words) w (omega (arith, at)) ∙ omega (arith, at)

    legal-is : legal_segments n lent ≡ legal_segments (pages_in (header_part w)) (pages_part w)
    legal-is = λ i. legal_segments (is i) (part-is i)

    pub no-segments : legal_segments n (mid header_words (e - header_words) w) ≡ false → false ≡ is_state w
    no-segments f = sym (refuted (is_state w) (λ t. true-false (passed w t).segments (sym legal-is ∙ f)))

    pub segments-hold : e ≤ length w → n ≤ most_pages → legal_segments n (mid header_words (e - header_words) w) ≡ true → Holds (mid header_words (e - header_words) w) n
    segments-hold h m t = ((legal-iff n lent (part-long h) m).0 t).0

    -- The lists decide.
    pub lists-decide : is_header (header_part w) ≡ true → e ≤ length w → legal_segments n (mid header_words (e - header_words) w) ≡ true →
        fit_from (spare_in (header_part w)) (lists_in (header_part w)) (length (keys_of (lists_in (header_part w))) + length (spare_in (header_part w))) 0 0 (segments_of (mid header_words (e - header_words) w)) ≡ is_state w
    lists-decide a b c =
        ap (λ l. fit_from (spare_in (header_part w)) (lists_in (header_part w)) (length (keys_of (lists_in (header_part w))) + length (spare_in (header_part w))) 0 0 (segments_of l)) part-is
        ∙ decoded-is w
        ∙ same
      where
        same : lists_legal (decode w) ≡ is_state w
        same = bool (lists_legal (decode w))
            (λ t. t ∙ sym (passes w (record { header = a; long = omega (arith, is, at); segments = sym legal-is ∙ c; lists = t })))
            (λ f. f ∙ sym (refuted (is_state w) (λ t. true-false (passed w t).lists f)))

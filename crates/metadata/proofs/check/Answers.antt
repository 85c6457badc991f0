-- `check` meets its contract. Assumes nothing.
use Rattle.model.specs.Numbers.{most_pages}
use Rattle.header.specs.Encoding.{Header}
use Rattle.metadata.specs.Decoding.{header_part}
use Rattle.metadata.proofs.Checked.{too_short, no_header, pages-missing, part-long, no-segments, segments-hold, lists-decide}
use Rattle.header.proofs.Exact.{check-header}
use native.Mathlib.Omega.{arith}
use mathlib.Core.Path.{sym, ◌∙◌}
use Prim.Native.Nat.{◌≤◌}
use Rattle.metadata.proofs.check.Goals as goal
use Rattle.metadata.proofs.check.Goals.{Else-not-check}

-- The header has passed.
header : (c : Else-not-check) → Header (header_part c.args.words.now)
header c = check-header _ (sym c.check.ensures ∙ c.if-not-check.false)

pub returns-then-words-lt-HEADER_WORDS : goal.returns-then-words-lt-HEADER_WORDS
returns-then-words-lt-HEADER_WORDS c = too_short _ c.if-words-lt-HEADER_WORDS.true

pub returns-then-not-check : goal.returns-then-not-check
returns-then-not-check c = no_header _ (sym c.check.ensures ∙ c.if-not-check.true)

pub invariant_of-lists : goal.invariant_of-lists
invariant_of-lists c = record { legal = header (goal.at.invariant_of-lists c).Else-not-check }

pub words_for-e-requires : goal.words_for-e-requires
words_for-e-requires c = omega (arith, c.pages-count.ensures, (header (goal.at.words_for-e-requires c).Else-not-check).fits.most)

pub returns-then-words-e : goal.returns-then-words-e
returns-then-words-e c = pages-missing _ _ c.pages-count.ensures _ c.words_for-e.ensures c.if-words-e.true

pub check-requires-2 : goal.check-requires-2
check-requires-2 c =
    (part-long c.args.words.now _ c.pages-count.ensures _ c.words_for-e.ensures c.if-words-e.false, omega (arith, c.pages-count.ensures, (header (goal.at.check-requires-2 c).Else-not-check).fits.most))

pub returns-then-not-check-2 : goal.returns-then-not-check-2
returns-then-not-check-2 c =
    no-segments _ _ c.pages-count.ensures _ c.words_for-e.ensures (sym c.check-2.ensures ∙ c.if-not-check-2.true)

pub invariant_of-pages : goal.invariant_of-pages
invariant_of-pages c =
    let h = header (goal.at.invariant_of-pages c).Else-not-check in
    let few : c.pages-count.result ≤ most_pages = omega (arith, c.pages-count.ensures, h.fits.most) in
    record { held = segments-hold c.args.words.now _ c.pages-count.ensures _ c.words_for-e.ensures c.if-words-e.false few (sym c.check-2.ensures ∙ c.if-not-check-2.false) }

pub returns : goal.returns
returns c =
    c.lists_fit.ensures
    ∙ lists-decide _ _ c.pages-count.ensures _ c.words_for-e.ensures (sym c.check.ensures ∙ c.if-not-check.false) c.if-words-e.false
    (sym c.check-2.ensures ∙ c.if-not-check-2.false)

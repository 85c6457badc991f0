-- `header::check` meets its contract. Each `return false` is a fact of a header that fails. Assumes nothing.
use mathlib.Core.Path.{sym, ◌∙◌}
use native.Mathlib.Omega.{arith}
use Rattle.lemmas.proofs.Cases.{true-false}
use Rattle.header.proofs.Facts.{no_header, header-last}
use Rattle.header.proofs.check.Goals as goal
use Rattle.header.proofs.check.Goals.{then-words-ne-HEADER_WORDS-via-then-words-ne-HEADER_WORDS, then-words-ne-HEADER_WORDS-via-else-words-ne-HEADER_WORDS+then-words-ne-MAGIC}
use Rattle.header.proofs.check.Goals.{then-pages-eq0-via-then-pages-eq0, then-pages-eq0-via-else-pages-eq0+then-pages-gt-MOST_PAGES}
use Rattle.header.proofs.check.Goals.{then-are_legal, else-are_legal}

pub returns-then-words-ne-HEADER_WORDS : goal.returns-then-words-ne-HEADER_WORDS
returns-then-words-ne-HEADER_WORDS c =
    no_header _
    (λ h. elim c.then-words-ne-HEADER_WORDS.branch [
      | then-words-ne-HEADER_WORDS-via-then-words-ne-HEADER_WORDS w ↦ w.if-words-ne-HEADER_WORDS.true h.size
      | then-words-ne-HEADER_WORDS-via-else-words-ne-HEADER_WORDS+then-words-ne-MAGIC w ↦ w.if-words-ne-MAGIC.true h.named
    ])

pub returns-then-pages-eq0 : goal.returns-then-pages-eq0
returns-then-pages-eq0 c = no_header _ (λ h. let a = h.least in let b = h.most in let d = c.then-pages-eq0.either in omega arith)

pub returns-then-are_legal-2 : goal.returns-then-are_legal-2
returns-then-are_legal-2 c =
    elim c.if-are_legal.branch [
      | then-are_legal w ↦
          let spare = sym c.are_legal.ensures ∙ w.if-are_legal.true in
          let lists = sym w.are_legal-then-are_legal.ensures ∙ sym w.value-is ∙ c.if-are_legal-2.true in
          c.is_zero.ensures ∙ header-last _ c.if-words-ne-HEADER_WORDS.false c.if-words-ne-MAGIC.false (omega arith) c.if-pages-gt-MOST_PAGES.false spare lists
      | else-are_legal w ↦ absurd (true-false c.if-are_legal-2.true (w.value-is ∙ w.if-are_legal.false))
    ]

pub returns-else-are_legal-2 : goal.returns-else-are_legal-2
returns-else-are_legal-2 c =
    c.if-are_legal-2.false
    ∙ no_header c.args.words.now
    (λ h. elim c.if-are_legal.branch [
      | then-are_legal w ↦ true-false h.lists (sym w.are_legal-then-are_legal.ensures ∙ sym w.value-is ∙ c.if-are_legal-2.false)
      | else-are_legal w ↦ true-false h.spare (sym c.are_legal.ensures ∙ w.if-are_legal.false)
    ])

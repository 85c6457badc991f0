-- `init` meets its contract. Assumes nothing.
use Rattle.calls.proofs.Fresh.{set-up-done, bad-pages, few_words}
use Rattle.calls.proofs.init.Goals as goal

pub returns-then-pages-eq0 : goal.returns-then-pages-eq0
returns-then-pages-eq0 c = let k = bad-pages _ _ c.then-pages-eq0.either in record { value = k.0; meta_after = k.1 }

pub returns-then-meta-e : goal.returns-then-meta-e
returns-then-meta-e c = let k = few_words _ _ c.if-pages-eq0.false c.if-pages-gt-MOST_PAGES.false _ c.words_for-e.ensures c.if-meta-e.true in record { value = k.0; meta_after = k.1 }

pub returns : goal.returns
returns c = let k = set-up-done _ _ c.if-pages-eq0.false c.if-pages-gt-MOST_PAGES.false _ c.words_for-e.ensures c.if-meta-e.false _ c.set_up.ensures in record { value = k.0; meta_after = k.1 }

-- `holdings` meets its contract: the check tells whether the words are an account's, and `fill` whether the list has room. Assumes nothing.
use mathlib.Core.Path.{sym, ◌∙◌}
use Rattle.calls.proofs.Fetching.{good-long, good-answer, good-list, bad-answer, bad-list}
use Rattle.calls.proofs.Words.{holdings-same}
use Rattle.calls.proofs.holdings.Goals as goal

pub fill-requires : goal.fill-requires
fill-requires c = good-long c.args.meta.now c.args.list.now (sym c.check.ensures ∙ c.if-check.true)

pub returns-then-check : goal.returns-then-check
returns-then-check c = let t = sym c.check.ensures ∙ c.if-check.true in record {
  value = c.from.ensures ∙ good-answer c.args.meta.now c.args.list.now t _ c.fill.ensures.answer;
  meta_after = sym (holdings-same _ _);
  list_after = c.fill.ensures.list_after ∙ good-list c.args.meta.now c.args.list.now t;
}

pub returns-else-check : goal.returns-else-check
returns-else-check c = let t = sym c.check.ensures ∙ c.if-check.false in record {
  value = bad-answer c.args.meta.now c.args.list.now t;
  meta_after = sym (holdings-same _ _);
  list_after = bad-list c.args.meta.now c.args.list.now t;
}

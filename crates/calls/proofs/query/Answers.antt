-- `query` meets its contract. Assumes nothing.
use mathlib.Core.Path.{refl, sym}
use Rattle.model.specs.Calls.{query}
use Rattle.model.specs.Trim.{query_at}
use Rattle.calls.proofs.Words.{query-same}
use Rattle.calls.proofs.Acting.{refused-answer, refused-words, arena-of, arena-few, arena-inside, arena-good, arena-answer}
use Rattle.calls.proofs.query.Goals as goal

pub returns-in_default : goal.returns-in_default
returns-in_default c = let none = c.in_default.ensures in record {
  value = refused-answer _ none _;
  meta_after = refused-words _ none _;
}

pub words_for-e-requires : goal.words_for-e-requires
words_for-e-requires c = arena-few (arena-of _ _ c.in-Some.ensures)

pub slice_bounds-describe-end : goal.slice_bounds-describe-end
slice_bounds-describe-end c = arena-inside (arena-of _ _ c.in-Some.ensures) _ c.words_for-e.ensures

pub describe-requires : goal.describe-requires
describe-requires c = arena-good (arena-of _ _ c.in-Some.ensures) _ c.words_for-e.ensures

pub returns-in-Ok : goal.returns-in-Ok
returns-in-Ok c = record {
  value = arena-answer (arena-of _ _ c.in-Some.ensures) _ c.words_for-e.ensures (query c.args.offset) (query_at c.args.offset) refl _ c.in-Ok.ensures;
  meta_after = sym (query-same _ _);
}

pub returns-in-Err : goal.returns-in-Err
returns-in-Err c = record {
  value = arena-answer (arena-of _ _ c.in-Some.ensures) _ c.words_for-e.ensures (query c.args.offset) (query_at c.args.offset) refl _ c.in-Err.ensures;
  meta_after = sym (query-same _ _);
}

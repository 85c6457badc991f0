-- `trim` meets its contract. Assumes nothing.
use mathlib.Core.Path.{refl, ap}
use Rattle.model.specs.declared.Answer.TheVariants.{Counted}
use Rattle.model.specs.Calls.{trim}
use Rattle.model.specs.Trim.{trim_all}
use Rattle.calls.proofs.Acting.{refused-answer, refused-words, arena-of, arena-valid, arena-few, arena-inside, arena-good, arena-answer, arena-still}
use Rattle.calls.proofs.Resetting.{trim-figures}
use Rattle.calls.proofs.trim.Goals as goal

pub returns-in_default : goal.returns-in_default
returns-in_default c = let none = c.in_default.ensures in record {
  value = refused-answer _ none trim;
  meta_after = refused-words _ none trim;
}

pub words_for-e-requires : goal.words_for-e-requires
words_for-e-requires c = arena-few (arena-of _ _ c.in-Some.ensures)

pub slice_bounds-trim_all-end : goal.slice_bounds-trim_all-end
slice_bounds-trim_all-end c = arena-inside (arena-of _ _ c.in-Some.ensures) _ c.words_for-e.ensures

pub trim_all-count-requires : goal.trim_all-count-requires
trim_all-count-requires c = arena-good (arena-of _ _ c.in-Some.ensures) _ c.words_for-e.ensures

pub returns : goal.returns
returns c =
    let h = arena-of _ _ c.in-Some.ensures in
    let e = c.words_for-e.ensures in
    let r = c.trim_all-count.ensures in
    let words = arena-still h _ e trim trim_all refl _ r.1 (trim-figures _ (arena-valid h)) in record {
      value = arena-answer h _ e trim trim_all refl _ (ap Counted r.0);
      meta_after = words;
    }

-- `listing` meets its contract. Assumes nothing.
use mathlib.Core.List.{List}
use mathlib.Core.Path.{sym, ◌∙◌}
use Prim.Native.Nat.{ℕ}
use Rattle.calls.proofs.Words.{listing-same}
use Rattle.calls.proofs.Acting.{refused-answer, refused-words, refused-text, arena-of, arena-few, arena-inside, arena-holds, arena-listing, arena-text}
use Rattle.calls.proofs.listing.Goals as goal

pub returns-in_default : goal.returns-in_default
returns-in_default c = let none = c.in_default.ensures in record {
  value = refused-answer _ none _;
  meta_after = refused-words _ none _;
  text_after = refused-text _ none _;
}

pub words_for-e-requires : goal.words_for-e-requires
words_for-e-requires c = arena-few (arena-of _ _ c.in-Some.ensures)

pub slice_bounds-pages-end : goal.slice_bounds-pages-end
slice_bounds-pages-end c = arena-inside (arena-of _ _ c.in-Some.ensures) _ c.words_for-e.ensures

pub invariant_of-pages : goal.invariant_of-pages
invariant_of-pages c = record { held = arena-holds (arena-of _ _ c.in-Some.ensures) _ c.words_for-e.ensures }

pub returns : goal.returns
returns c =
    let a = arena-of _ _ c.in-Some.ensures in
    let text : List ℕ = c.args.text.now in
    let e = c.words_for-e.ensures in
    let r = c.list_into.ensures in record {
      value = arena-listing a _ e text _ (c.from.ensures ∙ r.value);
      meta_after = sym (listing-same _ _);
      text_after = arena-text a _ e text _ r.out_after;
    }

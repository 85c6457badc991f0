-- `set_ceiling` meets its contract. Assumes nothing.
use Prim.Native.Nat.{◌-◌}
use native.Mathlib.Omega.{arith}
use mathlib.Core.Path.{sym, ap}
use lib.Seq.{length-take-le}
use Rattle.model.specs.Numbers.{figure_words}
use Rattle.model.specs.Calls.{ceiling}
use Rattle.account.proofs.Accounts.{has-figures}
use Rattle.calls.proofs.Acting.{none-told, some-told, refused-answer, refused-words}
use Rattle.calls.proofs.Capping.{set-bad-group, set-too-large, set-done}
use Rattle.calls.proofs.set_ceiling.Goals as goal

pub returns-then-is_none : goal.returns-then-is_none
returns-then-is_none c =
    let a = ceiling c.args.group c.args.ceiling in
    let none = none-told _ _ c.arena_pages.ensures c.if-is_none.ensures in record {
      value = refused-answer _ none a;
      meta_after = refused-words _ none a;
    }

pub returns-in_default : goal.returns-in_default
returns-in_default c =
    let k = set-bad-group _ _ _ (some-told _ _ c.arena_pages.ensures c.if-is_none.ensures) c.in_default.ensures.1 in
    record { value = k.0; meta_after = k.1 }

pub returns-then-ceiling-gt-MOST_BYTES : goal.returns-then-ceiling-gt-MOST_BYTES
returns-then-ceiling-gt-MOST_BYTES c =
    let k = set-too-large _ _ _ (some-told _ _ c.arena_pages.ensures c.if-is_none.ensures) c.in-Ok.ensures.1 c.if-ceiling-gt-MOST_BYTES.true in
    record { value = k.0; meta_after = k.1 }

-- The figures are there to be lent.
pub slice_bounds-cap-end : goal.slice_bounds-cap-end
slice_bounds-cap-end c = omega (arith, has-figures c.args.meta.now (some-told _ _ c.arena_pages.ensures c.if-is_none.ensures))

pub slice_bounds-cap-end-2 : goal.slice_bounds-cap-end-2
slice_bounds-cap-end-2 c = sym (length-take-le figure_words c.args.meta.now (omega (arith, has-figures c.args.meta.now (some-told _ _ c.arena_pages.ensures c.if-is_none.ensures))))

pub cap-requires : goal.cap-requires
cap-requires c =
    length-take-le figure_words c.args.meta.now (omega (arith, has-figures c.args.meta.now (some-told _ _ c.arena_pages.ensures c.if-is_none.ensures)))

pub returns : goal.returns
returns c =
    let lent = some-told _ _ c.arena_pages.ensures c.if-is_none.ensures in
    let k = set-done c.args.meta.now c.args.group c.args.ceiling lent c.in-Ok.ensures.1 c.if-ceiling-gt-MOST_BYTES.false _ _ (ap (λ k. k - 1) c.in-Ok.ensures.0) c.cap.ensures in
    record { value = k.0; meta_after = k.1 }

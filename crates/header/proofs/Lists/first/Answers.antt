-- `header::Lists::first` meets its contract. Assumes nothing.
use Rattle.std.proofs.Common.{rules, ℕ, ◌≡◌, Bool, Option, Some, None, MatchOption}
use Rattle.std.specs.Bool.{then_some}
use lib.Dec.{ltb}
use Rattle.model.specs.Numbers.{most_pages}
use native.Mathlib.Omega.{arith}
use Rattle.header.proofs.Steps.{header_length, lists-most, first-front}
use Rattle.header.proofs.Lists.first.Goals as goal

pub overflow_add-at : goal.overflow_add-at
overflow_add-at c = omega (arith, lists-most c.args.self.now.legal _ _ c.count_between-at.ensures)

pub offset_bounds-self-at : goal.offset_bounds-self-at
offset_bounds-self-at c = omega (arith, lists-most c.args.self.now.legal _ _ c.count_between-at.ensures)

pub bounds-self-at : goal.bounds-self-at
bounds-self-at c =
    let header = c.args.self.now.legal in
    omega (arith, header_length header, lists-most header _ _ c.count_between-at.ensures)

-- What the filter's closure says of a page: whether it is below 256.
kept_by : {Gives : ℕ → Bool → Type 0} (found kept : Option ℕ) → ((p : ℕ) (b : Bool) → Gives p b → b ≡ ltb p most_pages)
    → MatchOption found (kept ≡ None) (λ p. (b : Bool) × Gives p b × (kept ≡ then_some b p)) → MatchOption found (kept ≡ None) (λ p. kept ≡ then_some (ltb p most_pages) p)
kept_by None kept is m = m
kept_by (Some p) kept is (b, gives, e) = rw (← is p b gives) e

pub returns : goal.returns
returns c =
    first-front c.args.self.now.legal _ c.requires _ _ c.key-low.ensures c.count_between-at.ensures _ _ c.checked_sub.ensures
    (kept_by _ _ (λ p b gives. search rules) c.filter.ensures)

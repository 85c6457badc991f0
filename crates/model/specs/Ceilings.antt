-- Ceilings (document 02, e): whether a request stays within one, and the call that sets one. Assumes nothing.
use Rattle.std.specs.Prelude.{ℕ, ◌+◌, ◌-◌, Bool, leb, set}
use Rattle.model.specs.Numbers.{most_bytes}
use Rattle.model.specs.declared.Refusal.TheVariants.{BadGroup, BadSize}
use Rattle.model.specs.declared.Answer.TheVariants.{Refused, Done}
use Rattle.model.specs.Sizes.{room_for}
use Rattle.model.specs.PageMap.{PageMap}
use Rattle.model.specs.Holdings.{held_of, Account}
use Rattle.model.specs.Calls.{Outcome, answers, provided, group_ok}

-- A request of n bytes by the group g does not pass the ceiling c: what the group holds and the new block's room are no more than that.
abbrev pub within : ℕ → ℕ → ℕ → PageMap → Bool
within c g n m = leb (held_of g m + room_for n) c

-- The account with another ceiling of the group. Nothing else of it changes, whatever the group holds.
abbrev pub limited : ℕ → ℕ → Account → Account
limited g c a = record { state = a.state; greatest = a.greatest; ceilings = set a.ceilings (g - 1) c }

-- Setting the ceiling of a group. Refusals in document 02's order: 4, 5.
abbrev pub set_ceiling : ℕ → ℕ → Account → Outcome Account
set_ceiling g c a = provided (group_ok g) (Refused BadGroup) a (provided (leb c most_bytes) (Refused BadSize) a (answers (limited g c a) Done))

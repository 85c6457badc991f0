-- The group of a number, or refusal 4: a group's number is 1 to 12. Assumes nothing.
use Rattle.std.specs.Prelude.{ℕ, ◌≡◌, true, false, Result, MatchResult}
use Rattle.model.specs.declared.Refusal.{Refusal}
use Rattle.model.specs.declared.Refusal.TheVariants.{BadGroup}
use Rattle.model.specs.declared.groups.Group.{Group}
use Rattle.model.specs.Calls.{group_ok}

abbrev pub GroupOf : ℕ → Result Group Refusal → Type 0
GroupOf n r = MatchResult r (λ g. (g.number ≡ n) × (group_ok n ≡ true)) (λ k. (k ≡ BadGroup) × (group_ok n ≡ false))

-- The values of an answer, as C is given them through pointers: what stands there stays where there is no value. Assumes nothing.
use Rattle.std.specs.Prelude.{ℕ, List, [], ◌∷◌, None, Some}
use Rattle.model.specs.declared.Answer.{Answer}
use Rattle.model.specs.declared.Answer.TheVariants.{Granted, Denied, Refused, Done, Counted, Block}
use Rattle.model.specs.Calls.{number}
use Rattle.capi.specs.declared.Told.{Told}

-- The first value, and the second.
abbrev pub first_or : ℕ → List ℕ → ℕ
first_or d [] = d
first_or d (v ∷ r) = v

abbrev pub second_or : ℕ → List ℕ → ℕ
second_or d [] = d
second_or d (v ∷ r) = first_or d r

-- An answer taken apart, as the code has it.
abbrev pub told_of : Answer → Told
told_of (Granted o n) = record { refusal = 0; first = Some n; second = Some o }
told_of (Denied k n) = record { refusal = number k; first = Some n; second = None }
told_of (Refused k) = record { refusal = number k; first = None; second = None }
told_of Done = record { refusal = 0; first = None; second = None }
told_of (Counted n) = record { refusal = 0; first = Some n; second = None }
told_of (Block g r) = record { refusal = 0; first = Some g; second = Some r }

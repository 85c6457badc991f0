-- An answer taken apart has what the answer's reading has, and a request's count always goes out. Assumes nothing.
use Prim.Native.Nat.{ℕ}
use mathlib.Core.Path.{◌≡◌, refl, ap, ◌∙◌}
use mathlib.Core.List.{List}
use mathlib.Core.Option.{some, none-ne-some}
use Rattle.std.specs.Prelude.{unwrap_or}
use Rattle.model.specs.declared.Answer.{Answer}
use Rattle.model.specs.declared.Answer.TheVariants.{Granted, Denied, Refused, Done, Counted, Block}
use Rattle.model.specs.Calls.{act, reading, looked_of}
use Rattle.calls.specs.Calls.{answer_of}
use Rattle.calls.proofs.Promises.{request, request-bounded}
use Rattle.capi.specs.Values.{first_or, second_or, told_of}

pub refusal-told : (a : Answer) → (told_of a).refusal ≡ (reading a).refusal
refusal-told (Granted o n) = refl
refusal-told (Denied k n) = refl
refusal-told (Refused k) = refl
refusal-told Done = refl
refusal-told (Counted n) = refl
refusal-told (Block g r) = refl

pub first-told : (a : Answer) (d : ℕ) → unwrap_or (told_of a).first d ≡ first_or d (reading a).values
first-told (Granted o n) d = refl
first-told (Denied k n) d = refl
first-told (Refused k) d = refl
first-told Done d = refl
first-told (Counted n) d = refl
first-told (Block g r) d = refl

pub second-told : (a : Answer) (d : ℕ) → unwrap_or (told_of a).second d ≡ second_or d (reading a).values
second-told (Granted o n) d = refl
second-told (Denied k n) d = refl
second-told (Refused k) d = refl
second-told Done d = refl
second-told (Counted n) d = refl
second-told (Block g r) d = refl

-- A request's count is the first of its answer's values, whatever stood there.
first-looked : (a : Answer) (d k : ℕ) → looked_of a ≡ some k → some (first_or d (reading a).values) ≡ looked_of a
first-looked (Granted o n) d k e = refl
first-looked (Denied j n) d k e = refl
first-looked (Refused j) d k e = absurd (none-ne-some k e)
first-looked Done d k e = absurd (none-ne-some k e)
first-looked (Counted n) d k e = absurd (none-ne-some k e)
first-looked (Block g r) d k e = absurd (none-ne-some k e)

pub looked-told : (w : List ℕ) (g n d : ℕ) → let a = answer_of w (act (request g n)) in some (first_or d (reading a).values) ≡ looked_of a
looked-told w g n d = let b = request-bounded w g n in first-looked (answer_of w (act (request g n))) d b.0 b.1

-- The same of the value that the code sends out first.
pub looked_told : (w : List ℕ) (g n d : ℕ) → let a = answer_of w (act (request g n)) in some (unwrap_or (told_of a).first d) ≡ looked_of a
looked_told w g n d = let a = answer_of w (act (request g n)) in ap some (first-told a d) ∙ looked-told w g n d

-- A refusal told by document 01's number, a request's refusal told by it, and a grant told by its offset are answers of one kind. Assumes
-- nothing.
use Prim.Native.Nat.{ℕ, ◌<◌}
use mathlib.Core.Path.{◌≡◌, refl, sym, ap, ◌∙◌}
use mathlib.Core.Logic.{◌↔◌}
use mathlib.Core.List.{[], ◌∷◌}
use mathlib.Core.Option.{Option, none, some}
use mathlib.Core.Bool.{true, cond}
use native.Mathlib.Omega.{arith}
use lib.Dec.{eqb}
use lib.ListN.{length}
use Rattle.lemmas.proofs.Cases.{true-false, clash, some_inj, none-some}
use Rattle.model.specs.declared.Operation.{Operation}
use Rattle.model.specs.declared.Operation.TheVariants.{Allocate, Free, Reset}
use Rattle.model.specs.declared.Refusal.{Refusal}
use Rattle.model.specs.declared.Refusal.TheVariants.{BadPages, FewWords, NoState, BadGroup, BadSize, NoRoom, NoBlock, OtherGroup, BadList, OverCeiling, ShortBuffer}
use Rattle.model.specs.declared.Answer.{Answer}
use Rattle.model.specs.declared.Answer.TheVariants.{Granted, Denied, Refused, Done, Counted, Block}
use Rattle.model.specs.Calls.{Action, group, trim, query, listing, holdings, ceiling, number, reading, is_refused, grant_of, told_by, refusal_of, RefusedBy, DeniedBy, GrantedAt}

-- The refusal with a number, if there is one.
abbrev with_number : ℕ → Option Refusal
with_number n =
    cond (eqb n 1) (some BadPages) (cond (eqb n 2) (some FewWords) (cond (eqb n 3) (some NoState) (cond (eqb n 4) (some BadGroup) (cond (eqb n 5) (some BadSize)
    (cond (eqb n 6) (some NoRoom) (cond (eqb n 7) (some NoBlock) (cond (eqb n 8) (some OtherGroup) (cond (eqb n 9) (some BadList) (cond (eqb n 10) (some OverCeiling)
    (cond (eqb n 12) (some ShortBuffer) none))))))))))

numbered : (k : Refusal) → with_number (number k) ≡ some k
numbered BadPages = refl
numbered FewWords = refl
numbered NoState = refl
numbered BadGroup = refl
numbered BadSize = refl
numbered NoRoom = refl
numbered NoBlock = refl
numbered OtherGroup = refl
numbered BadList = refl
numbered OverCeiling = refl
numbered ShortBuffer = refl

number-least : (k : Refusal) → 0 < number k
number-least BadPages = omega arith
number-least FewWords = omega arith
number-least NoState = omega arith
number-least BadGroup = omega arith
number-least BadSize = omega arith
number-least NoRoom = omega arith
number-least NoBlock = omega arith
number-least OtherGroup = omega arith
number-least BadList = omega arith
number-least OverCeiling = omega arith
number-least ShortBuffer = omega arith

-- An answer is a refusal just if it has a number.
pub refused-number : (a : Answer) → (is_refused a ≡ true) ↔ (0 < (reading a).refusal)
refused-number (Granted o n) = (λ t. true-false t refl, λ h. absurd (omega arith))
refused-number (Denied k n) = (λ _. number-least k, λ _. refl)
refused-number (Refused k) = (λ _. number-least k, λ _. refl)
refused-number Done = (λ t. true-false t refl, λ h. absurd (omega arith))
refused-number (Counted n) = (λ t. true-false t refl, λ h. absurd (omega arith))
refused-number (Block g r) = (λ t. true-false t refl, λ h. absurd (omega arith))

-- A refusal is one, as any call is told it.
pub refusal-refused : (a : Action) (k : Refusal) → is_refused (refusal_of a k) ≡ true
refusal-refused (group c) k = go c.operation
  where
    go : (q : Operation) → is_refused (told_by q k) ≡ true
    go (Allocate n) = refl
    go (Free o) = refl
    go Reset = refl
refusal-refused trim k = refl
refusal-refused (query o) k = refl
refusal-refused (listing n) k = refl
refusal-refused (holdings n) k = refl
refusal-refused (ceiling g c) k = refl

-- What has the number of the refusal k is that refusal: a call's, if it has no values, or a request's, if it has a count.
abbrev Told : Refusal → Answer → Type 0
Told k a = (reading a).refusal ≡ number k

same-refusal : (j k : Refusal) → number j ≡ number k → j ≡ k
same-refusal j k e = some_inj (sym (numbered j) ∙ ap with_number e ∙ numbered k)

is-refused : (k : Refusal) (a : Answer) → Told k a → is_refused a ≡ true
is-refused k a e = (refused-number a).1 (omega (arith, number-least k, e))

pub refusal-told : (k : Refusal) (a : Answer) → RefusedBy (number k) a ↔ (a ≡ Refused k)
refusal-told k a = (λ e. go a e (is-refused k a (ap (λ r. r.refusal) e)), λ e. ap reading e)
  where
    go : (a : Answer) → RefusedBy (number k) a → is_refused a ≡ true → a ≡ Refused k
    go (Granted o n) e t = true-false t refl
    go (Denied j n) e t = clash (let v = ap (λ r. length r.values) e in cc)
    go (Refused j) e t = ap Refused (same-refusal j k (ap (λ r. r.refusal) e))
    go Done e t = true-false t refl
    go (Counted n) e t = true-false t refl
    go (Block g r) e t = true-false t refl

pub denial-told : (k : Refusal) (a : Answer) → DeniedBy (number k) a ↔ ((n : ℕ) × (a ≡ Denied k n))
denial-told k a = (λ h. go a h.0 h.1 (is-refused k a (ap (λ r. r.refusal) h.1)), λ h. (h.0, ap reading h.1))
  where
    go : (a : Answer) (n : ℕ) → reading a ≡ record { refusal = number k; values = n ∷ [] } → is_refused a ≡ true → (n : ℕ) × (a ≡ Denied k n)
    go (Granted o m) n e t = true-false t refl
    go (Denied j m) n e t = (m, ap (λ i. Denied i m) (same-refusal j k (ap (λ r. r.refusal) e)))
    go (Refused j) n e t = clash (let v = ap (λ r. length r.values) e in cc)
    go Done n e t = true-false t refl
    go (Counted m) n e t = true-false t refl
    go (Block g r) n e t = true-false t refl

-- And what grants an offset is a request's grant of it.
pub grant-told : (o : ℕ) (a : Answer) → GrantedAt o a ↔ ((n : ℕ) × (a ≡ Granted o n))
grant-told o a = (λ h. go a h.0, λ h. (ap grant_of h.1, (h.0, ap reading h.1)))
  where
    go : (a : Answer) → grant_of a ≡ some o → (n : ℕ) × (a ≡ Granted o n)
    go (Granted q n) e = (n, ap (λ i. Granted i n) (some_inj e))
    go (Denied k n) e = none-some e
    go (Refused k) e = none-some e
    go Done e = none-some e
    go (Counted n) e = none-some e
    go (Block g r) e = none-some e

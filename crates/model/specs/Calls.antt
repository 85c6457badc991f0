-- Calls, answers and the numbers of refusals (document 01, "Calls" and "Numbers for no"). The types that the code shares,
-- `Call` (a group and what it asks), `Answer` and `Refusal`, are declared in src/. Assumes nothing.
use Rattle.std.specs.Prelude.{ℕ, ◌≡◌, List, [], ◌∷◌, Bool, true, false, ◌&&◌, leb, Result, Ok, Err}
use Rattle.std.proofs.Math.Option.{Option, none, some}
use Rattle.model.specs.Numbers.{most_group, most_bytes}
use Rattle.model.specs.declared.Call.{Call}
use Rattle.model.specs.declared.Operation.{Operation}
use Rattle.model.specs.declared.Operation.TheVariants.{Allocate, Free, Reset}
use Rattle.model.specs.declared.Refusal.{Refusal}
use Rattle.model.specs.declared.Refusal.TheVariants.{BadPages, FewWords, NoState, BadGroup, BadSize, NoRoom, NoBlock, OtherGroup, BadList, OverCeiling, ShortBuffer}
use Rattle.model.specs.declared.Grant.{Grant}
use Rattle.model.specs.declared.Denial.{Denial}
use Rattle.model.specs.declared.Answer.{Answer}
use Rattle.model.specs.declared.Answer.TheVariants.{Granted, Denied, Refused, Done, Counted, Block}

-- What is asked of a valid state: by a group (document 01: request, return, reset), or by nobody: trim (document 01: tidy),
-- query (ask) of an offset, the listing into a buffer of so many bytes, the holdings (document 02, c) into a list of so many records, and
-- the ceiling (document 02, e) of a group in bytes.
pub data Action : Type 0 where
  group : Call → Action
  trim : Action
  query : ℕ → Action
  listing : ℕ → Action
  holdings : ℕ → Action
  ceiling : ℕ → ℕ → Action

-- Every call: init (document 01: start) with a number of pages, or an action.
pub data Command : Type 0 where
  init : ℕ → Command
  act : Action → Command

-- The number of each refusal (document 01; document 02, c and e).
abbrev pub number : Refusal → ℕ
number BadPages = 1
number FewWords = 2
number NoState = 3
number BadGroup = 4
number BadSize = 5
number NoRoom = 6
number NoBlock = 7
number OtherGroup = 8
number BadList = 9
number OverCeiling = 10
number ShortBuffer = 12

-- The papers' reading of an answer: the refusal's number, 0 where it is none, and the values that the answer has. A request's answer
-- has the count of runs that were looked at (document 02, b), and behind it the offset, if one is granted; other answers have a
-- count, or a group and a room, or nothing.
pub record Reading : Type 0 where
  pub refusal : ℕ
  pub values : List ℕ

abbrev pub reading : Answer → Reading
reading (Granted o n) = record { refusal = 0; values = n ∷ o ∷ [] }
reading (Denied k n) = record { refusal = number k; values = n ∷ [] }
reading (Refused k) = record { refusal = number k; values = [] }
reading Done = record { refusal = 0; values = [] }
reading (Counted n) = record { refusal = 0; values = n ∷ [] }
reading (Block g r) = record { refusal = 0; values = g ∷ r ∷ [] }

abbrev pub is_refused : Answer → Bool
is_refused (Granted o n) = false
is_refused (Denied k n) = true
is_refused (Refused k) = true
is_refused Done = false
is_refused (Counted n) = false
is_refused (Block g r) = false

-- What a call answers for what its parts bring: a request's grant or denial; a count, or a refusal; nothing, or a refusal.
abbrev pub request_answer : Result Grant Denial → Answer
request_answer (Ok g) = Granted g.offset g.looked
request_answer (Err d) = Denied d.refusal d.looked

abbrev pub count_answer : Result ℕ Refusal → Answer
count_answer (Ok n) = Counted n
count_answer (Err k) = Refused k

abbrev pub plain_answer : Result Unit Refusal → Answer
plain_answer (Ok u) = Done
plain_answer (Err k) = Refused k

-- The offset that an answer grants.
abbrev pub grant_of : Answer → Option ℕ
grant_of (Granted o n) = some o
grant_of (Denied k n) = none
grant_of (Refused k) = none
grant_of Done = none
grant_of (Counted n) = none
grant_of (Block g r) = none

-- The count of runs that a request's answer has.
abbrev pub looked_of : Answer → Option ℕ
looked_of (Granted o n) = some n
looked_of (Denied k n) = some n
looked_of (Refused k) = none
looked_of Done = none
looked_of (Counted n) = none
looked_of (Block g r) = none

-- Answers as the papers tell them. The refusal with the number k: it has that number and no values.
abbrev pub RefusedBy : ℕ → Answer → Type 0
RefusedBy k a = reading a ≡ record { refusal = k; values = [] }

-- A request's refusal with the number k: it has that number, and some count of runs.
abbrev pub DeniedBy : ℕ → Answer → Type 0
DeniedBy k a = (n : ℕ) × (reading a ≡ record { refusal = k; values = n ∷ [] })

-- The grant of the offset o: no number, some count of runs, and that value. (A block's group and room have such a reading too, and are
-- no grant.)
abbrev pub GrantedAt : ℕ → Answer → Type 0
GrantedAt o a = (grant_of a ≡ some o) × ((n : ℕ) × (reading a ≡ record { refusal = 0; values = n ∷ o ∷ [] }))

-- Groups 1 to 12, and sizes that may be asked for.
abbrev pub group_ok : ℕ → Bool
group_ok g = leb 1 g && leb g most_group

abbrev pub size_ok : ℕ → Bool
size_ok n = leb 1 n && leb n most_bytes

-- What a call leaves, and what it answers.
pub record Outcome (S : Type 0) : Type 0 where
  pub after : S
  pub answer : Answer

abbrev pub answers : {S : Type 0} → S → Answer → Outcome S
answers s a = record { after = s; answer = a }

-- A refusal leaves everything as it is.
abbrev pub refuses : {S : Type 0} → S → Refusal → Outcome S
refuses s k = answers s (Refused k)

-- So does a request's, after n runs were looked at.
abbrev pub denies : {S : Type 0} → S → Refusal → ℕ → Outcome S
denies s k n = answers s (Denied k n)

-- The refusal a where the test fails, and then s stays, else what follows: the order of the tests is the order on the page.
abbrev pub provided : {S : Type 0} → Bool → Answer → S → Outcome S → Outcome S
provided true a s r = r
provided false a s r = answers s a

-- A refusal as the call is told it: a request's has a count, which is 0 where no search was made.
abbrev pub told_by : Operation → Refusal → Answer
told_by (Allocate n) k = Denied k 0
told_by (Free o) k = Refused k
told_by Reset k = Refused k

abbrev pub refusal_of : Action → Refusal → Answer
refusal_of (group c) k = told_by c.operation k
refusal_of trim k = Refused k
refusal_of (query o) k = Refused k
refusal_of (listing n) k = Refused k
refusal_of (holdings n) k = Refused k
refusal_of (ceiling g c) k = Refused k

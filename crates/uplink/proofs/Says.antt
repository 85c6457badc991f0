-- The texts of the answers: they are short, as their writers require, and each kind has its own. Assumes nothing.
use Prim.Native.Nat.{ℕ, ◌+◌, ◌^◌, ◌≤◌, ◌<◌}
use mathlib.Core.Path.{◌≡◌, refl, sym, ap}
use mathlib.Core.Bool.{true}
use mathlib.Core.Logic.{◌⊎◌, inl, inr}
use mathlib.Core.List.{List, [], ◌∷◌}
use native.Mathlib.Omega.{arith}
use lib.ListN.{length}
use borrow.Author.Tests.{lt-ltb}
use Rattle.lemmas.specs.Every.{every}
use Rattle.lemmas.proofs.Cases.{and_both}
use Rattle.model.specs.declared.Refusal.{Refusal}
use Rattle.model.specs.declared.Answer.{Answer}
use Rattle.model.specs.declared.Answer.TheVariants.{Granted, Denied, Refused, Done, Counted, Block}
use Rattle.model.specs.Ascii.{ascii}
use Rattle.model.specs.Text.{line}
use Rattle.model.specs.Calls.{number}
use Rattle.text.specs.Writing.{Bounded, Wrote, named}
use Rattle.text.proofs.Lines.{is_long, length-line, length-named}
use Rattle.uplink.specs.Answers.{answer_text, answer_room}

pub named-bounded : (at : ℕ) (name : List ℕ) (n : ℕ) → at < 2 ^ 32 → length name ≤ 2 → n < 2 ^ 64 → Bounded at (named name n)
named-bounded at name n h k f = omega (arith, length-named name n f)

pair-length : (a b : ℕ) → a < 2 ^ 64 → b < 2 ^ 64 → length (line (a ∷ b ∷ [])) ≤ 43
unfolding every
pair-length a b f g =
    length-line _
    (and_both (is_long a) _ (lt-ltb a (2 ^ 64) f) (and_both (is_long b) true (lt-ltb b (2 ^ 64) g) refl))

pub pair-bounded : (at a b : ℕ) → at < 2 ^ 32 → a < 2 ^ 64 → b < 2 ^ 64 → Bounded at (line (a ∷ b ∷ []))
pair-bounded at a b h f g = omega (arith, pair-length a b f g)

-- Where they end.
module _ {l m : List ℕ} {at r : ℕ} where
  pub named-short : (name : List ℕ) (n : ℕ) → Wrote l at (named name n) r m → length name ≤ 2 → n < 2 ^ 64 → r ≤ at + answer_room
  named-short name n w k f = omega (arith, length-named name n f)

  pub pair-short : (a b : ℕ) → Wrote l at (line (a ∷ b ∷ [])) r m → a < 2 ^ 64 → b < 2 ^ 64 → r ≤ at + answer_room
  pair-short a b w f g = omega (arith, pair-length a b f g)

-- ---- the text of each kind of answer

module _ {a : Answer} {n : ℕ} where
  pub says-granted : {o k : ℕ} → a ≡ Granted o k → n ≡ o → named (ascii "at") n ≡ answer_text a
  unfolding answer_text
  says-granted e q = cc

  pub says-counted : {k : ℕ} → a ≡ Counted k → n ≡ k → named (ascii "ok") n ≡ answer_text a
  unfolding answer_text
  says-counted e q = cc

pub says-denied : {a : Answer} {k : Refusal} {n : ℕ} → a ≡ Denied k n → named (ascii "no") (number k) ≡ answer_text a
unfolding answer_text
says-denied e = ap answer_text (sym e)

pub says-refused : {a : Answer} {k : Refusal} → a ≡ Refused k → named (ascii "no") (number k) ≡ answer_text a
unfolding answer_text
says-refused e = ap answer_text (sym e)

-- A refusal, of either kind.
pub says-no : {a : Answer} {k : Refusal} → ((n : ℕ) × (a ≡ Denied k n)) ⊎ (a ≡ Refused k) → named (ascii "no") (number k) ≡ answer_text a
says-no (inl e) = says-denied e.1
says-no (inr e) = says-refused e

pub says-done : {a : Answer} → a ≡ Done → ascii "ok\n" ≡ answer_text a
unfolding answer_text
says-done e = ap answer_text (sym e)

pub says-block : {a : Answer} {g r : ℕ} → a ≡ Block g r → line (g ∷ r ∷ []) ≡ answer_text a
unfolding answer_text
says-block e = ap answer_text (sym e)

-- The listing into a buffer: a text that has room stands at the buffer's front, and the answer is that of the rules.
-- Assumes nothing.
use Prim.Native.Nat.{ℕ, ◌≤◌}
use mathlib.Core.Path.{◌≡◌, refl, ap, ◌∙◌}
use mathlib.Core.Bool.{Bool, true, false, cond}
use mathlib.Core.List.{List, ◌++◌}
use native.Mathlib.Omega.{arith}
use lib.Dec.{leb}
use lib.ListN.{length, drop}
use lib.Seq.{sets}
use borrow.Author.Tests.{leb-true}
use Rattle.lemmas.proofs.Sets.{sets-put}
use Rattle.model.specs.declared.Refusal.TheVariants.{ShortBuffer}
use Rattle.model.specs.declared.Answer.TheVariants.{Refused, Counted}
use Rattle.model.specs.State.{State}
use Rattle.model.specs.PageMap.{page_map}
use Rattle.model.specs.Calls.{answers, provided}
use Rattle.model.specs.Listing.{listing_text, list_into}
use Rattle.text.specs.Writing.{Wrote}
use Rattle.listing.specs.Into.{list_answer, listed_into}

pub sets-front : (t l : List ℕ) → length t ≤ length l → sets l 0 t ≡ t ++ drop (length t) l
sets-front t l h = sets-put t l 0 (omega arith)

-- The text t was measured, and the buffer l has no room for it, or has and it was written.
module _ {k m : List ℕ} {t : List ℕ} {len : ℕ} (l : List ℕ) (a : Wrote k 0 t len m) where
  room-is : (b : Bool) → leb len (length l) ≡ b → leb (length t) (length l) ≡ b
  room-is b e = let q : length t ≡ len = omega arith in cc

  pub not_listed : leb len (length l) ≡ false → (Refused ShortBuffer ≡ list_answer (length l) t) × (l ≡ listed_into l t)
  not_listed e = (rw (room-is false e), rw (room-is false e))

  pub listed : {r : ℕ} {u : List ℕ} → Wrote l 0 t r u → leb len (length l) ≡ true → (Counted len ≡ list_answer (length l) t) × (u ≡ listed_into l t)
  listed b e =
      let q : len ≡ length t = omega arith in
      let fits : length t ≤ length l = leb-true (length t) (length l) (room-is true e) in
      (rw (room-is true e) (ap Counted q), rw (room-is true e) (b.bytes ∙ sets-front t l fits))

-- The answer is that of the rules.
pub list-answer : (n : ℕ) (s : State) → list_answer n (listing_text (page_map s)) ≡ (list_into n s).answer
list-answer n s = go (leb (length (listing_text (page_map s))) n)
  where
    go : (t : Bool) → cond t (Counted (length (listing_text (page_map s)))) (Refused ShortBuffer) ≡ (provided t (Refused ShortBuffer) s (answers s (Counted (length (listing_text (page_map s)))))).answer
    go true = refl
    go false = refl

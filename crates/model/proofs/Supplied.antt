-- What a request of a legal group and size is answered. Where it needs no pages, it gets a chunk and no run is looked at; where it needs
-- some, the answer goes by what the two searches come to, be the pages for a direct block or for a zone. Assumes nothing.
use Prim.Native.Nat.{ℕ, ◌*◌, ◌<◌}
use mathlib.Core.Path.{◌≡◌, refl, sym, subst}
use mathlib.Core.List.{List, [], ◌∷◌}
use mathlib.Core.Option.{Option, none, some}
use mathlib.Core.Bool.{true}
use native.Mathlib.Omega.{arith}
use lib.Dec.{ltb}
use borrow.Author.Tests.{ltb-false}
use Rattle.lemmas.proofs.Cases.{bool}
use Rattle.model.specs.Numbers.{page_bytes, zone_pages, large_size}
use Rattle.model.specs.declared.Refusal.TheVariants.{NoRoom}
use Rattle.model.specs.declared.Answer.{Answer}
use Rattle.model.specs.declared.Answer.TheVariants.{Granted, Denied}
use Rattle.model.specs.Sizes.{class_of, pages_for}
use Rattle.model.specs.State.{State, list_of}
use Rattle.model.specs.PageMap.{page_map}
use Rattle.model.specs.Calls.{group_ok, size_ok}
use Rattle.model.specs.Ceilings.{within}
use Rattle.model.specs.Allocate.{Source, sought, direct_from, zone_from, from_spare, chunk_from, supplied, zone_needed, needed, allocate}

-- The answer where pages are needed: what was found, after k runs.
abbrev pub told : ℕ → Option Source → Answer
told k none = Denied NoRoom k
told k (some f) = Granted (f.free.page * page_bytes) k

-- The answer a, where an option names the pages that are needed.
pub data Supply (s : State) (o : Option ℕ) (a : Answer) : Type 0 where
  at-hand : (q : ℕ) → o ≡ none → a ≡ Granted q 0 → Supply s o a
  from-runs : (k : ℕ) → o ≡ some k → 0 < k → a ≡ told (sought k s).looked (sought k s).chosen → Supply s o a

module _ (s : State) where
  direct-told : (n g k : ℕ) (o : Option Source) → (direct_from n g s k o).answer ≡ told k o
  direct-told n g k none = refl
  direct-told n g k (some f) = refl

  zone-told : (c g k : ℕ) (o : Option Source) → (zone_from c g s k o).answer ≡ told k o
  zone-told c g k none = refl
  zone-told c g k (some f) = refl

  chunk-supply : (c g : ℕ) (l q : List ℕ) → s.spare ≡ q → Supply s (zone_needed l q) (chunk_from c g s l).answer
  chunk-supply c g [] [] e =
      subst (λ z. Supply s (some zone_pages) (from_spare c g s z).answer) (sym e)
      (from-runs zone_pages refl (omega arith) (zone-told c g (sought zone_pages s).looked (sought zone_pages s).chosen))
  chunk-supply c g [] (p ∷ ps) e = subst (λ z. Supply s none (from_spare c g s z).answer) (sym e) (at-hand _ refl refl)
  chunk-supply c g (p ∷ ps) q e = at-hand _ refl refl

  pub supply : (g n : ℕ) → Supply s (needed n s) (supplied g n s).answer
  supply g n = bool (ltb n large_size)
      (λ t. rw t (chunk-supply (class_of n) g (list_of s (class_of n)) s.spare refl))
      (λ t. rw t (from-runs (pages_for n) refl (omega (arith, ltb-false)) (direct-told (pages_for n) g (sought (pages_for n) s).looked (sought (pages_for n) s).chosen)))

  -- A request of a legal group and size, within the ceiling, is answered so.
  pub accepted : (c g n : ℕ) → group_ok g ≡ true → size_ok n ≡ true → within c g n (page_map s) ≡ true → (allocate c g n s).answer ≡ (supplied g n s).answer
  accepted c g n t u r = rw (t, u, r)

-- Every call keeps validity, and a refused call leaves everything as it was. Assumes nothing.
use Prim.Native.Nat.{ℕ, ◌*◌, ◌≤◌, ◌<◌}
use mathlib.Core.Path.{◌≡◌, refl, ap}
use mathlib.Core.List.Memᴰ
use mathlib.Core.List.{List, []}
use mathlib.Core.Option.{Option, none, some}
use mathlib.Core.Bool.{Bool, true, false}
use native.Mathlib.Omega.{arith}
use lib.Dec.{ltb, leb, eqb}
use lib.ListN.{length, get_or, replicate, length-replicate, get_or-replicate, get_or-eq_default}
use borrow.Author.Tests.{ltb-true, ltb-false}
use Rattle.lemmas.proofs.Cases.{bool, true-false, clash}
use Rattle.model.specs.Numbers.{most_group, class_count, most_pages, page_bytes}
use Rattle.model.specs.declared.Answer.{Answer}
use Rattle.model.specs.declared.Operation.{Operation}
use Rattle.model.specs.declared.Operation.TheVariants.{Allocate, Free, Reset}
use Rattle.model.specs.Arena.{Segment, run, zone, total, Each}
use Rattle.model.specs.Zone.{Zone}
use Rattle.model.specs.State.{State, fresh_state, ZoneAt}
use Rattle.model.specs.PageMap.{page_map, Block, group_of, block_at}
use Rattle.model.specs.Holdings.{Account, ceiling_of}
use Rattle.model.specs.Valid.{Apart, ValidSegment, Valid}
use Rattle.model.specs.Calls.{Action, group, trim, query, listing, holdings, ceiling, Outcome, is_refused, provided, group_ok}
use Rattle.model.specs.Allocate.{allocate}
use Rattle.model.specs.Free.{free_block, free}
use Rattle.model.specs.Listing.{listing_text, list_into}
use Rattle.model.specs.Perform.{asked, fetch, serve}
use Rattle.model.proofs.Joins.{cut-zone}
use Rattle.model.proofs.Ceilings.{setting_same}
use Rattle.model.proofs.Allocated.{Allocated, gives, denies, allocated}
use Rattle.model.proofs.ValidAllocate.{allocate-valid}
use Rattle.model.proofs.ValidFree.{free-valid, reset-valid}
use Rattle.model.proofs.ValidTrim.{trimmed-valid}

-- The fresh state -----------------------------------------------------------------------------------------------------

fresh-list : (n c : ℕ) → get_or {A = List ℕ} (replicate n []) c [] ≡ []
fresh-list n c = bool (ltb c n) (λ t. get_or-replicate n c [] [] (ltb-true c n t)) (λ t. get_or-eq_default (replicate n []) [] {n = c} (omega (arith, ltb-false, length-replicate {A = List ℕ} n [])))

-- A state of valid segments with no zone among them and nothing on its lists is valid.
pub bare-valid : (m : List (Segment Zone)) → 0 < total m → total m ≤ most_pages → Apart false m → Each ValidSegment m
    → ((p : ℕ) (z : Zone) → ZoneAt m p z → ⊥) → Valid (record { segments = m; lists = replicate class_count []; spare = [] })
bare-valid m least most apart sound bare = record {
  least = least;
  most = most;
  apart = apart;
  sound = sound;
  classes = length-replicate {A = List ℕ} class_count [];
  listed = λ c p i. absurd (Memᴰ.not-nil (rw (fresh-list class_count c) at i));
  complete = λ p z b f. absurd (bare p z b);
  few = omega arith;
  spared = λ p i. absurd (Memᴰ.not-nil i);
  once = λ c. rw (fresh-list class_count c) tt;
  once-spare = tt;
  not-both = λ c p i j. Memᴰ.not-nil j;
}

pub fresh-valid : (n : ℕ) → 0 < n → n ≤ most_pages → Valid (fresh_state n)
fresh-valid n least most = bare-valid _ (omega arith) (omega arith) (refl, least, tt) (tt, tt)
    (λ p z b. let u : run n ≡ zone z = (cut-zone (run n) 0 (p * page_bytes) z b).1 in clash (cc))

-- Calls on a valid state ------------------------------------------------------------------------------------------------

pub list_same : (n : ℕ) (s : State) → (list_into n s).after ≡ s
list_same n s = bool (leb (length (listing_text (page_map s))) n) (λ t. rw t) (λ t. rw t)

pub fetch-same : (n : ℕ) (s : State) → (fetch n s).after ≡ s
fetch-same n s = bool (eqb n most_group) (λ t. rw t) (λ t. rw t)

-- A group's call that is not refused is that of a legal group.
pub asked-group : (c g : ℕ) (q : Operation) (s : State) → is_refused (asked c g q s).answer ≡ false → group_ok g ≡ true
asked-group c g (Allocate n) s d = bool (group_ok g) (λ t. t) (λ t. true-false refl (rw t at d))
asked-group c g (Free o) s d = bool (group_ok g) (λ t. t) (λ t. true-false refl (rw t at d))
asked-group c g Reset s d = bool (group_ok g) (λ t. t) (λ t. true-false refl (rw t at d))

pub asked-valid : (s : State) → Valid s → (c g : ℕ) (q : Operation) → Valid (asked c g q s).after
asked-valid s h c g (Allocate n) = allocate-valid s h c g n
asked-valid s h c g (Free o) = free-valid s h g o
asked-valid s h c g Reset = reset-valid s h g

pub serve-valid : (x : Account) → Valid x.state → (a : Action) → Valid (serve x a).after.state
serve-valid x h (group c) = asked-valid x.state h (ceiling_of x c.group) c.group c.operation
serve-valid x h trim = trimmed-valid x.state h
serve-valid x h (query o) = h
serve-valid x h (listing n) = rw (list_same n x.state) h
serve-valid x h (holdings n) = rw (fetch-same n x.state) h
serve-valid x h (ceiling g c) = rw (setting_same g c x) h

-- Refusals --------------------------------------------------------------------------------------------------------------

-- What a refused outcome leaves.
abbrev pub Leaves : {S : Type 0} → S → Outcome S → Type 0
Leaves s r = is_refused r.answer ≡ true → r.after ≡ s

pub guarded : {S : Type 0} (b : Bool) (k : Answer) (s : S) (r : Outcome S) → Leaves s r → Leaves s (provided b k s r)
guarded true k s r h = h
guarded false k s r h = λ _. refl

allocate-leaves : (s : State) → Valid s → (c g n : ℕ) → Leaves s (allocate c g n s)
allocate-leaves s h c g n = go (allocated s h c g n)
  where
    go : {r : ℕ} → Allocated s g r (allocate c g n s) → Leaves s (allocate c g n s)
    go (gives o k b ans fresh grp rm only) = λ t. true-false t (ap is_refused ans)
    go (denies r k ans st) = λ _. st

free-leaves : (s : State) (g o : ℕ) → Leaves s (free g o s)
free-leaves s g o = guarded (group_ok g) _ s _ (go (block_at (page_map s) o))
  where
    go : (b : Option Block) → Leaves s (free_block g o s b)
    go none = λ _. refl
    go (some b) = guarded (eqb (group_of b) g) _ s _ (λ t. true-false t refl)

asked-leaves : (s : State) → Valid s → (c g : ℕ) (q : Operation) → Leaves s (asked c g q s)
asked-leaves s h c g (Allocate n) = allocate-leaves s h c g n
asked-leaves s h c g (Free o) = free-leaves s g o
asked-leaves s h c g Reset = guarded (group_ok g) _ s _ (λ t. true-false t refl)

-- A refused call on a state leaves it; so the account stays, too (`serve-same`).
pub state-leaves : (x : Account) → Valid x.state → (a : Action) → is_refused (serve x a).answer ≡ true → (serve x a).after.state ≡ x.state
state-leaves x h (group c) = asked-leaves x.state h (ceiling_of x c.group) c.group c.operation
state-leaves x h trim = λ t. true-false t refl
state-leaves x h (query o) = λ _. refl
state-leaves x h (listing n) = λ _. list_same n x.state
state-leaves x h (holdings n) = λ _. fetch-same n x.state
state-leaves x h (ceiling g c) = λ _. setting_same g c x

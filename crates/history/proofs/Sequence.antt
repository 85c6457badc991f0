-- On a trimmed page map, requests of whole pages and returns by which no chunk comes back are functions of it: what they answer and
-- which page map they leave, which is a trimmed one again. Assumes nothing.
use Prim.Native.Nat.{ℕ, ◌+◌, ◌*◌, ◌≤◌}
use mathlib.Core.Path.{◌≡◌, refl, sym, ◌∙◌, ap}
use mathlib.Core.Option.{Option, none, some, map}
use mathlib.Core.Bool.{true, false, cond}
use native.Mathlib.Omega.{arith}
use lib.Dec.{eqb}
use borrow.Author.Tests.{le-ltb}
use Rattle.lemmas.proofs.Cases.{bool, either, true-false}
use Rattle.model.specs.Numbers.{page_bytes}
use Rattle.model.specs.declared.Operation.{Operation}
use Rattle.model.specs.declared.Operation.TheVariants.{Allocate, Free, Reset}
use Rattle.model.specs.declared.Refusal.TheVariants.{BadGroup, BadSize, OverCeiling, NoRoom, NoBlock, OtherGroup}
use Rattle.model.specs.declared.Answer.{Answer}
use Rattle.model.specs.declared.Answer.TheVariants.{Granted, Denied, Refused, Done}
use Rattle.model.specs.Sizes.{pages_for}
use Rattle.model.specs.Arena.{direct}
use Rattle.model.specs.State.{State}
use Rattle.model.specs.PageMap.{occupancy, PageMap, page_map, Block, whole, chunk, group_of, block_at}
use Rattle.model.specs.Pages.{FreeRun, Search, onward, followed, claim, carve, release}
use Rattle.model.specs.Calls.{Outcome, is_refused, group_ok, size_ok}
use Rattle.model.specs.Ceilings.{within}
use Rattle.model.specs.Allocate.{Source, found_in, sought, direct_from, allocate}
use Rattle.model.specs.Trim.{trimmed}
use Rattle.model.specs.Free.{free_block, free}
use Rattle.model.specs.Perform.{asked}
use Rattle.model.proofs.Claim.{claim-found, claim-retold}
use Rattle.model.proofs.Joins.{carve-retold, release-retold}
use Rattle.model.proofs.Trimmed.{trimmed-map}
use Rattle.model.proofs.Sought.{sought-first, sought-second}
use Rattle.history.proofs.Neat.{Neat, neat-again, release-neat, carve-neat}

-- The steps on page maps -------------------------------------------------------------------------------------------------------

abbrev map_direct : ℕ → ℕ → PageMap → Option FreeRun → PageMap
map_direct n g m none = m
map_direct n g m (some h) = carve h n (direct n g) m

-- A second search finds what the first did: where that was nothing, every run is looked at twice.
abbrev say_direct : ℕ → Option FreeRun → Answer
say_direct k none = Denied NoRoom (k + k)
say_direct k (some h) = Granted (h.page * page_bytes) k

abbrev map_free : ℕ → ℕ → PageMap → Option Block → PageMap
map_free g o m none = m
map_free g o m (some (whole n h)) = cond (eqb h g) (release o m) m
map_free g o m (some (chunk c i h)) = m

abbrev say_free : ℕ → Option Block → Answer
say_free g none = Refused NoBlock
say_free g (some b) = cond (eqb (group_of b) g) Done (Refused OtherGroup)

-- The page map after such a call by a group whose ceiling is c, and the answer. (A reset is none of these calls.)
abbrev pub map_after : ℕ → PageMap → ℕ → Operation → PageMap
map_after c m g (Allocate n) = cond (group_ok g) (cond (size_ok n) (cond (within c g n m) (map_direct (pages_for n) g m (claim (pages_for n) m).chosen) m) m) m
map_after c m g (Free o) = cond (group_ok g) (map_free g o m (block_at m o)) m
map_after c m g Reset = m

abbrev pub say_at : ℕ → PageMap → ℕ → Operation → Answer
say_at c m g (Allocate n) =
    cond (group_ok g)
    (cond (size_ok n) (cond (within c g n m) (let l = claim (pages_for n) m in say_direct l.looked l.chosen) (Denied OverCeiling 0)) (Denied BadSize 0))
    (Denied BadGroup 0)
say_at c m g (Free o) = cond (group_ok g) (say_free g (block_at m o)) (Refused BadGroup)
say_at c m g Reset = Done

-- A request from 8,192 bytes up, or a return by which no chunk comes back, on a state.
abbrev pub AllowedOn : State → ℕ → Operation → Type 0
AllowedOn s g (Allocate n) = 8192 ≤ n
AllowedOn s g (Free o) = (c i h : ℕ) → block_at (page_map s) o ≡ some (chunk c i h) → is_refused (free g o s).answer ≡ true
AllowedOn s g Reset = ⊥

free-says : (s : State) (c g o : ℕ) → (free g o s).answer ≡ say_at c (page_map s) g (Free o)
free-says s c g o = bool (group_ok g) (λ t. rw t (go (block_at (page_map s) o))) (λ t. rw t)
  where
    go : (b : Option Block) → (free_block g o s b).answer ≡ say_free g b
    go none = refl
    go (some b) = bool (eqb (group_of b) g) (λ t. rw t) (λ t. rw t)

-- What the two searches come to where a second one finds what the first did.
abbrev twice : State → Search FreeRun → Search Source
twice s l = followed (map (found_in s) l.chosen) l.looked (record { chosen = none; looked = l.looked })

-- There it does: nothing is to be given back.
neat-sought : (s : State) (n : ℕ) → Neat false (page_map s) → sought n s ≡ twice s (claim n s.segments)
neat-sought s n h = go (claim n s.segments).chosen refl
  where
    again : claim n (trimmed s).segments ≡ claim n s.segments
    again = sym (claim-retold occupancy n _) ∙ ap (claim n) (trimmed-map s ∙ (neat-again (page_map s)).0 h) ∙ claim-retold occupancy n _

    go : (r : Option FreeRun) → (claim n s.segments).chosen ≡ r → sought n s ≡ twice s (claim n s.segments)
    go none e = sought-second n s e ∙ (λ i. onward (claim n s.segments).looked (record { chosen = map (found_in (trimmed s)) ((ap (λ l. l.chosen) again ∙ e) i); looked = (again i).looked })) ∙ rw e
    go (some r) e = sought-first n s r e ∙ rw e

-- The answer and the page map that whole pages then come to.
abbrev direct_twice : State → ℕ → ℕ → ℕ → Option FreeRun → Outcome State
direct_twice s n g k h = let l = twice s (record { chosen = h; looked = k }) in direct_from n g s l.looked l.chosen

direct-map : (s : State) (n g k : ℕ) (h : Option FreeRun) → page_map (direct_twice s n g k h).after ≡ map_direct n g (page_map s) h
direct-map s n g k none = refl
direct-map s n g k (some h) = carve-retold occupancy h n _ s.segments

direct-says : (s : State) (n g k : ℕ) (h : Option FreeRun) → (direct_twice s n g k h).answer ≡ say_direct k h
direct-says s n g k none = refl
direct-says s n g k (some h) = refl

allocate-both : (s : State) (c g n : ℕ) → Neat false (page_map s) → 8192 ≤ n →
    (page_map (allocate c g n s).after ≡ map_after c (page_map s) g (Allocate n)) × ((allocate c g n s).answer ≡ say_at c (page_map s) g (Allocate n))
allocate-both s c g n k h = bool (group_ok g)
    (λ t. rw t (bool (size_ok n)
    (λ u. rw u (bool (within c g n (page_map s))
    (λ r. rw (r, le-ltb n 8192 h, neat-sought s (pages_for n) k, claim-retold occupancy (pages_for n) s.segments)
    (let l = claim (pages_for n) s.segments in (direct-map s _ g l.looked l.chosen, direct-says s _ g l.looked l.chosen)))
    (λ r. rw r (refl, refl))))
    (λ u. rw u (refl, refl))))
    (λ t. rw t (refl, refl))

free-map : (s : State) (c g o : ℕ) → AllowedOn s g (Free o) → page_map (free g o s).after ≡ map_after c (page_map s) g (Free o)
free-map s k g o a = bool (group_ok g) (λ t. rw t (go t (block_at (page_map s) o) refl)) (λ t. rw t)
  where
    go : group_ok g ≡ true → (b : Option Block) → block_at (page_map s) o ≡ b → page_map (free_block g o s b).after ≡ map_free g o (page_map s) b
    go t none e = refl
    go t (some (whole n h)) e = bool (eqb h g) (λ u. rw u (release-retold occupancy o s.segments)) (λ u. rw u)
    go t (some (chunk c i h)) e = bool (eqb h g)
        (λ u. absurd (let r : is_refused (say_at k (page_map s) g (Free o)) ≡ true = ap is_refused (sym (free-says s k g o)) ∙ a c i h e in let f : false ≡ true = rw (t, e, u) at r in true-false f refl))
        (λ u. rw u)

pub call-map : (s : State) (c g : ℕ) (q : Operation) → Neat false (page_map s) → AllowedOn s g q → page_map (asked c g q s).after ≡ map_after c (page_map s) g q
call-map s c g (Allocate n) h a = (allocate-both s c g n h a).0
call-map s c g (Free o) h a = free-map s c g o a
call-map s c g Reset h a = absurd a

pub call-says : (s : State) (c g : ℕ) (q : Operation) → Neat false (page_map s) → AllowedOn s g q → (asked c g q s).answer ≡ say_at c (page_map s) g q
call-says s c g (Allocate n) h a = (allocate-both s c g n h a).1
call-says s c g (Free o) h a = free-says s c g o
call-says s c g Reset h a = absurd a

-- What is allowed depends on the page map alone.
pub allowed_same : (s t : State) (g : ℕ) (q : Operation) → page_map s ≡ page_map t → AllowedOn s g q → AllowedOn t g q
allowed_same s t g (Allocate n) e a = a
allowed_same s t g (Free o) e a = λ c i h b. cc (free-says t 0 g o, free-says s 0 g o, a c i h (ap (λ m. block_at m o) e ∙ b))
allowed_same s t g Reset e a = a

-- A trimmed page map stays one ----------------------------------------------------------------------------------------------------

pub call-neat : (s : State) (c g : ℕ) (q : Operation) → Neat false (page_map s) → AllowedOn s g q → Neat false (page_map (asked c g q s).after)
call-neat s k g q h a = rw (call-map s k g q h a) (go q a)
  where
    m : PageMap
    m = page_map s

    direct-neat : (n : ℕ) → 8192 ≤ n → (r : Option FreeRun) → (claim (pages_for n) m).chosen ≡ r → Neat false (map_direct (pages_for n) g m r)
    direct-neat n k none e = h
    direct-neat n k (some r) e = carve-neat r.size _ g (omega arith) false _ m (claim-found _ m r (omega arith) e).0 h

    free-neat : (o : ℕ) (b : Option Block) → Neat false (map_free g o m b)
    free-neat o none = h
    free-neat o (some (whole n j)) = either (Neat false) (eqb j g) _ _ (λ u. release-neat o m h) (λ u. h)
    free-neat o (some (chunk c i j)) = h

    go : (q : Operation) → AllowedOn s g q → Neat false (map_after k m g q)
    go (Allocate n) l = either (Neat false) (group_ok g) _ _
        (λ t. either (Neat false) (size_ok n) _ _
        (λ u. either (Neat false) (within k g n m) _ _ (λ r. direct-neat n l (claim (pages_for n) m).chosen refl) (λ r. h))
        (λ u. h))
        (λ t. h)
    go (Free o) l = either (Neat false) (group_ok g) _ _ (λ t. free-neat o (block_at m o)) (λ t. h)
    go Reset l = absurd l

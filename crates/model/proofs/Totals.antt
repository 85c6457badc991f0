-- Every call keeps the arena's pages: it covers as many after as before. Assumes nothing.
use Prim.Native.Nat.{ℕ}
use mathlib.Core.Path.{◌≡◌, refl, sym, ◌∙◌, ap}
use mathlib.Core.Option.{Option, none, some}
use mathlib.Core.Bool.{Bool, true, false}
use native.Mathlib.Omega.{arith}
use lib.Dec.{leb, eqb}
use lib.ListN.{length}
use Rattle.model.specs.Numbers.{most_group}
use Rattle.model.specs.declared.Operation.{Operation}
use Rattle.model.specs.declared.Operation.TheVariants.{Allocate, Free, Reset}
use Rattle.model.specs.declared.Answer.{Answer}
use Rattle.model.specs.Arena.{total}
use Rattle.model.specs.State.{State}
use Rattle.model.specs.Holdings.{Account, ceiling_of}
use Rattle.model.specs.PageMap.{occupancy, page_map, idle_zone, Block, group_of, block_at}
use Rattle.model.specs.Valid.{Valid}
use Rattle.model.specs.Calls.{Action, group, trim, query, listing, holdings, ceiling, Outcome, provided, group_ok}
use Rattle.model.specs.Allocate.{allocate}
use Rattle.model.specs.Free.{freed, free_block, free, freed_all, offsets_of}
use Rattle.model.specs.Listing.{listing_text}
use Rattle.model.specs.Perform.{asked, serve}
use Rattle.model.proofs.Arena.{total-retold}
use Rattle.model.proofs.Joins.{total-joined}
use Rattle.model.proofs.Ceilings.{setting_same}
use Rattle.model.proofs.Allocated.{Allocated, gives, denies, allocated}
use Rattle.model.proofs.Freed.{freed-only}
use Rattle.model.proofs.Reset.{freed_all-blocks}

-- The state t has as many pages as s.
abbrev Same : State → State → Type 0
Same s t = total t.segments ≡ total s.segments

-- The page map has the state's pages.
map_same : (s t : State) → total (page_map t) ≡ total (page_map s) → Same s t
map_same s t e = sym (total-retold occupancy t.segments) ∙ e ∙ total-retold occupancy s.segments

guarded : (b : Bool) (k : Answer) (s : State) (r : Outcome State) → Same s r.after → Same s (provided b k s r).after
guarded true k s r h = h
guarded false k s r h = refl

allocate-total : (s : State) → Valid s → (c g n : ℕ) → Same s (allocate c g n s).after
allocate-total s h c g n = go (allocated s h c g n)
  where
    go : {r : ℕ} → Allocated s g r (allocate c g n s) → Same s (allocate c g n s).after
    go (gives o k b ans fresh grp rm only) = map_same s (allocate c g n s).after only.2
    go (denies r k ans st) = cc

free-total : (s : State) (g o : ℕ) → Same s (free g o s).after
free-total s g o = guarded (group_ok g) _ s _ (go (block_at (page_map s) o) refl)
  where
    go : (b : Option Block) → block_at (page_map s) o ≡ b → Same s (free_block g o s b).after
    go none e = refl
    go (some b) e = guarded (eqb (group_of b) g) _ s _ (map_same s (freed o b s) (freed-only s o b e).2)

asked-total : (s : State) → Valid s → (c g : ℕ) (q : Operation) → Same s (asked c g q s).after
asked-total s h c g (Allocate n) = allocate-total s h c g n
asked-total s h c g (Free o) = free-total s g o
asked-total s h c g Reset = guarded (group_ok g) _ s _ (map_same s (freed_all (offsets_of g s) s) (freed_all-blocks (offsets_of g s) s).1)

pub serve-total : (x : Account) → Valid x.state → (a : Action) → total (serve x a).after.state.segments ≡ total x.state.segments
serve-total x h (group c) = asked-total x.state h (ceiling_of x c.group) c.group c.operation
serve-total x h trim = total-joined idle_zone 0 x.state.segments ∙ omega arith
serve-total x h (query o) = refl
serve-total x h (listing n) = guarded (leb (length (listing_text (page_map x.state))) n) _ x.state _ refl
serve-total x h (holdings n) = guarded (eqb n most_group) _ x.state _ refl
serve-total x h (ceiling g c) = ap (λ s. total s.segments) (setting_same g c x)

-- How far a request looks: the count that its answer has, and no other call's; and that one search looks at no more runs than half of the
-- pages, rounded up, and a request at no more than twice that. Assumes nothing.
use Prim.Native.Nat.{ℕ, ◌*◌, ◌≤◌, ◌<◌}
use mathlib.Core.Path.{◌≡◌, refl, sym, ◌∙◌, ap}
use mathlib.Core.List.{List, [], ◌∷◌}
use mathlib.Core.Option.{Option, none, some}
use mathlib.Core.Bool.{Bool, true, false, cond, ◌&&◌}
use native.Mathlib.Omega.{arith}
use lib.Dec.{leb, eqb}
use lib.ListN.{length}
use Rattle.lemmas.proofs.Cases.{bool}
use Rattle.model.specs.Numbers.{most_group, most_bytes, most_pages}
use Rattle.model.specs.declared.Call.{Call}
use Rattle.model.specs.declared.Operation.{Operation}
use Rattle.model.specs.declared.Operation.TheVariants.{Allocate, Free, Reset}
use Rattle.model.specs.declared.Refusal.{Refusal}
use Rattle.model.specs.declared.Refusal.TheVariants.{NoState}
use Rattle.model.specs.Arena.{Segment, run, direct, zone, pages, total, Each}
use Rattle.model.specs.Zone.{Zone}
use Rattle.model.specs.State.{State}
use Rattle.model.specs.Holdings.{Account, ceiling_of}
use Rattle.model.specs.PageMap.{page_map, idle_zone, Block, group_of, block_at}
use Rattle.model.specs.Pages.{FreeRun, claim, most_looked}
use Rattle.model.specs.Valid.{Apart, ValidSegment, Valid}
use Rattle.model.specs.Trim.{trimmed, described}
use Rattle.model.specs.Free.{free_block, free}
use Rattle.model.specs.Listing.{listing_text}
use Rattle.model.specs.Perform.{asked, serve, Metadata, all_words, on_account, perform}
use Rattle.model.specs.Calls.{Action, group, trim, query, listing, holdings, ceiling, Command, init, act, looked_of, told_by, refusal_of, group_ok, size_ok}
use Rattle.model.specs.Ceilings.{within}
use Rattle.model.specs.Allocate.{Source, searched, sought, supplied, needed, looks_for, allocate}
use Rattle.model.proofs.Claim.{claim-bounded}
use Rattle.model.proofs.Joins.{total-joined}
use Rattle.model.proofs.Sought.{sought-first, sought-second}
use Rattle.model.proofs.Supplied.{told, Supply, at-hand, from-runs, supply}
use Rattle.model.proofs.ValidTrim.{trimmed-valid}

-- The count --------------------------------------------------------------------------------------------------------------

module _ (s : State) where
  supplied-counted : (g n : ℕ) → looked_of (supplied g n s).answer ≡ some (looks_for (needed n s) s)
  supplied-counted g n = go (supply s g n)
    where
      both : (k : ℕ) (o : Option Source) → looked_of (told k o) ≡ some k
      both k none = refl
      both k (some f) = refl

      go : Supply s (needed n s) (supplied g n s).answer → looked_of (supplied g n s).answer ≡ some (looks_for (needed n s) s)
      go (at-hand q e a) = ap looked_of a ∙ ap (λ o. some (looks_for o s)) (sym e)
      go (from-runs k e pos a) = ap looked_of a ∙ both (sought k s).looked (sought k s).chosen ∙ ap (λ o. some (looks_for o s)) (sym e)

  -- Every answer to a request has a count: that of the searches for the pages that it needs; 0 where it needs none, where its group or
  -- size is not legal, and where it would pass the ceiling.
  pub counted : (c g n : ℕ) → looked_of (allocate c g n s).answer ≡ some (cond (group_ok g && size_ok n && within c g n (page_map s)) (looks_for (needed n s) s) 0)
  counted c g n = bool (group_ok g)
      (λ t. bool (size_ok n)
      (λ u. bool (within c g n (page_map s)) (λ r. rw (t, u, r) (supplied-counted g n)) (λ r. rw (t, u, r)))
      (λ u. rw (t, u)))
      (λ t. rw t)

-- Nothing else has one -------------------------------------------------------------------------------------------------

-- A call that is no request.
abbrev pub NoRequest : Command → Type 0
NoRequest c = (g n : ℕ) → c ≡ act (group (record { group = g; operation = Allocate n })) → ⊥

module _ (s : State) where
  free-uncounted : (g o : ℕ) → looked_of (free g o s).answer ≡ none
  free-uncounted g o = bool (group_ok g) (λ t. rw t (go (block_at (page_map s) o))) (λ t. rw t)
    where
      go : (b : Option Block) → looked_of (free_block g o s b).answer ≡ none
      go none = refl
      go (some b) = bool (eqb (group_of b) g) (λ t. rw t) (λ t. rw t)

  query-uncounted : (b : Option Block) → looked_of (described b) ≡ none
  query-uncounted none = refl
  query-uncounted (some b) = refl

  asked-uncounted : (b : ℕ) (c : Call) (q : Operation) → c.operation ≡ q → NoRequest (act (group c)) → looked_of (asked b c.group q s).answer ≡ none
  asked-uncounted b c (Allocate n) e f = absurd (f c.group n (λ i. act (group (record { group = c.group; operation = e i }))))
  asked-uncounted b c (Free o) e f = free-uncounted c.group o
  asked-uncounted b c Reset e f = bool (group_ok c.group) (λ t. rw t) (λ t. rw t)

serve-uncounted : (x : Account) (a : Action) → NoRequest (act a) → looked_of (serve x a).answer ≡ none
serve-uncounted x (group c) f = asked-uncounted x.state (ceiling_of x c.group) c c.operation refl f
serve-uncounted x trim f = refl
serve-uncounted x (query o) f = query-uncounted x.state (block_at (page_map x.state) o)
serve-uncounted x (listing n) f = bool (leb (length (listing_text (page_map x.state))) n) (λ t. rw t) (λ t. rw t)
serve-uncounted x (holdings n) f = bool (eqb n most_group) (λ t. rw t) (λ t. rw t)
serve-uncounted x (ceiling g c) f = bool (group_ok g) (λ t. bool (leb c most_bytes) (λ u. rw (t, u)) (λ u. rw (t, u))) (λ t. rw t)

refusal-uncounted : (a : Action) (k : Refusal) → NoRequest (act a) → looked_of (refusal_of a k) ≡ none
refusal-uncounted (group c) k f = go c.operation refl
  where
    go : (q : Operation) → c.operation ≡ q → looked_of (told_by q k) ≡ none
    go (Allocate n) e = absurd (f c.group n (λ i. act (group (record { group = c.group; operation = e i }))))
    go (Free o) e = refl
    go Reset e = refl
refusal-uncounted trim k f = refl
refusal-uncounted (query o) k f = refl
refusal-uncounted (listing n) k f = refl
refusal-uncounted (holdings n) k f = refl
refusal-uncounted (ceiling g c) k f = refl

pub uncounted : (m : Metadata) (c : Command) → NoRequest c → looked_of (perform m c).answer ≡ none
uncounted m (init n) f = bool (leb 1 n && leb n most_pages) (λ t. bool (leb (all_words n) m.words) (λ u. rw (t, u)) (λ u. rw (t, u))) (λ t. rw t)
uncounted m (act a) f = go m.account
  where
    go : (x : Option Account) → looked_of (on_account m a x).answer ≡ none
    go none = refusal-uncounted a NoState f
    go (some b) = serve-uncounted b a f

-- The bounds -------------------------------------------------------------------------------------------------------------

sized : (b : Bool) (m : List (Segment Zone)) → Apart b m → Each ValidSegment m → Each (λ x. 0 < pages x) m
sized b [] a v = tt
sized b (run n ∷ r) a v = (a.1, sized true r a.2 v.1)
sized b (direct n g ∷ r) a v = (v.0.0, sized false r a v.1)
sized b (zone z ∷ r) a v = (omega arith, sized false r a v.1)

module _ (s : State) (v : Valid s) where
  -- One search.
  pub search-bounded : (n : ℕ) → (searched n s).looked ≤ most_looked (total s.segments)
  search-bounded n = claim-bounded n s.segments (v.apart, sized false s.segments v.apart v.sound)

module _ (s : State) (v : Valid s) where
  -- The second one goes through as many pages.
  pub second-bounded : (n : ℕ) → (searched n (trimmed s)).looked ≤ most_looked (total s.segments)
  second-bounded n = omega (arith, search-bounded (trimmed s) (trimmed-valid s v) n, total-joined idle_zone 0 s.segments)

  -- Both.
  pub sought-bounded : (n : ℕ) → (sought n s).looked ≤ 2 * most_looked (total s.segments)
  sought-bounded n = go (claim n s.segments).chosen refl
    where
      go : (h : Option FreeRun) → (claim n s.segments).chosen ≡ h → (sought n s).looked ≤ 2 * most_looked (total s.segments)
      go none c = omega (arith, ap (λ l. l.looked) (sought-second n s c), search-bounded s v n, second-bounded n)
      go (some h) c = omega (arith, ap (λ l. l.looked) (sought-first n s h c), search-bounded s v n)

  looks-bounded : (o : Option ℕ) → looks_for o s ≤ 2 * most_looked (total s.segments)
  looks-bounded none = omega arith
  looks-bounded (some k) = sought-bounded k

  -- A request.
  pub request-bounded : (c g n : ℕ) → (k : ℕ) × (looked_of (allocate c g n s).answer ≡ some k) × (k ≤ 2 * most_looked (total s.segments))
  request-bounded c g n =
      let t = group_ok g && size_ok n && within c g n (page_map s) in
      (cond t (looks_for (needed n s) s) 0, counted s c g n, bool t (λ e. rw e (looks-bounded (needed n s))) (λ e. rw e (omega arith)))

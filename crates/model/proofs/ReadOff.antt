-- How far a request looks, read off two listings: of the state as it is, and of what trim would leave. The count is the number of the line
-- that tells the run which is taken, or that of all lines. Assumes nothing.
use Prim.Native.Nat.{ℕ, ◌+◌, ◌*◌}
use mathlib.Core.Path.{◌≡◌, refl, sym, ◌∙◌, ap, subst}
use mathlib.Core.List.{List}
use mathlib.Core.Option.{Option, none, some, map}
use mathlib.Core.Bool.{true}
use lib.ListN.{length}
use Rattle.lemmas.proofs.Cases.{some_inj, none-some}
use Rattle.model.specs.Numbers.{page_bytes}
use Rattle.model.specs.declared.Refusal.TheVariants.{NoRoom}
use Rattle.model.specs.declared.Answer.{Answer}
use Rattle.model.specs.declared.Answer.TheVariants.{Granted, Denied}
use Rattle.model.specs.State.{State}
use Rattle.model.specs.PageMap.{occupancy, page_map}
use Rattle.model.specs.Pages.{FreeRun, Search, claim}
use Rattle.model.specs.Trim.{trimmed}
use Rattle.model.specs.Listing.{run_lines}
use Rattle.model.specs.Calls.{group_ok, size_ok}
use Rattle.model.specs.Ceilings.{within}
use Rattle.model.specs.Allocate.{Source, found_in, sought, supplied, needed, allocate}
use Rattle.model.proofs.Claim.{TooShort, FirstLine, claim-line, claim-all, claim-retold}
use Rattle.model.proofs.Sought.{sought-first, sought-second}
use Rattle.model.proofs.Supplied.{told, Supply, at-hand, from-runs, supply, accepted}

-- The lines of a state's listing that tell its runs.
abbrev pub runs_of : State → List (List ℕ)
runs_of s = run_lines 0 (page_map s)

state-line : (n : ℕ) (s : State) (h : FreeRun) → (claim n s.segments).chosen ≡ some h → FirstLine n (runs_of s) h (claim n s.segments).looked
state-line n s h e =
    let q = claim-retold occupancy n s.segments in
    subst (λ l. FirstLine n (runs_of s) h l.looked) q (claim-line n (page_map s) h (ap (λ l. l.chosen) q ∙ e))

pub state-all : (n : ℕ) (s : State) → (claim n s.segments).chosen ≡ none → ((claim n s.segments).looked ≡ length (runs_of s)) × TooShort n (runs_of s)
state-all n s e =
    let q = claim-retold occupancy n s.segments in
    subst (λ l. (l.looked ≡ length (runs_of s)) × TooShort n (runs_of s)) q (claim-all n (page_map s) (ap (λ l. l.chosen) q ∙ e))

-- The answer to a request that needs k pages, by the lines of two listings: of the state as it is, and of what trim would leave. The
-- first line that tells k pages or more is that of the run whose pages are granted, and the count goes up to that line, the first
-- listing's lines before the second's; where there is none, all lines of both are counted.
pub data ReadOff (s : State) (k : ℕ) (a : Answer) : Type 0 where
  first : (h : FreeRun) (j : ℕ) → FirstLine k (runs_of s) h j → a ≡ Granted (h.page * page_bytes) j → ReadOff s k a
  second : TooShort k (runs_of s) → (h : FreeRun) (j : ℕ) → FirstLine k (runs_of (trimmed s)) h j
      → a ≡ Granted (h.page * page_bytes) (length (runs_of s) + j) → ReadOff s k a
  neither : TooShort k (runs_of s) → TooShort k (runs_of (trimmed s))
      → a ≡ Denied NoRoom (length (runs_of s) + length (runs_of (trimmed s))) → ReadOff s k a

module _ (s : State) (k : ℕ) where
  abbrev answered : Search Source → Answer
  answered l = told l.looked l.chosen

  -- Behind a search that failed, where the second one has chosen as told.
  abbrev after : Option FreeRun → Answer
  after o = told ((claim k s.segments).looked + (claim k (trimmed s).segments).looked) (map (found_in (trimmed s)) o)

  again-read : (claim k s.segments).chosen ≡ none → (h : Option FreeRun) → (claim k (trimmed s).segments).chosen ≡ h → ReadOff s k (answered (sought k s))
  again-read c none d =
      let one = state-all k s c in
      let two = state-all k (trimmed s) d in
      neither one.1 two.1 (ap answered (sought-second k s c) ∙ ap after d ∙ (λ i. Denied NoRoom (one.0 i + two.0 i)))
  again-read c (some h) d =
      let one = state-all k s c in
      let j = (claim k (trimmed s).segments).looked in
      second one.1 h j (state-line k (trimmed s) h d)
      (ap answered (sought-second k s c) ∙ ap after d ∙ ap (λ i. Granted (h.page * page_bytes) (i + j)) one.0)

  sought-read : ReadOff s k (answered (sought k s))
  sought-read = go (claim k s.segments).chosen refl
    where
      go : (h : Option FreeRun) → (claim k s.segments).chosen ≡ h → ReadOff s k (answered (sought k s))
      go none c = again-read c (claim k (trimmed s).segments).chosen refl
      go (some h) c = first h (claim k s.segments).looked (state-line k s h c) (ap answered (sought-first k s h c))

pub read_off : (s : State) (c g n k : ℕ) → group_ok g ≡ true → size_ok n ≡ true → within c g n (page_map s) ≡ true → needed n s ≡ some k → ReadOff s k (allocate c g n s).answer
read_off s c g n k t u r e = go (supply s g n)
  where
    go : Supply s (needed n s) (supplied g n s).answer → ReadOff s k (allocate c g n s).answer
    go (at-hand q f a) = none-some (sym f ∙ e)
    go (from-runs j f pos a) = subst (ReadOff s k) (sym (accepted s c g n t u r ∙ a)) (subst (λ i. ReadOff s i (answered s j (sought j s))) (some_inj (sym f ∙ e)) (sought-read s j))

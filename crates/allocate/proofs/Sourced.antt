-- The two searches for pages on words: what each way through them finds, and what a caller then has. Assumes nothing.
use Prim.Native.Nat.{ℕ, ◌+◌, ◌*◌, ◌≤◌}
use mathlib.Core.Path.{◌≡◌, refl, sym, ap, ◌∙◌, subst}
use mathlib.Core.List.{List}
use mathlib.Core.Option as maybe
use mathlib.Core.Option.{none, some, map}
use mathlib.Core.Bool.{true, false}
use native.Mathlib.Omega.{arith}
use Rattle.std.specs.Prelude.{Some, None}
use Rattle.std.specs.Option.{is_some}
use Rattle.std.proofs.lemmas.Option.{none-some, same_Some}
use Rattle.lemmas.proofs.Cases.{true-false}
use Rattle.model.specs.Numbers.{most_pages}
use Rattle.model.specs.Arena.{total}
use Rattle.model.specs.State.{State}
use Rattle.model.specs.PageMap.{idle_zone}
use Rattle.model.specs.Pages.{FreeRun, Search, onward, claim}
use Rattle.model.specs.Trim.{trimmed}
use Rattle.model.specs.Valid.{Valid}
use Rattle.model.specs.Allocate.{Source, found_in, searched, sought}
use Rattle.model.proofs.Joins.{total-joined}
use Rattle.model.proofs.Sought.{sought-first, sought-second, sought-from}
use Rattle.model.proofs.ValidTrim.{trimmed-valid}
use Rattle.model.proofs.Looked.{search-bounded, second-bounded}
use Rattle.pages.specs.declared.Choice.{Choice}
use Rattle.pages.specs.declared.Run.{Run}
use Rattle.pages.specs.Places.{found, choice_of, choice}
use Rattle.metadata.specs.Encoding.{encode}
use Rattle.metadata.specs.Decoding.{decode}
use Rattle.steps.specs.Lent.{Good}
use Rattle.steps.proofs.Kept.{good_of, good-decoded}
use Rattle.allocate.specs.Finds.{run_of, left_by, Finds}
use Rattle.allocate.proofs.Found.{found-none}

-- What finds by one result finds by another that is the same.
as-found : (s : State) {l l' : Search Source} {r : Choice} {w : List ℕ} → l ≡ l' → Finds s l' r w → Finds s l r w
as-found s {r} {w} e k = subst (λ l. Finds s l r w) (sym e) k

module _ {w : List ℕ} {n : ℕ} (h : Good w n) (need : ℕ) where
  abbrev s : State
  s = decode w

  -- A run suffices as the words are.
  pub first_run : {r : Choice} → r ≡ choice (claim need s.segments) → is_some r.run ≡ true → Finds s (sought need s) r w
  first_run {r} is told = go (claim need s.segments).chosen refl
    where
      go : (o : maybe.Option FreeRun) → (claim need s.segments).chosen ≡ o → Finds s (sought need s) r w
      go none q = true-false told (ap (λ c. is_some c.run) is ∙ ap (λ o. is_some (found o)) q)
      go (some f) q = as-found s (sought-first need s f q) (is ∙ ap (choice_of (claim need s.segments).looked) q, h.lent.words)

  -- None does: the second search decides, after b runs.
  module _ {b : ℕ} (miss : choice (claim need s.segments) ≡ record { run = None; looked = b }) where
    first : ((claim need s.segments).chosen ≡ none) × ((claim need s.segments).looked ≡ b)
    first = (found-none (claim need s.segments).chosen (ap (λ c. c.run) miss), ap (λ c. c.looked) miss)

    second : sought need s ≡ onward b (searched need (trimmed s))
    second = sought-second need s first.0 ∙ ap (λ k. onward k (searched need (trimmed s))) first.1

    module _ {r : Choice} (is : r ≡ choice (claim need (trimmed s).segments)) where
      -- Few enough are looked at to be added.
      pub few-looked : b + r.looked ≤ 2 * most_pages
      few-looked = omega (arith, first.1, ap (λ c. c.looked) is, search-bounded s h.valid need, second-bounded s h.valid need, h.valid.most)

      -- The runs of both are counted.
      abbrev both : Choice
      both = record { run = r.run; looked = b + r.looked }

      both-found : (o : maybe.Option FreeRun) → (claim need (trimmed s).segments).chosen ≡ o → {v : List ℕ} → v ≡ encode (left_by s (map (found_in (trimmed s)) o)) → Finds s (sought need s) both v
      both-found o q e =
          let rule = second ∙ ap (λ x. record { chosen = map (found_in (trimmed s)) x; looked = b + (claim need (trimmed s).segments).looked }) q in
          as-found s rule (go o (ap (λ c. record { run = c.run; looked = b + c.looked }) is ∙ ap (choice_of (b + (claim need (trimmed s).segments).looked)) q), e)
        where
          go : (x : maybe.Option FreeRun) {k : ℕ} → both ≡ choice_of k x → both ≡ choice_of k (run_of (map (found_in (trimmed s)) x))
          go none g = g
          go (some f) g = g

      -- None would suffice, even after trim.
      pub none-fits : is_some r.run ≡ false → Finds s (sought need s) both w
      none-fits told = go (claim need (trimmed s).segments).chosen refl
        where
          go : (o : maybe.Option FreeRun) → (claim need (trimmed s).segments).chosen ≡ o → Finds s (sought need s) both w
          go none q = both-found none q h.lent.words
          go (some f) q = true-false (ap (λ c. is_some c.run) is ∙ ap (λ o. is_some (found o)) q) told

      -- One does after trim.
      pub second_run : is_some r.run ≡ true → {v : List ℕ} → v ≡ encode (trimmed s) → Finds s (sought need s) both v
      second_run told {v} e = go (claim need (trimmed s).segments).chosen refl
        where
          go : (o : maybe.Option FreeRun) → (claim need (trimmed s).segments).chosen ≡ o → Finds s (sought need s) both v
          go none q = true-false told (ap (λ c. is_some c.run) is ∙ ap (λ o. is_some (found o)) q)
          go (some f) q = both-found (some f) q e

  -- A run was found: it stands in a valid state, whose words these are.
  pub record Sourced (v : List ℕ) (p k j : ℕ) : Type 0 where
    pub source : Source
    pub is : sought need s ≡ record { chosen = some source; looked = j }
    pub free : source.free ≡ record { page = p; size = k }
    pub good : Good v n
    pub decoded : decode v ≡ source.state
    pub claimed : (claim need (decode v).segments).chosen ≡ some (record { page = p; size = k })

  pub sourced : {v : List ℕ} {r : Choice} {f : Run} → r.run ≡ Some f → Finds s (sought need s) r v → Sourced v f.at f.len r.looked
  sourced {v} {r} {f} told e = go (sought need s).chosen refl
    where
      go : (o : maybe.Option Source) → (sought need s).chosen ≡ o → Sourced v f.at f.len r.looked
      go none q = absurd (none-some f (sym (ap (λ c. c.run) e.0 ∙ ap (λ o. found (run_of o)) q) ∙ told))
      go (some g) q =
          let left : v ≡ encode g.state = e.1 ∙ ap (λ o. encode (left_by s o)) q in
          let from = sought-from need s g q in
          let ok : Valid g.state × (n ≡ total g.state.segments) = from.either (λ u. Valid u × (n ≡ total u.segments)) (h.valid, h.pages) (trimmed-valid s h.valid, h.pages ∙ omega (arith, total-joined idle_zone 0 s.segments)) in
          let k : record { at = g.free.page; len = g.free.size } ≡ f = same_Some (record { at = g.free.page; len = g.free.size }) f (sym (ap (λ c. c.run) e.0 ∙ ap (λ o. found (run_of o)) q) ∙ told) in
          let same : g.free ≡ record { page = f.at; size = f.len } = λ i. record { page = (k i).at; size = (k i).len } in
          let at : decode v ≡ g.state = good-decoded v g.state ok.0 left in
          record {
            source = g;
            is = λ i. record { chosen = q i; looked = (sym e.0 i).looked };
            free = same;
            good = good_of v g.state n ok.0 left ok.1;
            decoded = at;
            claimed = ap (λ u. (claim need u.segments).chosen) at ∙ from.claimed ∙ ap some same;
          }

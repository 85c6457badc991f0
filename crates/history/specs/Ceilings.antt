-- What is claimed of ceilings over whole lists of calls (document 02, e), told from the calls and their answers: that the words have those
-- ceilings; that no group ever holds more than its ceiling, if that is not lowered below what it holds; and demand 3 with document 02's
-- own hypothesis, which is more than it needs. Assumes nothing.
use Rattle.std.specs.Prelude.{ℕ, suc, ◌≤◌, ◌<◌, ◌≡◌, ◌⊎◌, List, [], ◌∷◌, true, false}
use Rattle.std.proofs.Math.Option.{some}
use Rattle.model.specs.Numbers.{most_group}
use Rattle.model.specs.declared.Answer.{Answer}
use Rattle.model.specs.Holdings.{Account, ceiling_at}
use Rattle.model.specs.Calls.{Action, group, trim, query, listing, holdings, ceiling, Command, init, act, is_refused}
use Rattle.model.specs.Perform.{Metadata}
use Rattle.history.specs.Demand.{History, after, after_all, begun, NoStart, SameCeilings, Claim}
use Rattle.history.specs.Holdings.{bytes_held}

module _ (B : Type 0) (view : B → Metadata) (next : B → Command → B) (says : B → Command → Answer) where
  abbrev Past : Type 0
  Past = History B view next says

  -- After a start that is not refused, and any calls without a further start that is not refused, the words encode an account, and its
  -- ceilings are those that the calls and their answers tell.
  unfoldable pub CeilingsTold : Type 0
  CeilingsTold = (b : B) (n : ℕ) (calls : List Command) →
      let start : Past = begun B view next says b n in
      let end : Past = after_all B view next says start calls in
      is_refused (says b (init n)) ≡ false →
      NoStart B view next says start calls →
      (a : Account) × ((view end.lent).account ≡ some a) × ((i : ℕ) → i < most_group → ceiling_at a i ≡ end.ceiling (suc i))

  -- No call lowers the group's ceiling below what the group holds.
  abbrev pub NotBelow : ℕ → Past → List Command → Type 0
  NotBelow g w [] = Unit {0}
  NotBelow g w (c ∷ l) =
      let v : Past = after B view next says w c in
      (v.ceiling g < w.ceiling g → bytes_held g w.live ≤ v.ceiling g) × NotBelow g v l

  -- The group holds no more than its ceiling: here, and after each of the calls.
  abbrev pub EverWithin : ℕ → Past → List Command → Type 0
  EverWithin g w [] = bytes_held g w.live ≤ w.ceiling g
  EverWithin g w (c ∷ l) = (bytes_held g w.live ≤ w.ceiling g) × EverWithin g (after B view next says w c) l

  -- As long as a group's ceiling is not lowered below what it holds, its held bytes are never above it.
  unfoldable pub CeilingKept : Type 0
  CeilingKept = (b : B) (n : ℕ) (calls : List Command) (i : ℕ) →
      let start : Past = begun B view next says b n in
      i < most_group →
      is_refused (says b (init n)) ≡ false →
      NoStart B view next says start calls →
      NotBelow (suc i) start calls →
      EverWithin (suc i) start calls

  -- A call that changes no ceiling: a setting is refused, or sets what the ceiling is.
  abbrev pub Idle : Past → Action → Type 0
  Idle w (group c) = Unit {0}
  Idle w trim = Unit {0}
  Idle w (query o) = Unit {0}
  Idle w (listing n) = Unit {0}
  Idle w (holdings n) = Unit {0}
  Idle w (ceiling g c) = (is_refused (says w.lent (act (ceiling g c))) ≡ true) ⊎ (w.ceiling g ≡ c)

  abbrev pub NoneChanged : Past → List Command → Type 0
  NoneChanged w [] = Unit {0}
  NoneChanged w (init n ∷ l) = NoneChanged (after B view next says w (init n)) l
  NoneChanged w (act a ∷ l) = Idle w a × NoneChanged (after B view next says w (act a)) l

  -- Demand 3 in document 02's own words: what is supposed is that no ceiling changed in the stretch. (Nor in the sequence after it; but of
  -- that one nothing need be supposed.)
  unfoldable pub Demand3Asked : Type 0
  Demand3Asked = Claim B view next says NoneChanged

  -- That is more than `Demand3` supposes: such calls leave every ceiling as it was.
  unfoldable pub StretchCovered : Type 0
  StretchCovered = (w : Past) (stretch : List Command) →
      NoStart B view next says w stretch → NoneChanged w stretch → SameCeilings B view next says w (after_all B view next says w stretch)

-- The walk that searches the runs that trim would leave. Assumes nothing.
use Prim.Native.Nat.{ℕ, zero, suc, ◌+◌, ◌-◌, ◌≤◌, ◌<◌}
use mathlib.Core.Path.{◌≡◌, refl, sym, ap, ◌∙◌, subst}
use mathlib.Core.List.{List, [], ◌∷◌}
use mathlib.Core.Option.{Option, none, some}
use mathlib.Core.Bool.{true, false}
use native.Mathlib.Omega.{arith}
use native.Mathlib.Nat.{add-zero}
use lib.Dec.{leb}
use borrow.Author.Tests.{le-leb, lt-leb}
use Rattle.lemmas.proofs.Cases.{bool, clash, true-false}
use Rattle.model.specs.Numbers.{most_pages}
use Rattle.model.specs.Arena.{Segment, run, direct, zone, pages}
use Rattle.model.specs.Zone.{Zone}
use Rattle.model.specs.PageMap.{idle_zone}
use Rattle.model.specs.Pages.{FreeRun, Search, onward, followed, first_fit, claim, with_run, joined}
use Rattle.model.proofs.Claim.{onward-none, onward-more}
use Rattle.std.specs.Prelude.{Some, None}
use Rattle.std.specs.Option.{is_some}
use Rattle.pages.specs.declared.Kind.TheVariants as kind
use Rattle.pages.specs.declared.Choice.{Choice}
use Rattle.pages.specs.Decoding.{segments_of, Holds}
use Rattle.pages.specs.Places.{kind_in, found, choice_of, choice, run_pages, is_clear}
use Rattle.pages.proofs.Walk.{passed-total, Walk, walk_start, Next, next, past, at-it, walk_end}

-- By its kind.
pub clear-run : (x : Segment Zone) → kind_in x ≡ kind.Run → true ≡ is_clear x
clear-run (run n) e = refl
clear-run (direct n g) e = clash (cc)
clear-run (zone z) e = clash (cc)

pub clear-no : (x : Segment Zone) → kind_in x ≡ kind.Direct → false ≡ is_clear x
clear-no (run n) e = clash (cc)
clear-no (direct n g) e = refl
clear-no (zone z) e = clash (cc)

-- What trim would leave of the segments l, which begin at page p behind a free pages, is searched for `need` pages after k runs.
abbrev pub rests : ℕ → ℕ × ℕ → ℕ → ℕ → List (Segment Zone) → Choice
rests need c b p l = choice (onward c.1 (first_fit (p - c.0) need (joined idle_zone c.0 l)))

-- The search of a run of a pages alone: what `look_at` answers.
abbrev pub ended : ℕ → ℕ → ℕ → Search FreeRun
ended q need a = first_fit q need (with_run {Z = Zone} a [])

ended-few : (q need a : ℕ) → (ended q need a).looked ≤ a
ended-few q need zero = omega arith
ended-few q need (suc a) = bool (leb need (suc a)) (λ t. rw t (omega arith)) (λ t. rw t (omega arith))

module _ (q need k : ℕ) where
  pub look_none : {a : ℕ} → a ≡ 0 → ◌≡◌ {A = Choice} (record { run = None; looked = k }) (choice (onward k (ended q need a)))
  look_none e = ap (λ j. record { run = None; looked = j }) (sym (add-zero k)) ∙ ap (λ a. choice (onward k (ended q need a))) (sym e)

  pub look-short : (a : ℕ) → (a ≡ 0 → ⊥) → a < need →
      ◌≡◌ {A = Choice} (record { run = None; looked = k + 1 }) (choice (onward k (ended q need a)))
  look-short zero f h = absurd (f refl)
  look-short (suc a) f h = rw (ended, lt-leb need (suc a) h)

  pub look-long : (a : ℕ) → (a ≡ 0 → ⊥) → need ≤ a →
      ◌≡◌ {A = Choice} (record { run = Some (record { at = q; len = a }); looked = k + 1 }) (choice (onward k (ended q need a)))
  look-long zero f h = absurd (f refl)
  look-long (suc a) f h = rw (ended, le-leb need (suc a) h)

-- What stands behind it is searched if it is too short.
ended-first : (q need a : ℕ) (l : List (Segment Zone)) → first_fit q need (with_run a l) ≡ followed (ended q need a).chosen (ended q need a).looked (first_fit (q + a) need l)
ended-first q need zero l = sym (onward-none (first_fit q need l)) ∙ ap (λ k. onward 0 (first_fit k need l)) (sym (add-zero q))
ended-first q need (suc a) l = bool (leb need (suc a)) (λ t. rw t) (λ t. rw t)

-- Pages that are free once trim has been there, ..
clear-more : (a : ℕ) (x : Segment Zone) (r : List (Segment Zone)) → is_clear x ≡ true → joined idle_zone a (x ∷ r) ≡ joined idle_zone (a + pages x) r
clear-more a (run n) r e = refl
clear-more a (direct n g) r e = true-false e refl
clear-more a (zone z) r e = rw e

-- .. and others, which no search chooses.
solid-more : (q need a : ℕ) (x : Segment Zone) (r : List (Segment Zone)) → is_clear x ≡ false
    → first_fit q need (joined idle_zone a (x ∷ r)) ≡ followed (ended q need a).chosen (ended q need a).looked (first_fit (q + a + pages x) need (joined idle_zone 0 r))
solid-more q need a (run n) r e = true-false refl e
solid-more q need a (direct n g) r e = ended-first q need a _
solid-more q need a (zone z) r e = rw e (ended-first q need a _)

-- At page p, with a free pages before it, after k runs.
pub record Trimming (need : ℕ) (w : List ℕ) (n : ℕ) (e : Choice) (a k p : ℕ) : Type 0 where
  pub behind : ℕ
  pub walk : Walk (rests need) w n e (a, k) behind p
  pub inside : k + a ≤ p

pub trim_start : {w : List ℕ} {n need : ℕ} → Holds w n → Trimming need w n (choice (claim need (joined idle_zone 0 (segments_of w)))) 0 0 0
unfolding claim
trim_start {w} {n} {need} h = record {
  behind = 0;
  walk = subst (λ e. Walk (rests need) w n e (0, 0) 0 0) (ap choice (onward-none (first_fit 0 need (joined idle_zone 0 (segments_of w))))) (walk_start (0, 0) h);
  inside = omega arith;
}

module _ {need : ℕ} {w : List ℕ} {n : ℕ} {e : Choice} {a k p : ℕ} (i : Trimming need w n e a k p) where
  module _ (h : p < n) where
    abbrev pub here : Next i.walk
    here = next i.walk h

    module _ (len : ℕ) (size : len ≡ pages here.x) where
      pub trim-clear : is_clear here.x ≡ true → Trimming need w n e (a + len) k (p + len)
      trim-clear c = record {
        behind = run_pages here.x;
        walk = rw size (past i.walk here (a + pages here.x, k)
            (ap (λ l. choice (onward k (first_fit (p - a) need l))) (clear-more a here.x here.rest c)
            ∙ ap (λ q. choice (onward k (first_fit q need (joined idle_zone (a + pages here.x) here.rest)))) (let q : p - a ≡ p + pages here.x - (a + pages here.x) = omega (arith, i.inside) in q)));
        inside = omega (arith, i.inside);
      }

      -- A run ends here, or none does.
      module _ (c : is_clear here.x ≡ false) where
        abbrev ending : Search FreeRun
        ending = ended (p - a) need a

        -- The search behind it.
        abbrev rest : Search FreeRun
        rest = first_fit (p + pages here.x) need (joined idle_zone 0 here.rest)

        whole : choice (onward k (followed ending.chosen ending.looked rest)) ≡ e
        whole =
            ap (λ q. choice (onward k (followed ending.chosen ending.looked (first_fit (q + pages here.x) need (joined idle_zone 0 here.rest))))) (let q : p ≡ p - a + a = omega (arith, i.inside) in q)
            ∙ ap (λ l. choice (onward k l)) (sym (solid-more (p - a) need a here.x here.rest c)) ∙ at-it i.walk here

        -- It is chosen, ..
        pub trim-hit : {f : Choice} → f ≡ choice (onward k ending) → is_some f.run ≡ true → f ≡ e
        trim-hit {f} is told = go ending.chosen refl
          where
            go : (o : Option FreeRun) → ending.chosen ≡ o → f ≡ e
            go none q = true-false told (ap (λ c. is_some c.run) is ∙ ap (λ r. is_some (found r)) q)
            go (some y) q = is ∙ ap (choice_of (k + ending.looked)) q ∙ ap (λ o. choice (onward k (followed o ending.looked rest))) (sym q) ∙ whole

        -- .. or the search goes on.
        pub trim-past : {f : Choice} → f ≡ choice (onward k ending) → is_some f.run ≡ false → Trimming need w n e 0 f.looked (p + len)
        trim-past {f} is told = go ending.chosen refl
          where
            j-is : f.looked ≡ k + ending.looked
            j-is = ap (λ c. c.looked) is

            go : (o : Option FreeRun) → ending.chosen ≡ o → Trimming need w n e 0 f.looked (p + len)
            go (some y) q = true-false (ap (λ c. is_some c.run) is ∙ ap (λ r. is_some (found r)) q) told
            go none q =
                rw size (record {
                  behind = run_pages here.x;
                  walk = past i.walk here (0, f.looked) (at-it i.walk here ∙ sym whole
                      ∙ ap (λ o. choice (onward k (followed o ending.looked rest))) q
                      ∙ ap choice (onward-more rest k ending.looked)
                      ∙ ap (λ m. choice (onward m rest)) (sym j-is)
                      ∙ ap (λ m. choice (onward f.looked (first_fit m need (joined idle_zone 0 here.rest)))) (let m : p + pages here.x ≡ p + pages here.x - 0 = omega arith in m));
                  inside = omega (arith, ended-few (p - a) need a, i.inside, j-is);
                })

  pub trim-inside : (a ≤ p) × (k ≤ most_pages)
  trim-inside = let h = i.walk.encodes in (omega (arith, i.inside), omega (arith, i.inside, passed-total i.walk.passed, h.covers, h.most))

  pub trim_end : n ≤ p → choice (onward k (ended (p - a) need a)) ≡ e
  trim_end h = walk_end i.walk h

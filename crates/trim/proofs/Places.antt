-- A zone between runs: where it stands, and what its pages become when they come back. Assumes nothing.
use Prim.Native.Nat.{ℕ, zero, suc, ◌+◌, ◌-◌, ◌*◌}
use mathlib.Core.Path.{◌≡◌, refl, sym, ap, ◌∙◌, subst}
use mathlib.Core.List.{List, [], ◌∷◌, ◌++◌, append_assoc, append-nil}
use mathlib.Core.Bool.{Bool, true, false}
use native.Mathlib.Omega.{arith}
use Rattle.model.specs.Numbers.{zone_pages, page_bytes}
use Rattle.model.specs.Arena.{Segment, run, direct, zone}
use Rattle.model.specs.Zone.{Zone}
use Rattle.model.specs.Valid.{Apart}
use Rattle.model.specs.Pages.{with_run, free_pages, joined, release}
use Rattle.model.proofs.Arena.{total-append}
use Rattle.model.proofs.Joins.{total-with_run, run-append}
use Rattle.model.proofs.Local.{ends_run, joined-local}
use Rattle.pages.specs.Places.{run_at_end, Stands}
use Rattle.pages.proofs.Walk.{run-at-end}
use Rattle.pages.proofs.Middle.{edit-stands}
use Rattle.pages.proofs.Given.{apart-front}
use Rattle.trim.specs.Between.{Between}

-- ---- a run of b pages at the end or in front of a list, none where b is 0

pub run-cons : (b : ℕ) (x : Segment Zone) (r : List (Segment Zone)) → with_run b (x ∷ r) ≡ with_run b (x ∷ []) ++ r
run-cons zero x r = refl
run-cons (suc b) x r = refl

pub run-then : (l : List (Segment Zone)) (b : ℕ) (r : List (Segment Zone)) → (l ++ with_run b []) ++ r ≡ l ++ with_run b r
run-then l b r = cc (append_assoc l (with_run b []) r, run-append b r)

pub run_ends : (l : List (Segment Zone)) (b : ℕ) → run_at_end 0 l ≡ 0 → run_at_end 0 (l ++ with_run b []) ≡ b
run_ends l zero h = cc (append-nil l)
run_ends l (suc b) h = run-at-end 0 l _

-- Runs have pages: where the run at the end has none, there is no run at the end.
no-run-ends : (c e : Bool) (k : ℕ) (l : List (Segment Zone)) → Apart c l → run_at_end k l ≡ 0 → (k ≡ 0 → e ≡ false) → ends_run e l ≡ false
no-run-ends c e k [] h q f = f q
no-run-ends c e k (run n ∷ r) h q f = no-run-ends true true n r h.2 q (λ z. absurd (omega arith))
no-run-ends c e k (direct n g ∷ r) h q f = no-run-ends false false 0 r h q (λ _. refl)
no-run-ends c e k (zone z ∷ r) h q f = no-run-ends false false 0 r h q (λ _. refl)

-- ---- the zone between them

module _ {m : List (Segment Zone)} {p b a : ℕ} {z : Zone} (t : Between m p b a z) where
  pub between-stands : Stands m p b (zone z)
  between-stands = record {
    before = t.before ++ with_run b [];
    behind = with_run a t.behind;
    whole = t.whole ∙ sym (run-then t.before b _);
    starts = omega (arith, total-append t.before (with_run b []), total-with_run {Z = Zone} b []);
    ends = run_ends t.before b t.no_run;
  }

  module _ (h : Apart false m) where
    front : Apart false t.before
    front = apart-front false t.before _ (subst (Apart false) t.whole h)

    pub between-released : release (p * page_bytes) m ≡ t.before ++ (run (b + zone_pages + a) ∷ t.behind)
    unfolding between-stands
    between-released =
        ap (joined (λ _. false) 0) (edit-stands between-stands free_pages (omega arith) ∙ run-then t.before b _)
        ∙ joined-local t.before t.behind b zone_pages a (omega arith) front (no-run-ends false false 0 t.before front t.no_run (λ _. refl)) t.apart

    -- The run that they become part of.
    pub between_run : Stands (release (p * page_bytes) m) (p - b) 0 (run (b + zone_pages + a))
    between_run = record {
      before = t.before;
      behind = t.behind;
      whole = between-released;
      starts = omega arith;
      ends = t.no_run;
    }

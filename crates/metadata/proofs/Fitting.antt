-- The walk over the segments that tests where zones stand. Assumes nothing.
use Prim.Native.Nat.{ℕ, ◌+◌, ◌≤◌, ◌<◌}
use mathlib.Core.Path.{◌≡◌, sym, subst}
use mathlib.Core.List.{List}
use mathlib.Core.Bool.{Bool, true, false}
use native.Mathlib.Omega.{arith}
use lib.Dec.{eqb}
use Rattle.model.specs.Numbers.{most_pages}
use Rattle.model.specs.Arena.{Segment, pages}
use Rattle.model.specs.Zone.{Zone}
use Rattle.pages.specs.Decoding.{segments_of, Holds}
use Rattle.pages.specs.Places.{run_pages}
use Rattle.pages.proofs.Walk.{Walk, Next, walk_start, next, past, at-it, walk_end}
use Rattle.metadata.specs.Lists.{segment_fits, is_open, fit_from}
use Rattle.metadata.proofs.Here.{open-most}

abbrev pub fitting : List ℕ → List (List ℕ) → ℕ → ℕ → ℕ → ℕ → List (Segment Zone) → Bool
fitting spare lists k a b p l = fit_from spare lists k a p l

-- At page p, with a zones so far that must stand on a list.
pub record Fitting (spare : List ℕ) (lists : List (List ℕ)) (k : ℕ) (w : List ℕ) (n a p : ℕ) : Type 0 where
  pub b : ℕ
  pub walk : Walk (fitting spare lists k) w n (fit_from spare lists k 0 0 (segments_of w)) a b p
  pub few : a ≤ p
  pub most : n ≤ most_pages

module _ {spare : List ℕ} {lists : List (List ℕ)} {k : ℕ} {w : List ℕ} {n : ℕ} where
  pub fit-start : Holds w n → Fitting spare lists k w n 0 0
  fit-start h = record { b = 0; walk = walk_start 0 h; few = omega arith; most = h.most }

  module _ {a p : ℕ} (i : Fitting spare lists k w n a p) where
    pub fit_next : p < n → Next i.walk
    fit_next h = next i.walk h

    pub fit-no : (h : p < n) → segment_fits spare lists p (fit_next h).x ≡ false → false ≡ fit_from spare lists k 0 0 (segments_of w)
    unfolding fit_from
    fit-no h f = cc (at-it i.walk (fit_next h))

    pub fit-more : (h : p < n) → segment_fits spare lists p (fit_next h).x ≡ true → (o len : ℕ) → o ≡ is_open (fit_next h).x → len ≡ pages (fit_next h).x → Fitting spare lists k w n (a + o) (p + len)
    unfolding fit_from
    fit-more h t o len eo el = subst (λ y. Fitting spare lists k w n (a + y) (p + len)) (sym eo) (rw el more)
      where
        more : Fitting spare lists k w n (a + is_open (fit_next h).x) (p + pages (fit_next h).x)
        more = record {
          b = run_pages (fit_next h).x;
          walk = past i.walk (fit_next h) _ (cc);
          few = omega (arith, open-most (fit_next h).x, (fit_next h).read.ok.0);
          most = i.most;
        }

    pub fit-end : n ≤ p → eqb a k ≡ fit_from spare lists k 0 0 (segments_of w)
    unfolding fit_from
    fit-end h = walk_end i.walk h

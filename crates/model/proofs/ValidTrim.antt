-- Trim keeps validity. Assumes nothing.
use Prim.Native.Nat.{ℕ, ◌*◌}
use mathlib.Core.Path.{◌≡◌, ◌∙◌, ap}
use mathlib.Core.Logic.{◌⊎◌, inl, inr}
use mathlib.Core.List.Memᴰ
use mathlib.Core.List.{List, [], Memᴰ}
use mathlib.Core.Bool.{Bool, true, false, not}
use native.Mathlib.Omega.{arith}
use lib.ListN.{length-map}
use borrow.Author.Tests.{not-true}
use Rattle.lemmas.specs.Keep.{keep}
use Rattle.lemmas.proofs.Cases.{true-false}
use Rattle.lemmas.proofs.Keep.{keep-in, keep-keeps}
use Rattle.lemmas.proofs.Distinct.{distinct-keep}
use Rattle.model.specs.Numbers.{page_bytes}
use Rattle.model.specs.Arena.{Segment}
use Rattle.model.specs.Zone.{Zone, full}
use Rattle.model.specs.State.{State, list_of, ZoneAt, zone_at}
use Rattle.model.specs.PageMap.{idle_zone}
use Rattle.model.specs.Valid.{ValidSegment, OpenAt, Valid}
use Rattle.model.specs.Pages.{joined}
use Rattle.model.specs.Trim.{trimmed}
use Rattle.model.proofs.Arena.{each-locate}
use Rattle.model.proofs.Joins.{not-freed, joined-begins, joined_back, joined-apart, each-joined, total-joined}
use Rattle.model.proofs.Moves.{one-zone}
use Rattle.model.proofs.Trimmed.{trimmed-list}

-- The test by which a list keeps its zones, where a zone stands.
busy-test : (m : List (Segment Zone)) (p : ℕ) (z : Zone) → ZoneAt m p z → not (idle_zone (zone_at p m)) ≡ not (idle_zone z)
busy-test m p z b = cc

pub trimmed-valid : (s : State) → Valid s → Valid (trimmed s)
unfolding keep
trimmed-valid s h = record {
  least = omega (arith, total-joined idle_zone 0 s.segments);
  most = omega (arith, total-joined idle_zone 0 s.segments);
  apart = joined-apart idle_zone 0 s.segments;
  sound = each-joined ValidSegment (λ _. tt) idle_zone 0 s.segments h.sound;
  classes = cc (length-map s.lists _);
  listed = λ c p i. stays c p (keep-in test _ (rw (lists-are c) at i));
  complete = λ p z b f. found p z (live p z b) (joined_back idle_zone s.segments (p * page_bytes) z (live p z b) b) f;
  few = omega arith;
  spared = λ p i. absurd (Memᴰ.not-nil i);
  once = λ c. rw (lists-are c) (distinct-keep test (list_of s c) (h.once c));
  once-spare = tt;
  not-both = λ c p i j. Memᴰ.not-nil j;
}
  where
    test : ℕ → Bool
    test p = not (idle_zone (zone_at p s.segments))

    lists-are : (c : ℕ) → list_of (trimmed s) c ≡ keep test (list_of s c)
    lists-are c = trimmed-list s c

    -- a zone that is left has a live chunk
    live : (p : ℕ) (z : Zone) → ZoneAt (joined idle_zone 0 s.segments) p z → idle_zone z ≡ false
    live p z b = each-locate _ (joined idle_zone 0 s.segments) (p * page_bytes) (not-freed idle_zone 0 s.segments) b

    stays : (c p : ℕ) → (test p ≡ true) × Memᴰ p (list_of s c) → OpenAt (joined idle_zone 0 s.segments) c p
    stays c p f =
        let w = h.listed c p f.1 in
        (w.0, joined-begins idle_zone s.segments (p * page_bytes) w.0 (not-true _ (cc (busy-test _ p w.0 w.1))) w.1, w.2, w.3)

    found : (p : ℕ) (z : Zone) → idle_zone z ≡ false → ZoneAt s.segments p z → full z ≡ false → Memᴰ p (list_of (trimmed s) z.class) ⊎ Memᴰ p []
    found p z n a f = go (h.complete p z a f)
      where
        go : Memᴰ p (list_of s z.class) ⊎ Memᴰ p s.spare → Memᴰ p (list_of (trimmed s) z.class) ⊎ Memᴰ p []
        go (inl x) = inl (rw (lists-are z.class) (keep-keeps test (busy-test s.segments p z a ∙ ap not n) x))
        go (inr x) = absurd (let w = h.spared p x in true-false w.2 (cc (one-zone s.segments (p * page_bytes) w.0 z w.1 a)))

-- The search by page finds the segment that holds a byte, as the model has it. Assumes nothing.
use Prim.Native.Nat.{ℕ, ◌+◌, ◌-◌, ◌*◌, ◌/◌, ◌≤◌}
use mathlib.Core.Path.{◌≡◌, refl, subst}
use mathlib.Core.List.{List, [], ◌∷◌}
use mathlib.Core.Option.{Option, none, some}
use native.Mathlib.Omega.{arith}
use lib.Dec.{ltb}
use borrow.Author.Tests.{ltb-true, ltb-false, lt-ltb, le-ltb}
use Rattle.lemmas.proofs.Cases.{bool}
use Rattle.model.specs.Numbers.{page_bytes}
use Rattle.model.specs.Arena.{Segment, pages, bytes, Place, locate}
use Rattle.model.specs.Zone.{Zone}
use Rattle.std.specs.Prelude as rust
use Rattle.pages.specs.declared.Spot.{Spot}
use Rattle.pages.specs.Places.{kind_in, run_pages, spot_from}

-- What the search finds is told by the place of the byte t of the arena: the kind and the pages of the segment that holds it, and the page
-- at which that begins, so many bytes before t; or nothing.
abbrev pub Tells : ℕ → Option (Place Zone) → rust.Option Spot → Type 0
Tells t none s = s ≡ rust.None
Tells t (some a) s = (p b : ℕ) × (s ≡ rust.Some (record { start = record { at = p; before = b }; kind = kind_in a.segment; len = pages a.segment })) × (p * page_bytes + a.away ≡ t)

past_bytes : (p k o : ℕ) → k * page_bytes ≤ o → (p + k + (o - k * page_bytes) / page_bytes ≡ p + o / page_bytes) × ((p + k) * page_bytes + (o - k * page_bytes) ≡ p * page_bytes + o)
past_bytes p k o h = (omega arith)

byte-from : (m : List (Segment Zone)) (o b p : ℕ) → Tells (p * page_bytes + o) (locate o m) (spot_from (p + o / page_bytes) b p m)
unfolding spot_from
byte-from [] o b p = refl
byte-from (x ∷ r) o b p = bool (ltb o (bytes x))
    (λ t. rw (t, lt-ltb (p + o / page_bytes) (p + pages x) (let h = ltb-true o (bytes x) t in omega arith)) (p, b, refl, refl))
    (λ f.
    let h : pages x * page_bytes ≤ o = ltb-false o (bytes x) f in
    rw (f, le-ltb (p + o / page_bytes) (p + pages x) (omega arith)) (
    subst (λ t. Tells t (locate (o - bytes x) r) (spot_from (p + o / page_bytes) (run_pages x) (p + pages x) r)) (past_bytes p (pages x) o h).1 (
    rw (past_bytes p (pages x) o h).0 at (
    byte-from r (o - bytes x) (run_pages x) (p + pages x)))))

-- `find_segment`, asked for the page of a byte, answers with the segment that holds the byte.
pub byte-found : (m : List (Segment Zone)) (o : ℕ) → Tells o (locate o m) (spot_from (o / page_bytes) 0 0 m)
byte-found m o =
    subst (λ t. Tells t (locate o m) (spot_from (o / page_bytes) 0 0 m)) (let e : 0 * page_bytes + o ≡ o = omega arith in e) (
    rw (let e : 0 + o / page_bytes ≡ o / page_bytes = omega arith in e) at (byte-from m o 0 0))

-- The zones that have a chunk not live, by start page. Assumes nothing.
use Prim.Native.Nat.{ℕ, ◌+◌, ◌-◌, ◌*◌, ◌≤◌}
use mathlib.Core.Path.{◌≡◌, refl, ap, ◌∙◌}
use mathlib.Core.Logic.{◌⊎◌, inl, inr}
use mathlib.Core.List.Memᴰ
use mathlib.Core.List.{List, [], ◌∷◌, Memᴰ}
use mathlib.Core.Option.{some}
use mathlib.Core.Bool.{Bool, true, false}
use native.Mathlib.Omega.{arith}
use lib.Dec.{ltb}
use lib.ListN.{length}
use borrow.Author.Tests.{ltb-false, lt-ltb, le-ltb}
use Rattle.lemmas.specs.Times.{Distinct}
use Rattle.lemmas.proofs.Cases.{bool, some_inj, clash, none-some}
use Rattle.model.specs.Numbers.{zone_pages, page_bytes, zone_bytes}
use Rattle.model.specs.Arena.{Segment, run, direct, zone, pages, bytes, total, Place, locate}
use Rattle.model.specs.Zone.{Zone, full}
use Rattle.model.specs.State.{ZoneAt}
use Rattle.model.proofs.Arena.{same-segment}
use Rattle.metadata.specs.Lists.{is_open}

-- A page in front, where the zone is not full.
put_open : Bool → ℕ → List ℕ → List ℕ
put_open true p l = l
put_open false p l = p ∷ l

-- The start pages of the zones from page p on that have a chunk not live, ascending.
pub open_from : ℕ → List (Segment Zone) → List ℕ
open_from p [] = []
open_from p (run n ∷ r) = open_from (p + n) r
open_from p (direct n g ∷ r) = open_from (p + n) r
open_from p (zone z ∷ r) = put_open (full z) p (open_from (p + zone_pages) r)

unfoldable pub sum_open : List (Segment Zone) → ℕ
sum_open [] = 0
sum_open (x ∷ r) = is_open x + sum_open r

pub length-open : (p : ℕ) (m : List (Segment Zone)) → length (open_from p m) ≡ sum_open m
unfolding open_from sum_open put_open
length-open p [] = refl
length-open p (run n ∷ r) = length-open (p + n) r ∙ omega arith
length-open p (direct n g ∷ r) = length-open (p + n) r ∙ omega arith
length-open p (zone z ∷ r) = bool (full z) (λ t. rw t (length-open _ r ∙ omega arith)) (λ t. rw t (omega (arith, length-open (p + zone_pages) r)))

pub few-open : (m : List (Segment Zone)) → sum_open m * zone_pages ≤ total m
unfolding sum_open
few-open [] = omega arith
few-open (run n ∷ r) = omega (arith, few-open r)
few-open (direct n g ∷ r) = omega (arith, few-open r)
few-open (zone z ∷ r) = bool (full z) (λ t. rw t (omega (arith, few-open r))) (λ t. rw t (omega (arith, few-open r)))

-- A zone at page q behind p, of the segments from p on, is open: its page is there.
record OpenZone (m : List (Segment Zone)) (p q : ℕ) : Type 0 where
  here : Zone
  at : locate ((q - p) * page_bytes) m ≡ some (record { away = 0; segment = zone here })
  not_full : full here ≡ false
  behind : p ≤ q

past : (x : Segment Zone) (m : List (Segment Zone)) (p q : ℕ) → OpenZone m (p + pages x) q → OpenZone (x ∷ m) p q
past x m p q o = record {
  here = o.here;
  at = rw (le-ltb ((q - p) * page_bytes) (bytes x) (omega arith)) (ap (λ k. locate k m) (let e : (q - p) * page_bytes - bytes x ≡ (q - (p + pages x)) * page_bytes = omega arith in e) ∙ o.at);
  not_full = o.not_full;
  behind = omega arith;
}

open-zone : (p : ℕ) (m : List (Segment Zone)) (q : ℕ) → Memᴰ q (open_from p m) → OpenZone m p q
unfolding open_from put_open
open-zone p [] q i = absurd (Memᴰ.not-nil i)
open-zone p (run n ∷ r) q i = past (run n) r p q (open-zone (p + n) r q i)
open-zone p (direct n g ∷ r) q i = past _ r p q (open-zone (p + n) r q i)
open-zone p (zone z ∷ r) q i = bool (full z)
    (λ t. past (zone z) r p q (open-zone _ r q (rw t at i)))
    (λ t. go t (Memᴰ.cases_cons (rw t at i)) (open-zone _ r q))
  where
    go : full z ≡ false → (q ≡ p) ⊎ Memᴰ q (open_from (p + zone_pages) r) → (Memᴰ q (open_from (p + zone_pages) r) → OpenZone r (p + zone_pages) q) → OpenZone (zone z ∷ r) p q
    go t (inl e) k = record { here = z; at = rw (lt-ltb ((q - p) * page_bytes) zone_bytes (omega arith)) (ap (λ a. some (record { away = a; segment = zone z })) (omega arith)); not_full = t; behind = omega arith }
    go t (inr e) k = past (zone z) r p q (k e)

zone-open : (p : ℕ) (m : List (Segment Zone)) (q : ℕ) (z : Zone) → p ≤ q → locate ((q - p) * page_bytes) m ≡ some (record { away = 0; segment = zone z }) → full z ≡ false → Memᴰ q (open_from p m)
unfolding open_from put_open
zone-open p [] q z h e f = none-some e
zone-open p (run n ∷ r) q z h e f = bool (ltb ((q - p) * page_bytes) (n * page_bytes))
    (λ t. let u : run n ≡ zone z = same-segment (rw t at e) in clash (cc))
    (λ t. zone-open (p + n) r q z (omega (arith, ltb-false)) (ap (λ k. locate k r) (let g : (q - (p + n)) * page_bytes ≡ (q - p) * page_bytes - n * page_bytes = omega arith in g) ∙ rw t at e) f)
zone-open p (direct n j ∷ r) q z h e f = bool (ltb ((q - p) * page_bytes) (n * page_bytes))
    (λ t. let u : direct n j ≡ zone z = same-segment (rw t at e) in clash (cc))
    (λ t. zone-open (p + n) r q z (omega (arith, ltb-false)) (ap (λ k. locate k r) (let g : (q - (p + n)) * page_bytes ≡ (q - p) * page_bytes - n * page_bytes = omega arith in g) ∙ rw t at e) f)
zone-open p (zone y ∷ r) q z h e f = bool (ltb ((q - p) * page_bytes) zone_bytes)
    (λ t. here (some_inj (rw t at e)))
    (λ t. later (zone-open _ r q z (omega (arith, ltb-false)) (ap (λ k. locate k r) (let g : (q - (p + zone_pages)) * page_bytes ≡ (q - p) * page_bytes - zone_bytes = omega arith in g) ∙ rw t at e) f))
  where
    later : Memᴰ q (open_from (p + zone_pages) r) → Memᴰ q (put_open (full y) p (open_from (p + zone_pages) r))
    later i = bool (full y) (λ t. rw t i) (λ t. rw t (Memᴰ.tail i))

    here : ◌≡◌ {A = Place Zone} (record { away = (q - p) * page_bytes; segment = zone y }) (record { away = 0; segment = zone z }) → Memᴰ q (put_open (full y) p (open_from (p + zone_pages) r))
    here u =
        let a : (q - p) * page_bytes ≡ 0 = ap (λ x. x.away) u in
        let s : zone y ≡ zone z = ap (λ x. x.segment) u in
        let w : y ≡ z = cc in
        rw (ap full w ∙ f) (let j : q ≡ p = omega arith in Memᴰ.head j)

open_above : (p : ℕ) (m : List (Segment Zone)) (q : ℕ) → Memᴰ q (open_from p m) → p ≤ q
open_above p m q i = (open-zone p m q i).behind

open-distinct : (p : ℕ) (m : List (Segment Zone)) → Distinct (open_from p m)
unfolding open_from put_open
open-distinct p [] = tt
open-distinct p (run n ∷ r) = open-distinct (p + n) r
open-distinct p (direct n g ∷ r) = open-distinct (p + n) r
open-distinct p (zone z ∷ r) = bool (full z) (λ t. rw t (open-distinct _ r)) (λ t. rw t (λ i. let k = open_above _ r p i in omega arith, open-distinct _ r))

-- Of the whole arena.
abbrev pub open_pages : List (Segment Zone) → List ℕ
open_pages m = open_from 0 m

pub open_told : (m : List (Segment Zone)) (q : ℕ) → Memᴰ q (open_pages m) → (z : Zone) × ZoneAt m q z × (full z ≡ false)
open_told m q i = let o = open-zone 0 m q i in (o.here, ap (λ k. locate k m) (let e : q * page_bytes ≡ (q - 0) * page_bytes = omega arith in e) ∙ o.at, o.not_full)

pub told-open : (m : List (Segment Zone)) (q : ℕ) (z : Zone) → ZoneAt m q z → full z ≡ false → Memᴰ q (open_pages m)
told-open m q z e f = zone-open 0 m q z (omega arith) (ap (λ k. locate k m) (let g : (q - 0) * page_bytes ≡ q * page_bytes = omega arith in g) ∙ e) f

pub pages-distinct : (m : List (Segment Zone)) → Distinct (open_pages m)
pages-distinct m = open-distinct 0 m

-- What the code reads of the segment at a page. Assumes nothing.
use Prim.Native.Nat.{ℕ, ◌≤◌, ◌<◌}
use mathlib.Core.Path.{◌≡◌, refl, sym, ap, ◌∙◌}
use mathlib.Core.List.{List, []}
use mathlib.Core.Bool.{Bool, true, false, cond}
use native.Mathlib.Omega.{arith}
use lib.ListN.{get_or}
use Rattle.model.specs.Numbers.{class_count}
use Rattle.model.specs.Arena.{Segment, run, direct, zone}
use Rattle.model.specs.Zone.{Zone, full}
use Rattle.model.specs.PageMap.{idle_zone}
use Rattle.header.specs.Front.{stands}
use Rattle.zone.specs.Encoding.{kind_zone}
use Rattle.zone.specs.Decoding.{is_zone, zone_of}
use Rattle.zone.proofs.Encoded.{zone-iff, zone-decoded}
use Rattle.pages.specs.Encoding.{kind_of}
use Rattle.metadata.specs.Lists.{zone_fits, segment_fits, is_open}

-- A segment that is no zone fits, and counts for nothing.
pub fits-other : (spare : List ℕ) (lists : List (List ℕ)) (p : ℕ) (x : Segment Zone) → (kind_of x ≡ kind_zone → ⊥) → true ≡ segment_fits spare lists p x
fits-other spare lists p (run n) f = refl
fits-other spare lists p (direct n g) f = refl
fits-other spare lists p (zone z) f = absurd (f refl)

pub open-other : (x : Segment Zone) → (kind_of x ≡ kind_zone → ⊥) → 0 ≡ is_open x
open-other (run n) f = refl
open-other (direct n g) f = refl
open-other (zone z) f = absurd (f refl)

pub open-most : (x : Segment Zone) → is_open x ≤ 1
open-most (run n) = omega arith
open-most (direct n g) = omega arith
open-most (zone z) = go (full z)
  where
    go : (t : Bool) → cond t 0 1 ≤ 1
    go true = omega arith
    go false = omega arith

-- The cases of the two tests of a zone.
yes-case : {A : Type 0} (t : Bool) (x y : A) → t ≡ true → x ≡ cond t x y
yes-case t x y e = rw e

no-case : {A : Type 0} (t : Bool) (x y : A) → t ≡ false → y ≡ cond t x y
no-case t x y e = rw e

module _ (spare : List ℕ) (lists : List (List ℕ)) (p : ℕ) (z : Zone) where
  abbrev listed : Bool
  listed = stands p (get_or lists z.class [])

  abbrev open-fits : Bool
  open-fits = cond (stands p spare) (idle_zone z) listed

  pub fits-full : full z ≡ true → true ≡ zone_fits spare lists p z
  fits-full t = yes-case (full z) true open-fits t

  pub fits-spare : full z ≡ false → stands p spare ≡ true → idle_zone z ≡ zone_fits spare lists p z
  fits-spare t u = yes-case (stands p spare) (idle_zone z) listed u ∙ no-case (full z) true open-fits t

  pub fits-listed : full z ≡ false → stands p spare ≡ false → stands p (get_or lists z.class []) ≡ zone_fits spare lists p z
  fits-listed t u = no-case (stands p spare) (idle_zone z) listed u ∙ no-case (full z) true open-fits t

-- The class of a zone's words.
pub class_low : (w : List ℕ) → is_zone w ≡ true → (zone_of w).class < class_count
class_low w t = let f = (zone-iff w).0 t in omega (arith, f.1.class, ap (λ u. (zone_of u).class) f.2, ap (λ z. z.class) (zone-decoded f.0 f.1))

-- The segment x is the zone z, which the code has read as y.
module _ {y z : Zone} {x : Segment Zone} (read : y ≡ z) (is : x ≡ zone z) where
  pub fits-zone : (spare : List ℕ) (lists : List (List ℕ)) (p : ℕ) → zone_fits spare lists p y ≡ segment_fits spare lists p x
  fits-zone spare lists p = ap (zone_fits spare lists p) read ∙ ap (segment_fits spare lists p) (sym is)

  pub open-zone : is_open (zone y) ≡ is_open x
  open-zone = ap (λ v. is_open (zone v)) read ∙ ap is_open (sym is)

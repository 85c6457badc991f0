-- What a segment is, by its kind, and the words of one that is a zone. Assumes nothing.
use Prim.Native.Nat.{ℕ, ◌+◌, ◌-◌, ◌*◌}
use mathlib.Core.Path.{◌≡◌, refl, sym, subst}
use mathlib.Core.Bool.{true}
use mathlib.Core.List.{List}
use native.Mathlib.Omega.{arith}
use lib.ListN.{take, drop}
use Rattle.lemmas.proofs.Cases.{clash}
use lib.Seq.{take_at}
use Rattle.model.specs.Numbers.{zone_pages, page_words}
use Rattle.model.specs.Arena.{Segment, run, direct, zone, pages}
use Rattle.model.specs.Zone.{Zone}
use Rattle.zone.specs.Encoding.{zone_words, zone_encoding}
use Rattle.zone.specs.Decoding.{is_zone, zone_of}
use Rattle.zone.proofs.Encoded.{zone-decoded, encoding-zone}
use Rattle.zone.proofs.Words.{length-encoding}
use Rattle.pages.specs.declared.Kind.TheVariants as kind
use Rattle.pages.specs.Encoding.{kind_run, kind_of, segment_encoding}
use Rattle.pages.specs.Places.{kind_in, Stands, run_pages}
use Rattle.pages.proofs.Walk.{Read}

pub run-by-kind : (x : Segment Zone) → kind_in x ≡ kind.Run → x ≡ run (pages x)
run-by-kind (run n) e = refl
run-by-kind (direct n g) e = clash (cc)
run-by-kind (zone z) e = clash (cc)

-- A run's pages are those of the run, and another segment has none.
pub run-size : (x : Segment Zone) → kind_in x ≡ kind.Run → pages x ≡ run_pages x
run-size x e = sym (cc (run-by-kind x e))

pub no-run-size : (x : Segment Zone) → (kind_of x ≡ kind_run → ⊥) → 0 ≡ run_pages x
no-run-size (run n) f = absurd (f refl)
no-run-size (direct n g) f = refl
no-run-size (zone z) f = refl

pub direct-by-kind : (x : Segment Zone) → (kind_in x ≡ kind.Zone → ⊥) → (kind_in x ≡ kind.Run → ⊥) → ((g : ℕ) × (x ≡ direct (pages x) g))
direct-by-kind (run n) a b = absurd (b refl)
direct-by-kind (direct n g) a b = (g, refl)
direct-by-kind (zone z) a b = absurd (a refl)

pub zone-by-kind : (x : Segment Zone) → kind_in x ≡ kind.Zone → ((z : Zone) × (x ≡ zone z))
zone-by-kind (run n) e = clash (cc)
zone-by-kind (direct n g) e = clash (cc)
zone-by-kind (zone z) e = (z, refl)

pub stands-zone : {m : List (Segment Zone)} {p b : ℕ} {x : Segment Zone} → Stands m p b x → kind_in x ≡ kind.Zone → ((z : Zone) × (x ≡ zone z) × Stands m p b (zone z))
stands-zone {m} {p} {b} {x} s e = let i = zone-by-kind x e in (i.0, i.1, subst (λ y. Stands m p b y) i.1 s)

pub stands-direct : {m : List (Segment Zone)} {p b : ℕ} {x : Segment Zone} → Stands m p b x → (kind_in x ≡ kind.Zone → ⊥) → (kind_in x ≡ kind.Run → ⊥)
    → ((g : ℕ) × (x ≡ direct (pages x) g) × Stands m p b (direct (pages x) g))
stands-direct {m} {p} {b} {x} s f g = let i = direct-by-kind x f g in (i.0, i.1, subst (λ y. Stands m p b y) i.1 s)

-- The words of the zone at page p, as the code lends them.
abbrev pub lent_zone : ℕ → List ℕ → List ℕ
lent_zone p w = take (page_words * p + zone_words - page_words * p) (drop (page_words * p) w)

pub zone-lent : {w : List ℕ} {n p : ℕ} {z : Zone} → Read w n p (zone z) → (is_zone (lent_zone p w) ≡ true) × (zone_of (lent_zone p w) ≡ z)
unfolding segment_encoding
zone-lent {w} {n} {p} {z} r =
    let count : page_words * p + zone_words - page_words * p ≡ zone_words = omega arith in
    let front = take_at (zone_encoding z) (drop (page_words * (p + zone_pages)) w) zone_words (length-encoding z) in
    let part : lent_zone p w ≡ zone_encoding z = cc in
    (cc (encoding-zone z r.ok.1), cc (zone-decoded z r.ok.1))

-- The test of segments' words is exact: one segment, and all of them. Assumes nothing.
use Prim.Native.Nat.{ℕ, ◌+◌, ◌-◌, ◌*◌, ◌≤◌, ◌<◌}
use mathlib.Core.Path.{◌≡◌, refl, sym, ap, ◌∙◌, subst}
use mathlib.Core.List.{List}
use mathlib.Core.Bool.{Bool, true, false, cond, ◌&&◌}
use native.Mathlib.Omega.{arith}
use lib.Dec.{leb, eqb}
use lib.ListN.{length, get_or, take}
use lib.Seq.{length-take-le, get_or-take}
use borrow.Author.Tests.{leb-true, le-leb, lt-leb, eqb-true, eq-eqb, ne_eqb}
use Rattle.lemmas.specs.Parts.{mid}
use Rattle.lemmas.specs.Zeros.{is_zero, Zero}
use Rattle.lemmas.proofs.Cases.{bool, and_left, and_right, and_both, and-false}
use Rattle.lemmas.proofs.Every.{every-at, every_of}
use Rattle.lemmas.proofs.Parts.{length-mid, get_or-mid}
use Rattle.model.specs.Numbers.{zone_pages, most_group, most_pages, page_words}
use Rattle.model.specs.Arena.{Segment, run, direct, zone, pages}
use Rattle.model.specs.Zone.{Zone}
use Rattle.model.specs.Valid.{ValidZone}
use Rattle.zone.specs.Encoding.{zone_encoding, zone_words, kind_zone}
use Rattle.zone.specs.Decoding.{is_zone}
use Rattle.zone.proofs.Encoded.{zone-iff, encoding-zone}
use Rattle.pages.specs.Encoding.{segment_encoding, Writable, kind_run, kind_direct}
use Rattle.pages.specs.Places.{Blank}
use Rattle.pages.specs.Legal.{zero_from, size_if, group_in, size_at}
use Rattle.pages.proofs.Laws.{zone-first}
use Rattle.pages.proofs.Words.{run-zero, direct-zero, run-words, direct-words}

-- Words of at least n pages.
abbrev pub Long : ℕ → List ℕ → Type 0
Long n w = (page_words * n ≤ length w) × (n ≤ most_pages)

-- Zero words, tested and told.
zero_is : (i k : ℕ) (w : List ℕ) → page_words * k ≤ length w → i ≤ page_words * k → zero_from i k w ≡ true → Zero (take (page_words * k) w) i (page_words * k)
zero_is i k w l h t = record {
  at = λ j a b.
      let m : j - i < length (mid i (page_words * k - i) w) = omega (arith, length-mid i (page_words * k - i) w (omega arith)) in
      get_or-take _ w j 0 b ∙ ap (λ q. get_or w q 0) (let e : j ≡ i + (j - i) = omega arith in e) ∙ sym (get_or-mid i (page_words * k - i) w (j - i) 0 (omega arith)) ∙ eqb-true _ 0 (every-at is_zero _ (j - i) 0 t m);
}

is-zero : (i k : ℕ) (w : List ℕ) → page_words * k ≤ length w → i ≤ page_words * k → Zero (take (page_words * k) w) i (page_words * k) → zero_from i k w ≡ true
is-zero i k w l h z = every_of is_zero _ 0 (λ j a.
    let q : j < page_words * k - i = omega (arith, length-mid i (page_words * k - i) w (omega arith)) in
    eq-eqb _ 0 (get_or-mid i _ w j 0 q ∙ sym (get_or-take (page_words * k) w (i + j) 0 (omega arith)) ∙ z.at (i + j) (omega arith) (omega arith)))

front : (k i : ℕ) (w : List ℕ) → i < page_words * k → get_or (take (page_words * k) w) i 0 ≡ get_or w i 0
front k i w h = get_or-take _ w i 0 h

blank : (i k n : ℕ) (w : List ℕ) → Long n w → 1 ≤ k → k ≤ n → Zero (take (page_words * k) w) i (page_words * k) → Blank (take (page_words * k) w) i k
blank i k n w l a b z = record { long = length-take-le _ w (omega arith); some = a; most = omega arith; zero = z }

-- A valid segment of at most n pages with which words begin.
pub record Leads (n : ℕ) (w : List ℕ) (x : Segment Zone) : Type 0 where
  pub ok : Writable x
  pub within : pages x ≤ n
  pub words : take (page_words * pages x) w ≡ segment_encoding x

module _ (n : ℕ) (w : List ℕ) (long : Long n w) where
  size-if : (t : Bool) → 0 < size_if n w t → (1 ≤ get_or w 1 0) × (get_or w 1 0 ≤ n) × (t ≡ true) × (size_if n w t ≡ get_or w 1 0)
  size-if t h = bool (leb 1 (get_or w 1 0) && leb (get_or w 1 0) n && t)
      (λ e. let a = and_left _ t e in (leb-true 1 _ (and_left _ _ a), leb-true _ n (and_right (leb 1 (get_or w 1 0)) _ a), and_right (leb 1 (get_or w 1 0) && leb (get_or w 1 0) n) t e, rw e))
      (λ e. absurd (let z : 0 < 0 = rw e at h in omega arith))

  if-size : (t : Bool) → 1 ≤ get_or w 1 0 → get_or w 1 0 ≤ n → t ≡ true → size_if n w t ≡ get_or w 1 0
  if-size t a b e = rw (le-leb 1 _ a, le-leb _ n b, e)

  -- What is found is such a segment.
  pub size-leads : 0 < size_at n w → (x : Segment Zone) × Leads n w x × (size_at n w ≡ pages x)
  unfolding size_at segment_encoding
  size-leads = bool (eqb (get_or w 0 0) 3)
      (λ t. rw t (bool (leb zone_pages n && is_zone (take zone_words w))
      (λ u. rw u (λ _. as-zone (leb-true zone_pages n (and_left _ _ u)) ((zone-iff (take zone_words w)).0 (and_right (leb zone_pages n) _ u))))
      (λ u. rw u (λ h. absurd (omega arith)))))
      (λ t. rw t (bool (eqb (get_or w 0 0) 1)
      (λ u. rw u (λ h. as-run (eqb-true _ 1 u) (size-if _ h)))
      (λ u. rw u (bool (eqb (get_or w 0 0) 2)
      (λ v. rw v (λ h. as-direct (eqb-true _ 2 v) (size-if _ h)))
      (λ v. rw v (λ h. absurd (omega arith)))))))
    where
      as-zone : zone_pages ≤ n → (z : Zone) × ValidZone z × (take zone_words w ≡ zone_encoding z) → (x : Segment Zone) × Leads n w x × (zone_pages ≡ pages x)
      as-zone h f = (zone f.0, record { ok = (omega arith, f.1); within = h; words = f.2 }, refl)

      as-run : get_or w 0 0 ≡ kind_run → (1 ≤ get_or w 1 0) × (get_or w 1 0 ≤ n) × (zero_from 2 (get_or w 1 0) w ≡ true) × (size_if n w (zero_from 2 (get_or w 1 0) w) ≡ get_or w 1 0) → (x : Segment Zone) × Leads n w x × (size_if n w (zero_from 2 (get_or w 1 0) w) ≡ pages x)
      as-run k f =
          let len = get_or w 1 0 in
          (run len, record { ok = (f.0, tt); within = f.1; words = run-words _ len (blank 2 len n w long f.0 f.1 (zero_is 2 len w (omega arith) (omega arith) f.2)) (front len 0 w (omega arith) ∙ k) (front len 1 w (omega arith)) }, f.3)

      as-direct : get_or w 0 0 ≡ kind_direct → (1 ≤ get_or w 1 0) × (get_or w 1 0 ≤ n) × ((group_in w && zero_from 3 (get_or w 1 0) w) ≡ true) × (size_if n w (group_in w && zero_from 3 (get_or w 1 0) w) ≡ get_or w 1 0) → (x : Segment Zone) × Leads n w x × (size_if n w (group_in w && zero_from 3 (get_or w 1 0) w) ≡ pages x)
      as-direct k f =
          let len = get_or w 1 0 in
          let g = get_or w 2 0 in
          let gs = and_left (group_in w) _ f.2 in (
            direct len g,
            record {
              ok = (
                f.0,
                (
                  f.0,
                  leb-true 1 g (and_left (leb 1 g) _ gs),
                  leb-true g most_group
                      (and_right (leb 1 g) _ gs),
                ),
              );
              within = f.1;
              words = direct-words _ len g
                  (blank 3 len n w long f.0 f.1 (zero_is 3 len w (omega arith) (omega arith) (and_right (group_in w) _ f.2))) (front len 0 w (omega arith) ∙ k)
                  (front len 1 w (omega arith)) (front len 2 w (omega arith));
            },
            f.3,
          )

  -- Such a segment is found.
  pub leads-size : (x : Segment Zone) → Leads n w x → size_at n w ≡ pages x
  unfolding size_at segment_encoding
  leads-size (run len) l =
      let word : (i : ℕ) → i < page_words * len → get_or w i 0 ≡ get_or (segment_encoding (run len)) i 0 = λ i h. cc (front len i w h) in
      let k = word 0 (omega arith) in
      let s = word 1 (omega arith) in
      rw (ne_eqb (get_or w 0 0) 3 (omega arith), eq-eqb _ 1 k)
      (if-size _ (omega arith) (omega arith) (rw s (is-zero 2 len w (omega (arith, long.0, l.within)) (omega (arith, l.ok.0)) (subst (λ v. Zero v 2 (page_words * len)) (sym l.words) (run-zero len)))) ∙ s)
  leads-size (direct len g) l =
      let word : (i : ℕ) → i < page_words * len → get_or w i 0 ≡ get_or (segment_encoding (direct len g)) i 0 = λ i h. cc (front len i w h) in
      let k = word 0 (omega arith) in
      let s = word 1 (omega arith) in
      let t = word 2 (omega arith) in
      rw (ne_eqb (get_or w 0 0) 3 (omega arith), ne_eqb (get_or w 0 0) 1 (omega arith), eq-eqb _ 2 k)
      (if-size _ (omega arith) (omega arith)
      (and_both (group_in w) _ (and_both _ _ (le-leb 1 (get_or w 2 0) (omega arith)) (le-leb (get_or w 2 0) most_group (omega arith)))
      (rw s (is-zero 3 len w (omega (arith, long.0, l.within)) (omega (arith, l.ok.0)) (subst (λ v. Zero v 3 (page_words * len)) (sym l.words) (direct-zero len g))))) ∙ s)
  leads-size (zone z) l =
      let k : get_or w 0 0 ≡ 3 = cc (front zone_pages 0 w (omega arith), zone-first z) in
      rw (eq-eqb _ 3 k, le-leb zone_pages n l.within, ap is_zone l.words ∙ encoding-zone z l.ok.1)

-- The same as the code finds it, case by case -------------------------------------------------------------------------------------

module _ (n : ℕ) (w : List ℕ) where
  pub size-zone : get_or w 0 0 ≡ kind_zone → cond (leb zone_pages n && is_zone (take zone_words w)) zone_pages 0 ≡ size_at n w
  unfolding size_at
  size-zone k = rw (eq-eqb _ 3 k)

  pub size-other : (get_or w 0 0 ≡ kind_zone → ⊥) → (get_or w 0 0 ≡ kind_run → ⊥) → (get_or w 0 0 ≡ kind_direct → ⊥) → 0 ≡ size_at n w
  unfolding size_at
  size-other a b c = rw (ne_eqb _ 3 a, ne_eqb _ 1 b, ne_eqb _ 2 c)

  -- A length that is none, or too large.
  no_size : (t : Bool) → (leb 1 (get_or w 1 0) && leb (get_or w 1 0) n) ≡ false → size_if n w t ≡ 0
  no_size t e = rw e

  pub size_none : (get_or w 0 0 ≡ kind_zone → ⊥) → (leb 1 (get_or w 1 0) && leb (get_or w 1 0) n) ≡ false → 0 ≡ size_at n w
  unfolding size_at
  size_none a e = rw (ne_eqb _ 3 a) (bool (eqb (get_or w 0 0) 1)
      (λ t. rw t (sym (no_size _ e)))
      (λ t. rw t (bool (eqb (get_or w 0 0) 2) (λ u. rw u (sym (no_size _ e))) (λ u. rw u))))

  pub size-zero : (get_or w 0 0 ≡ kind_zone → ⊥) → get_or w 1 0 ≡ 0 → 0 ≡ size_at n w
  size-zero a e = size_none a (rw (lt-leb 1 (get_or w 1 0) (omega arith)))

  pub size-large : (get_or w 0 0 ≡ kind_zone → ⊥) → n < get_or w 1 0 → 0 ≡ size_at n w
  size-large a h = size_none a (rw (lt-leb _ n h) (and-false (leb 1 (get_or w 1 0))))

  module _ (some : get_or w 1 0 ≡ 0 → ⊥) (most : get_or w 1 0 ≤ n) where
    sized : (t : Bool) → cond t (get_or w 1 0) 0 ≡ size_if n w t
    sized t = rw (le-leb 1 (get_or w 1 0) (omega arith), le-leb _ n most)

    pub size-run : get_or w 0 0 ≡ kind_run → cond (zero_from 2 (get_or w 1 0) w) (get_or w 1 0) 0 ≡ size_at n w
    unfolding size_at
    size-run k = rw (ne_eqb (get_or w 0 0) 3 (omega arith), eq-eqb _ 1 k) (sized _)

    direct_is : get_or w 0 0 ≡ kind_direct → size_if n w (group_in w && zero_from 3 (get_or w 1 0) w) ≡ size_at n w
    unfolding size_at
    direct_is k = rw (ne_eqb (get_or w 0 0) 3 (omega arith), ne_eqb (get_or w 0 0) 1 (omega arith), eq-eqb _ 2 k)

    pub size-group : get_or w 0 0 ≡ kind_direct → group_in w ≡ false → 0 ≡ size_at n w
    size-group k e = sym at-if ∙ direct_is k
      where
        at-if : size_if n w (group_in w && zero_from 3 (get_or w 1 0) w) ≡ 0
        at-if = rw e (zero-if (leb 1 (get_or w 1 0) && leb (get_or w 1 0) n))
          where
            zero-if : (t : Bool) → cond (t && false) (get_or w 1 0) 0 ≡ 0
            zero-if true = refl
            zero-if false = refl

    pub size-direct : get_or w 0 0 ≡ kind_direct → group_in w ≡ true → cond (zero_from 3 (get_or w 1 0) w) (get_or w 1 0) 0 ≡ size_at n w
    size-direct k e = cc (sized (zero_from 3 (get_or w 1 0) w), direct_is k)

-- What the code's test and length make.
pub tested : (i : ℕ) (w : List ℕ) (t : Bool) (len r : ℕ) → r ≡ cond t len 0 → len ≡ get_or w 1 0 → t ≡ zero_from i len w → r ≡ cond (zero_from i (get_or w 1 0) w) (get_or w 1 0) 0
tested i w t len r e l z = e ∙ (λ j. cond ((z ∙ ap (λ k. zero_from i k w) l) j) (l j) 0)

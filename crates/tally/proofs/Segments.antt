-- What each kind of segment adds to the figures, and the walk over all of them. Assumes nothing.
use Prim.Native.Nat.{ℕ, suc, ◌+◌, ◌*◌, ◌≤◌, ◌<◌}
use mathlib.Core.Path.{◌≡◌, refl, sym, ap, ◌∙◌, subst}
use mathlib.Core.Bool.{true, cond}
use mathlib.Core.List.{List, [], ◌∷◌}
use native.Mathlib.Omega.{arith}
use lib.Dec.{eqb}
use lib.ListN.{length, get_or}
use Rattle.lemmas.specs.Times.{times}
use Rattle.model.specs.Numbers.{page_bytes, most_group, most_pages}
use Rattle.model.specs.Sizes.{room, chunks}
use Rattle.model.specs.Arena.{Segment, direct, zone, pages, total, Each}
use Rattle.model.specs.Zone.{Zone}
use Rattle.model.specs.PageMap.{shown}
use Rattle.model.specs.Holdings.{blocks_of, held_of}
use Rattle.model.proofs.Held.{times-padded, held-most, blocks-most}
use Rattle.zone.specs.Decoding.{is_zone, zone_of}
use Rattle.zone.proofs.Encoded.{zone-valid}
use Rattle.pages.specs.Encoding.{Writable}
use Rattle.pages.specs.declared.Kind.TheVariants as kind
use Rattle.pages.specs.Decoding.{segments_of, Holds}
use Rattle.pages.specs.Places.{kind_in, run_pages, Stands, Passed}
use Rattle.pages.proofs.Laws.{all_valid}
use Rattle.pages.proofs.Walk.{Read, read_at, passed_none, passed-more, passed-stands, passed-total}
use Rattle.pages.proofs.Inverse.{run-by-kind}
use Rattle.tally.specs.Figures.{Tallied, Added, Adds, Within}
use Rattle.tally.proofs.Adding.{added_none, added-as}

-- ---- one segment

module _ (x : Segment Zone) {t : List ℕ} where
  pub run-adds : kind_in x ≡ kind.Run → length t ≡ most_group + most_group → Adds x t t
  run-adds e long = subst (λ y. Adds y t t) (sym (run-by-kind x e)) (added_none _ _ t long (λ i l. refl))

  pub direct-adds : {u : List ℕ} (n g : ℕ) → x ≡ direct n g → {m h : ℕ} → m ≡ pages x → h ≡ g → Added (λ y. cond (eqb h y) 1 0) (m * page_bytes) t u → Adds x t u
  direct-adds {u} n g e {m} {h} size group a =
      let s : m ≡ n = size ∙ ap (λ y. pages y) e in
      subst (λ y. Adds y t u) (ap (λ k. direct k h) s ∙ ap (λ k. direct n k) group ∙ sym e) a

  pub zone-adds : {u : List ℕ} (z : Zone) → x ≡ zone z → (w : List ℕ) → is_zone w ≡ true → zone_of w ≡ z → Added (λ g. times g (zone_of w).owners) (room (zone_of w).class) t u → Adds x t u
  zone-adds {u} z e w ok q a =
      subst (λ y. Adds y t u) (sym (e ∙ ap (λ y. zone y) (sym q)))
      (added-as a _ (λ i l. sym (times-padded (suc i) (chunks (zone_of w).class) (zone_of w).owners (omega arith) (zone-valid w ok).fits)))

-- ---- all of them

-- The figures t, and what the segments l hold, are what all of m hold.
pub record Rest (t : List ℕ) (l m : List (Segment Zone)) : Type 0 where
  pub long : length t ≡ most_group + most_group
  pub blocks : (i : ℕ) → i < most_group → get_or t i 0 + blocks_of (suc i) (shown l) ≡ blocks_of (suc i) (shown m)
  pub held : (i : ℕ) → i < most_group → get_or t (most_group + i) 0 + held_of (suc i) (shown l) ≡ held_of (suc i) (shown m)

rest_all : {t : List ℕ} (m : List (Segment Zone)) → Tallied t [] → Rest t m m
rest_all m h = record { long = h.long; blocks = λ i l. omega (arith, h.blocks i l); held = λ i l. omega (arith, h.held i l) }

rest_more : {t u : List ℕ} (x : Segment Zone) (l m : List (Segment Zone)) → Rest t (x ∷ l) m → Adds x t u → Rest u l m
rest_more x l m h a = record {
  long = a.long;
  blocks = λ i b. let p = h.blocks i b in let q = a.blocks i b in omega arith;
  held = λ i b. let p = h.held i b in let q = a.held i b in omega arith;
}

rest-none : {t : List ℕ} (m : List (Segment Zone)) → Rest t [] m → Tallied t (shown m)
rest-none m h = record { long = h.long; blocks = λ i b. let p = h.blocks i b in omega arith; held = λ i b. let p = h.held i b in omega arith }

rest-within : {t : List ℕ} (l m : List (Segment Zone)) → Each Writable m → total m ≤ most_pages → Rest t l m → Within 1 t
rest-within l m v few h = record {
  long = h.long;
  blocks = λ i b. let p = h.blocks i b in let q = blocks-most (suc i) m (all_valid m v) in omega arith;
  held = λ i b. let p = h.held i b in let q = held-most (suc i) m (all_valid m v) in omega arith;
}

-- At page p, with the figures t.
pub record Tallying (w : List ℕ) (n : ℕ) (t : List ℕ) (p : ℕ) : Type 0 where
  pub holds : Holds w n
  pub b : ℕ
  pub left : List (Segment Zone)
  pub passed : Passed (segments_of w) p b left
  pub rest : Rest t left (segments_of w)

-- The segment there, and how it goes on behind it.
pub record Here (w : List ℕ) (n : ℕ) (t : List ℕ) (p b : ℕ) : Type 0 where
  pub x : Segment Zone
  pub stands : Stands (segments_of w) p b x
  pub read : Read w n p x
  pub more : {u : List ℕ} {len : ℕ} → Adds x t u → len ≡ pages x → Tallying w n u (p + len)

pub tally-start : {w : List ℕ} {n : ℕ} {t : List ℕ} → Holds w n → Tallied t [] → Tallying w n t 0
tally-start {w} h e = record { holds = h; b = 0; left = segments_of w; passed = passed_none _; rest = rest_all (segments_of w) e }

module _ {w : List ℕ} {n : ℕ} {t : List ℕ} {p : ℕ} (i : Tallying w n t p) where
  pub tally-within : Within 1 t
  tally-within =
      let h = i.holds in
      rest-within i.left (segments_of w) h.sound (omega (arith, h.covers, h.most)) i.rest

  pub tally-here : p < n → Here w n t p i.b
  tally-here l = go i.left i.passed i.rest
    where
      go : (r : List (Segment Zone)) → Passed (segments_of w) p i.b r → Rest t r (segments_of w) → Here w n t p i.b
      go [] q h = absurd (omega (arith, passed-total q, i.holds.covers))
      go (x ∷ r) q h = let s = passed-stands x r q in record {
        x = x;
        stands = s;
        read = read_at i.holds s;
        more = λ a e. rw e (record { holds = i.holds; b = run_pages x; left = r; passed = passed-more x r q; rest = rest_more x r (segments_of w) h a });
      }

  pub tally-end : n ≤ p → Tallied t (shown (segments_of w))
  tally-end l = go i.left i.passed i.rest
    where
      go : (r : List (Segment Zone)) → Passed (segments_of w) p i.b r → Rest t r (segments_of w) → Tallied t (shown (segments_of w))
      go [] q h = rest-none (segments_of w) h
      go (x ∷ r) q h = absurd (omega (arith, passed-total q, i.holds.covers, (read_at i.holds (passed-stands x r q)).ok.0))

-- Laws of the rows by kind: a section's rows are those of the rules, and the three sections make the listing. Assumes nothing.
use Prim.Native.Nat.{ℕ, zero, suc, ◌+◌, ◌≤◌}
use mathlib.Core.Path.{◌≡◌, refl, sym, ap, ◌∙◌}
use mathlib.Core.Bool.{Bool, true, false, cond}
use mathlib.Core.List.{List, [], ◌∷◌, ◌++◌, append_assoc, append-nil}
use native.Mathlib.Omega.{arith}
use lib.Dec.{eqb}
use lib.ListN.{length}
use borrow.Author.Tests.{lt-ltb, eq-eqb, ne_eqb}
use Rattle.lemmas.specs.Every.{count}
use Rattle.model.specs.Numbers.{zone_pages}
use Rattle.model.specs.Sizes.{chunks}
use Rattle.model.specs.Arena.{Segment, run, direct, zone, Each}
use Rattle.model.specs.Zone.{Zone}
use Rattle.model.specs.Valid.{ValidZone}
use Rattle.model.specs.PageMap.{padded, shown}
use Rattle.model.specs.Ascii.{ascii}
use Rattle.model.specs.Text.{line, lines}
use Rattle.model.specs.Listing.{section, live_count, run_lines, direct_lines, zone_lines, listing_text}
use Rattle.zone.specs.Live.{is_group, live_chunks}
use Rattle.pages.specs.Encoding.{kind_of, Writable}
use Rattle.pages.specs.declared.Kind.{Kind}
use Rattle.pages.specs.declared.Kind.TheVariants as kind
use Rattle.pages.specs.Places.{kind_in, kind_by, kind_number}
use Rattle.pages.proofs.Laws.{kind-told, kind-number}
use Rattle.text.specs.Writing.{named, joined}
use Rattle.text.proofs.Left.{Left, left-all}
use Rattle.text.proofs.Lines.{section-named}
use Rattle.listing.specs.Rows.{row_of, rows_at, rows_of, section_text}

-- ---- one segment

module _ (k p : ℕ) (x : Segment Zone) where
  -- A segment of the kind has its one row; another has none.
  pub rows-here : kind_of x ≡ k → rows_at k p x ≡ row_of p x ∷ []
  unfolding rows_at
  rows-here e = rw (eq-eqb (kind_of x) k e)

  pub rows_none : (kind_of x ≡ k → ⊥) → rows_at k p x ≡ []
  unfolding rows_at
  rows_none f = rw (ne_eqb (kind_of x) k f)

  pub count_at : length (rows_at k p x) ≡ cond (eqb (kind_of x) k) 1 0
  unfolding rows_at
  count_at = go (eqb (kind_of x) k)
    where
      go : (t : Bool) → length (cond t (row_of p x ∷ []) []) ≡ cond t 1 0
      go true = refl
      go false = refl

-- The kind that a number stands for.
kind-back : (k : Kind) → kind_by (kind_number k) ≡ k
kind-back kind.Run = refl
kind-back kind.Direct = refl
kind-back kind.Zone = refl

-- The same by the kind that the code has.
module _ (k : Kind) (p : ℕ) (x : Segment Zone) where
  pub rows-of-kind : kind_in x ≡ k → rows_at (kind_number k) p x ≡ row_of p x ∷ []
  rows-of-kind e = rows-here (kind_number k) p x (sym (kind-number x) ∙ ap kind_number e)

  pub rows-of-another : (kind_in x ≡ k → ⊥) → rows_at (kind_number k) p x ≡ []
  rows-of-another f = rows_none (kind_number k) p x (λ e. f (sym (kind-told x) ∙ ap kind_by e ∙ kind-back k))

pub lines-one : (row : List ℕ) → lines (row ∷ []) ≡ line row
unfolding lines
lines-one row = append-nil (line row)

pub lines-append : (a b : List (List ℕ)) → lines (a ++ b) ≡ lines a ++ lines b
unfolding lines
lines-append [] b = refl
lines-append (row ∷ a) b = cc (lines-append a b, append_assoc (line row) (lines a) (lines b))

-- ---- the live chunks of a zone, counted in what the page map shows of it

live-padded : (n : ℕ) (l : List ℕ) → length l ≤ n → count is_group l ≡ live_count (padded n l)
unfolding count
live-padded zero [] h = refl
live-padded zero (g ∷ l) h = absurd (omega arith)
live-padded (suc n) [] h = live-padded n [] (omega arith)
live-padded (suc n) (zero ∷ l) h = omega (arith, live-padded n l (omega arith))
live-padded (suc n) (suc g ∷ l) h = rw (lt-ltb 0 (suc g) (omega arith)) (omega (arith, live-padded n l (omega arith)))

pub live-shown : (z : Zone) → ValidZone z → live_chunks z ≡ live_count (padded (chunks z.class) z.owners)
unfolding live_chunks
live-shown z v = live-padded _ z.owners v.fits

-- ---- the rows of each kind

pub run-rows : (p : ℕ) (m : List (Segment Zone)) → rows_of 1 p m ≡ run_lines p (shown m)
unfolding rows_of rows_at
run-rows p [] = refl
run-rows p (run n ∷ r) = cc (run-rows (p + n) r)
run-rows p (direct n g ∷ r) = run-rows (p + n) r
run-rows p (zone z ∷ r) = run-rows _ r

pub direct-rows : (p : ℕ) (m : List (Segment Zone)) → rows_of 2 p m ≡ direct_lines p (shown m)
unfolding rows_of rows_at
direct-rows p [] = refl
direct-rows p (run n ∷ r) = direct-rows (p + n) r
direct-rows p (direct n g ∷ r) = cc (direct-rows (p + n) r)
direct-rows p (zone z ∷ r) = direct-rows _ r

pub zone-rows : (p : ℕ) (m : List (Segment Zone)) → Each Writable m → rows_of 3 p m ≡ zone_lines p (shown m)
unfolding rows_of rows_at
zone-rows p [] h = refl
zone-rows p (run n ∷ r) h = zone-rows (p + n) r h.1
zone-rows p (direct n g ∷ r) h = zone-rows (p + n) r h.1
zone-rows p (zone z ∷ r) h = λ i. (p ∷ z.class ∷ live-shown z h.0.1 i ∷ []) ∷ zone-rows (p + zone_pages) r h.1 i

-- ---- the listing

-- The texts of the three sections, in their order.
abbrev pub sections : List (Segment Zone) → List (List ℕ)
sections m = section_text (ascii "runs") (rows_of 1 0 m) ∷ section_text (ascii "direct") (rows_of 2 0 m) ∷ section_text (ascii "zones") (rows_of 3 0 m) ∷ []

pub listing-sections : (m : List (Segment Zone)) → Each Writable m → joined (sections m) ≡ listing_text (shown m)
unfolding listing_text
listing-sections m h = λ i. runs i ++ (directs i ++ zones i)
  where
    runs : section_text (ascii "runs") (rows_of 1 0 m) ≡ section "runs" (run_lines 0 (shown m))
    runs = cc (run-rows 0 m, section-named "runs" (run_lines 0 (shown m)))

    directs : section_text (ascii "direct") (rows_of 2 0 m) ≡ section "direct" (direct_lines 0 (shown m))
    directs = cc (direct-rows 0 m, section-named "direct" (direct_lines 0 (shown m)))

    zones : section_text (ascii "zones") (rows_of 3 0 m) ++ [] ≡ section "zones" (zone_lines 0 (shown m))
    zones = append-nil _ ∙ ap (section_text (ascii "zones")) (zone-rows 0 m h) ∙ sym (section-named "zones" _)

-- ---- pieces, for those who write them one by one

pub left-section : {l : List ℕ} {at : ℕ} (name : List ℕ) (rows : List (List ℕ)) {n : ℕ} → n ≡ length rows → Left l at (section_text name rows) at l (named name n ∷ lines rows ∷ [])
left-section name rows {n} e =
    left-all _ (λ i. named name (e i) ++ append-nil (lines rows) i)

pub left-sections : {l : List ℕ} (m : List (Segment Zone)) → Each Writable m → Left l 0 (listing_text (shown m)) 0 l (sections m)
left-sections m h = left-all _ (listing-sections m h)

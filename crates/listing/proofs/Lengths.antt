-- How long the listing is at most: as long as that of direct blocks of one page each, of group 12, one for each page. A direct block
-- writes no more than its pages would as such blocks. A run and a zone write less, at least a byte, and that makes up for the
-- digits that their sections' counts have more. Assumes nothing.
use Prim.Native.Nat.{ℕ, zero, suc, ◌+◌, ◌*◌, ◌^◌, ◌-◌, ◌≤◌, ◌<◌}
use Prim.Native.String.{String}
use mathlib.Core.Path.{◌≡◌, refl, ap}
use mathlib.Core.List.{List, [], ◌∷◌, ◌++◌}
use native.Mathlib.Omega.{arith}
use lib.ListN.{length, length-append}
use Rattle.lemmas.specs.Below.{sum_below}
use Rattle.lemmas.proofs.Below.{sum-none, sum_more, sum-split}
use Rattle.lemmas.proofs.Every.{count-le-length}
use Rattle.model.specs.Numbers.{zone_pages, most_group, class_count, most_pages, page_bytes}
use Rattle.model.specs.Sizes.{chunks}
use Rattle.model.specs.Arena.{Segment, run, direct, zone, total, Each}
use Rattle.model.specs.Zone.{Zone}
use Rattle.model.specs.PageMap.{PageMap, padded, shown}
use Rattle.model.specs.Valid.{ValidZone}
use Rattle.model.specs.Ascii.{ascii}
use Rattle.model.specs.Text.{digits, decimal, line, lines}
use Rattle.model.specs.Listing.{section, live_count, run_lines, direct_lines, zone_lines, listing_text}
use Rattle.zone.specs.Live.{is_group, live_chunks}
use Rattle.zone.proofs.Chains.{touched-most}
use Rattle.pages.specs.Encoding.{Writable}
use Rattle.pages.specs.Decoding.{Encodes}
use Rattle.text.specs.Writing.{Bounded}
use Rattle.text.proofs.Decimal.{decimal-some, decimal-length, decimal-grows, decimal-tens}
use Rattle.listing.specs.Longest.{singles, longest}
use Rattle.listing.proofs.Rows.{live-shown}

-- ---- the bytes of a line, of a section and of a listing

-- The digits of a number.
abbrev width : ℕ → ℕ
width n = length (decimal n)

line-two : (a b : ℕ) → length (line (a ∷ b ∷ [])) ≡ width a + width b + 2
unfolding line
line-two a b = omega (arith, length-append (decimal a) (32 ∷ (decimal b ++ (10 ∷ []))), length-append (decimal b) (10 ∷ []))

line-three : (a b c : ℕ) → length (line (a ∷ b ∷ c ∷ [])) ≡ width a + width b + width c + 3
unfolding line
line-three a b c = omega (arith, length-append (decimal a) (32 ∷ line (b ∷ c ∷ [])), line-two b c)

section-length : (name : String) (rows : List (List ℕ)) → length (section name rows) ≡ length (ascii name) + width (length rows) + 2 + length (lines rows)
unfolding section line
section-length name rows =
    let count = decimal (length rows) in
    omega (
      arith,
      length-append (ascii name) (32 ∷ ((count ++ (10 ∷ [])) ++ lines rows)),
      length-append (count ++ (10 ∷ [])) (lines rows),
      length-append count (10 ∷ []),
    )

-- The bytes of the rows of the three sections, for segments from page p on.
abbrev row_bytes : ℕ → PageMap → ℕ
row_bytes p m = length (lines (run_lines p m)) + length (lines (direct_lines p m)) + length (lines (zone_lines p m))

text-length : (m : PageMap) → length (listing_text m) ≡ 21 + width (length (run_lines 0 m)) + width (length (direct_lines 0 m)) + width (length (zone_lines 0 m)) + row_bytes 0 m
unfolding listing_text ascii
text-length m =
    omega (
      arith,
      length-append (section "runs" (run_lines 0 m)) (section "direct" (direct_lines 0 m) ++ section "zones" (zone_lines 0 m)),
      length-append (section "direct" (direct_lines 0 m)) (section "zones" (zone_lines 0 m)),
      section-length "runs" (run_lines 0 m),
      section-length "direct" (direct_lines 0 m),
      section-length "zones" (zone_lines 0 m),
    )

-- ---- pages as blocks of one page, of group 12

-- The bytes of such a block's row at page p, and of the rows of the pages below n.
abbrev page_row : ℕ → ℕ
page_row p = width p + 6

abbrev page_rows : ℕ → ℕ
page_rows n = sum_below page_row n

-- The rows of n pages from p on have a digit or more for each page, all of p's digits, and six bytes behind each number.
pages-from : (p n : ℕ) → 0 < n → page_rows p + width p + 7 * n ≤ 1 + page_rows (p + n)
pages-from p zero h = absurd (omega arith)
pages-from p (suc zero) h = omega (arith, sum_more page_row p)
pages-from p (suc (suc n)) h =
    let e : p + suc (suc n) ≡ p + suc n + 1 = omega arith in
    omega (arith, pages-from p (suc n) (omega arith), sum_more page_row (p + suc n), ap page_rows e, decimal-some (p + suc n))

widths : (width 0 ≡ 1) × (width 1 ≡ 1) × (width most_group ≡ 2)
unfolding decimal digits
widths = (refl, refl, refl)

-- The rows of n such blocks from page p on.
record Singles (p n : ℕ) : Type 0 where
  runs : run_lines p (singles n) ≡ []
  zones : zone_lines p (singles n) ≡ []
  blocks : length (direct_lines p (singles n)) ≡ n
  rows : length (lines (direct_lines p (singles n))) + page_rows p ≡ page_rows (p + n)

single-rows : (p n : ℕ) → Singles p n
unfolding lines
single-rows p zero = record { runs = refl; zones = refl; blocks = refl; rows = let e : p + 0 ≡ p = omega arith in omega (arith, ap page_rows e) }
single-rows p (suc n) =
    let i = single-rows (p + 1) n in
    let e : p + suc n ≡ p + 1 + n = omega arith in
    let all = length-append (line (p ∷ 1 ∷ most_group ∷ [])) (lines (direct_lines (p + 1) (singles n))) in
    record {
      runs = i.runs;
      zones = i.zones;
      blocks = ap suc i.blocks;
      rows = omega (arith, all, line-three p 1 most_group, widths.1, widths.2, sum_more page_row p, ap page_rows e);
    }

longest-is : (n : ℕ) → longest n ≡ 23 + width n + page_rows n
unfolding longest lines
longest-is n =
    let i = single-rows 0 n in
    let e : 0 + n ≡ n = omega arith in
    let bare : List (List ℕ) → ℕ = λ l. width (length l) + length (lines l) in
    omega (arith, text-length (singles n), ap bare i.runs, ap bare i.zones, widths.0, ap width i.blocks, ap page_rows e, sum-none page_row)

-- ---- any segments

live-most : (z : Zone) → ValidZone z → live_count (padded (chunks z.class) z.owners) ≤ page_bytes
unfolding live_chunks
live-most z v = omega (arith, live-shown z v, count-le-length is_group z.owners, touched-most z v)

-- A direct block's row is not longer than the rows of its pages would be; a run's and a zone's are shorter.
direct-row : (p n g : ℕ) → 0 < n → g ≤ most_group → length (line (p ∷ n ∷ g ∷ [])) < width p + 7 * n
direct-row p n g h k = omega (arith, line-three p n g, decimal-tens n, decimal-length 1 g (omega arith))

run_row : (p n : ℕ) → 0 < n → length (line (p ∷ n ∷ [])) + 1 < width p + 7 * n
run_row p n h = omega (arith, line-two p n, decimal-tens n)

zone-row : (p : ℕ) (z : Zone) → ValidZone z → length (line (p ∷ z.class ∷ live_count (padded (chunks z.class) z.owners) ∷ [])) + 1 < width p + 7 * zone_pages
zone-row p z v =
    let live = live_count (padded (chunks z.class) z.owners) in
    let few : z.class < class_count = v.class in
    omega (arith, line-three p z.class live, decimal-length 1 z.class (omega arith), decimal-length 3 live (omega (arith, live-most z v)))

-- The bytes of the rows of segments from page p on, and one for each run and each zone.
abbrev spent : ℕ → PageMap → ℕ
spent p m = row_bytes p m + length (run_lines p m) + length (zone_lines p m)

-- a for a segment of n pages and b for the k pages behind it are no more than the rows of those pages.
spent-more : (p n k a b : ℕ) → 0 < n → a < width p + 7 * n → b + page_rows (p + n) ≤ page_rows (p + n + k) → a + b + page_rows p ≤ page_rows (p + (n + k))
spent-more p n k a b h row rest =
    let e : p + n + k ≡ p + (n + k) = omega arith in
    omega (arith, ap page_rows e, pages-from p n h)

all-spent : (p : ℕ) (m : List (Segment Zone)) → Each Writable m → spent p (shown m) + page_rows p ≤ page_rows (p + total m)
unfolding lines
all-spent p [] w = let e : p + 0 ≡ p = omega arith in omega (arith, ap page_rows e)
all-spent p (run n ∷ r) w =
    let row = line (p ∷ n ∷ []) in
    omega (
      arith,
      length-append row (lines (run_lines (p + n) (shown r))),
      spent-more p n (total r) _ _ w.0.0 (run_row p n w.0.0) (all-spent (p + n) r w.1),
    )
all-spent p (direct n g ∷ r) w =
    let row = line (p ∷ n ∷ g ∷ []) in
    omega (
      arith,
      length-append row (lines (direct_lines (p + n) (shown r))),
      spent-more p n (total r) _ _ w.0.0 (direct-row p n g w.0.0 w.0.1.2) (all-spent (p + n) r w.1),
    )
all-spent p (zone z ∷ r) w =
    let row = line (p ∷ z.class ∷ live_count (padded (chunks z.class) z.owners) ∷ []) in
    omega (
      arith,
      length-append row (lines (zone_lines (p + zone_pages) (shown r))),
      spent-more p zone_pages (total r) _ _ (omega arith) (zone-row p z w.0.1) (all-spent _ r w.1),
    )

-- Direct blocks are at most as many as the pages.
blocks-most : (p : ℕ) (m : List (Segment Zone)) → Each Writable m → length (direct_lines p (shown m)) ≤ total m
blocks-most p [] w = omega arith
blocks-most p (run n ∷ r) w = omega (arith, blocks-most (p + n) r w.1)
blocks-most p (direct n g ∷ r) w = omega (arith, blocks-most (p + n) r w.1)
blocks-most p (zone z ∷ r) w = omega (arith, blocks-most (p + zone_pages) r w.1)

-- No segments have a longer listing than as many blocks of one page as they have pages.
pub listing-longest : (m : List (Segment Zone)) → Each Writable m → length (listing_text (shown m)) ≤ longest (total m)
listing-longest m w =
    let e : 0 + total m ≡ total m = omega arith in
    omega (
      arith,
      text-length (shown m),
      longest-is (total m),
      all-spent 0 m w,
      ap page_rows e,
      sum-none page_row,
      decimal-tens (length (run_lines 0 (shown m))),
      decimal-tens (length (zone_lines 0 (shown m))),
      decimal-grows (total m) _ (blocks-most 0 m w),
    )

-- ---- the figures

pub longest-grows : (n k : ℕ) → n ≤ k → longest n ≤ longest k
longest-grows n k h =
    let e : n + (k - n) ≡ k = omega arith in
    omega (arith, longest-is n, longest-is k, decimal-grows k n h, ap page_rows e, sum-split page_row n (k - n))

pub longest-figures : (longest 24 ≡ 207) × (longest most_pages ≡ 2220)
unfolding longest listing_text section lines line decimal digits ascii
longest-figures = (refl, refl)

-- For the words of segments: the length is a number of 32 bits.
pub listing-length : {w : List ℕ} {m : List (Segment Zone)} {n : ℕ} → Encodes w m n → length (listing_text (shown m)) < 2 ^ 32
listing-length {w} {m} {n} e =
    omega (arith, listing-longest m e.sound, longest-grows (total m) most_pages (omega arith), longest-figures.1)

pub listing-bounded : {w : List ℕ} {m : List (Segment Zone)} {n : ℕ} → Encodes w m n → Bounded 0 (listing_text (shown m))
listing-bounded e = omega (arith, listing-length e)

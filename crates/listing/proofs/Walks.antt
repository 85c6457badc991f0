-- The walks over the segments: the one that counts the rows of a kind, and the one that writes them. Assumes nothing.
use Prim.Native.Nat.{ℕ, ◌+◌, ◌≤◌, ◌<◌}
use mathlib.Core.Path.{◌≡◌, refl, sym, ap, ◌∙◌}
use mathlib.Core.List.{List, [], ◌∷◌, ◌++◌, append_assoc, append-nil}
use native.Mathlib.Omega.{arith}
use lib.ListN.{length, length-append}
use lib.Seq.{length-sets}
use Rattle.model.specs.Numbers.{most_pages}
use Rattle.model.specs.Arena.{Segment, pages}
use Rattle.model.specs.Zone.{Zone}
use Rattle.model.specs.Text.{lines}
use Rattle.pages.specs.Decoding.{segments_of, Holds}
use Rattle.pages.specs.declared.Kind.{Kind}
use Rattle.pages.specs.Places.{kind_in, kind_number, run_pages}
use Rattle.pages.proofs.Walk.{Walk, Next, walk_start, next, past, at-it, walk_end}
use Rattle.text.specs.Writing.{Bounded, Wrote}
use Rattle.text.proofs.Left.{wrote_then, wrote_as}
use Rattle.listing.specs.Rows.{rows_at, rows_of}
use Rattle.listing.proofs.Rows.{rows-of-kind, rows-of-another, lines-append}

-- ---- counting

abbrev pub counting : ℕ → ℕ → ℕ → ℕ → List (Segment Zone) → ℕ
counting k a b p l = a + length (rows_of k p l)

-- At page p, with a rows so far.
pub record Counting (k : ℕ) (w : List ℕ) (n a p : ℕ) : Type 0 where
  pub b : ℕ
  pub walk : Walk (counting k) w n (0 + length (rows_of k 0 (segments_of w))) a b p
  pub few : a ≤ p
  pub most : n ≤ most_pages

pub count-start : {k : ℕ} {w : List ℕ} {n : ℕ} → Holds w n → Counting k w n 0 0
count-start h = record { b = 0; walk = walk_start 0 h; few = omega arith; most = h.most }

module _ {k : ℕ} {w : List ℕ} {n a p : ℕ} (i : Counting k w n a p) where
  pub count_next : p < n → Next i.walk
  count_next h = next i.walk h

  -- Past the segment at the page there are a' rows.
  count-more : (h : p < n) (a' : ℕ) → a' ≡ a + length (rows_at k p (count_next h).x) → a' ≤ a + 1 → (len : ℕ) → len ≡ pages (count_next h).x → Counting k w n a' (p + len)
  unfolding rows_of
  count-more h a' more most len el = rw el (record {
    b = run_pages (count_next h).x;
    walk = past i.walk (count_next h) a' (omega (arith, more, length-append (rows_at k p (count_next h).x) (rows_of k (p + pages (count_next h).x) (count_next h).rest)));
    few = omega (arith, most, i.few, (count_next h).read.ok.0);
    most = i.most;
  })

  pub count-end : n ≤ p → a ≡ length (rows_of k 0 (segments_of w))
  unfolding rows_of
  count-end h = omega (arith, walk_end i.walk h)

-- By what the code has found out of the segment's kind.
module _ {k : Kind} {w : List ℕ} {n a p : ℕ} (i : Counting (kind_number k) w n a p) (h : p < n) where
  pub count-here : kind_in (count_next i h).x ≡ k → (len : ℕ) → len ≡ pages (count_next i h).x → Counting (kind_number k) w n (a + 1) (p + len)
  count-here e len el = count-more i h (a + 1) (omega (arith, ap length (rows-of-kind k p (count_next i h).x e))) (omega arith) len el

  pub count_none : (kind_in (count_next i h).x ≡ k → ⊥) → (len : ℕ) → len ≡ pages (count_next i h).x → Counting (kind_number k) w n a (p + len)
  count_none f len el = count-more i h a (omega (arith, ap length (rows-of-another k p (count_next i h).x f))) (omega arith) len el

-- ---- writing

abbrev pub writing : ℕ → List ℕ → ℕ → ℕ → List (Segment Zone) → List ℕ
writing k a b p l = a ++ lines (rows_of k p l)

-- At page p the rows so far have been written at position `at` of the buffer l: the next goes to position j of the buffer m.
pub record Writing (k : ℕ) (w : List ℕ) (n : ℕ) (l : List ℕ) (at j : ℕ) (m : List ℕ) (p : ℕ) : Type 0 where
  pub b : ℕ
  pub done : List ℕ
  pub walk : Walk (writing k) w n (lines (rows_of k 0 (segments_of w))) done b p
  pub wrote : Wrote l at done j m

pub write-start : {k : ℕ} {w : List ℕ} {n : ℕ} (l : List ℕ) (at : ℕ) → Holds w n → Writing k w n l at at l 0
write-start l at h = record { b = 0; done = []; walk = walk_start [] h; wrote = record { next = omega arith; bytes = refl } }

module _ {k : ℕ} {w : List ℕ} {n : ℕ} {l : List ℕ} {at j : ℕ} {m : List ℕ} {p : ℕ} (i : Writing k w n l at j m p) where
  pub write-next : p < n → Next i.walk
  write-next h = next i.walk h

  pub write-length : length m ≡ length l
  write-length = cc (length-sets l at i.done)

  module _ (h : p < n) where
    -- The rows of the segment at the page, and those behind it.
    here : List ℕ
    here = lines (rows_at k p (write-next h).x)

    behind : List ℕ
    behind = lines (rows_of k (p + pages (write-next h).x) (write-next h).rest)

    cut : i.done ++ lines (rows_of k p ((write-next h).x ∷ (write-next h).rest)) ≡ (i.done ++ here) ++ behind
    unfolding rows_of here behind
    cut = ap (λ t. i.done ++ t) (lines-append _ _) ∙ sym (append_assoc i.done here behind)

    pub write-bounded : Bounded at (lines (rows_of k 0 (segments_of w))) → Bounded j (lines (rows_at k p (write-next h).x))
    unfolding here
    write-bounded f =
        omega (
          arith,
          i.wrote.next,
          ap length (sym cut ∙ at-it i.walk (write-next h)),
          length-append (i.done ++ here) behind,
          length-append i.done here,
        )

    pub write-more : {r : ℕ} {m' : List ℕ} (len : ℕ) → Wrote m j (lines (rows_at k p (write-next h).x)) r m' → len ≡ pages (write-next h).x → Writing k w n l at r m' (p + len)
    unfolding here behind
    write-more {r} {m'} len u el = rw el (record {
      b = run_pages (write-next h).x;
      done = i.done ++ here;
      walk = past i.walk (write-next h) (i.done ++ here) cut;
      wrote = wrote_then i.wrote u;
    })

  pub write-end : n ≤ p → Wrote l at (lines (rows_of k 0 (segments_of w))) j m
  unfolding rows_of lines
  write-end h = wrote_as (sym (append-nil i.done) ∙ walk_end i.walk h) i.wrote

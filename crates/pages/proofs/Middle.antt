-- Some segments in the middle: their words as a part of all words, and all words when the part has come back. Assumes nothing.
use Prim.Native.Nat.{ℕ, ◌+◌, ◌-◌, ◌*◌, ◌≤◌, ◌<◌}
use mathlib.Core.Path.{◌≡◌, sym, ap, ◌∙◌}
use mathlib.Core.List.{List, [], ◌∷◌, ◌++◌}
use native.Mathlib.Omega.{arith}
use lib.ListN.{length, take, drop}
use borrow.Author.Tests.{lt-ltb, le-ltb}
use Rattle.lemmas.specs.Parts.{put_mid}
use Rattle.lemmas.proofs.Parts.{mid_at, put-at}
use Rattle.model.specs.Numbers.{most_pages, page_words, page_bytes}
use Rattle.model.specs.Arena.{Segment, run, pages, bytes, total, edit, Each}
use Rattle.model.specs.Zone.{Zone}
use Rattle.model.specs.Pages.{with_run, carve}
use Rattle.model.proofs.Arena.{total-append}
use Rattle.pages.specs.Encoding.{segment_encoding, segments_encoding, Writable}
use Rattle.pages.specs.Decoding.{Encodes}
use Rattle.pages.specs.Places.{Stands}
use Rattle.pages.proofs.Laws.{length-segments, encoding-append, encoding-one, each_left, each_right}
use Rattle.pages.proofs.Walk.{encodes-length, read_at}

module _ {w : List ℕ} {m : List (Segment Zone)} {n : ℕ} (h : Encodes w m n) (a y c : List (Segment Zone)) (is : m ≡ a ++ (y ++ c)) (at k : ℕ) (starts : total a ≡ at) (size : total y ≡ k) where
  sound : Each Writable (a ++ (y ++ c))
  sound = rw is at h.sound

  the-words : w ≡ segments_encoding a ++ (segments_encoding y ++ segments_encoding c)
  the-words = cc (encoding-append a (y ++ c), encoding-append y c)

  front : length (segments_encoding a) ≡ page_words * at
  front = cc (length-segments a (each_left a (y ++ c) sound))

  middle : length (segments_encoding y) ≡ page_words * at + page_words * k - page_words * at
  middle = length-segments y (each_left y c (each_right a (y ++ c) sound)) ∙ omega arith

  -- Where the part lies.
  pub part-inside : (at + k ≤ n) × (n ≤ most_pages) × (length w ≡ page_words * n)
  part-inside = (omega (arith, ap (λ l. total l) is, total-append a (y ++ c), total-append y c), h.most, encodes-length h)

  pub part-words : take (page_words * at + page_words * k - page_words * at) (drop (page_words * at) w) ≡ segments_encoding y
  part-words = rw the-words (mid_at (segments_encoding a) (segments_encoding y) (segments_encoding c) (page_words * at) (page_words * at + page_words * k - page_words * at) front middle)

  pub part-put : (new : List (Segment Zone)) (v : List ℕ) → v ≡ segments_encoding new → put_mid (page_words * at) (page_words * at + page_words * k - page_words * at) w v ≡ segments_encoding (a ++ (new ++ c))
  part-put new v e =
      ap (λ l. put_mid (page_words * at) (page_words * at + page_words * k - page_words * at) l v) the-words
      ∙ put-at (segments_encoding a) (segments_encoding y) _ v _ _ front middle
      ∙ ap (λ l. segments_encoding a ++ (l ++ segments_encoding c)) e
      ∙ ap (λ l. segments_encoding a ++ l) (sym (encoding-append new c))
      ∙ sym (encoding-append a (new ++ c))

-- An edit of the segment that begins behind a.
pub edit-behind : (a : List (Segment Zone)) (x : Segment Zone) (c : List (Segment Zone)) (f : Segment Zone → List (Segment Zone)) (o : ℕ) → o ≡ total a * page_bytes → 0 < pages x → edit o f (a ++ (x ∷ c)) ≡ a ++ (f x ++ c)
edit-behind [] x c f o e p = rw (lt-ltb o (bytes x) (omega arith))
edit-behind (y ∷ a) x c f o e p = rw (le-ltb o (bytes y) (omega arith)) (cc (edit-behind a x c f (o - bytes y) (omega arith) p))

pub edit-stands : {m : List (Segment Zone)} {p b : ℕ} {x : Segment Zone} (s : Stands m p b x) (f : Segment Zone → List (Segment Zone)) → 0 < pages x → edit (p * page_bytes) f m ≡ s.before ++ (f x ++ s.behind)
edit-stands {m} {p} {b} {x} s f pos = cc (edit-behind s.before x s.behind f (p * page_bytes) (omega (arith, s.starts)) pos)

-- A run gives way to a segment in its low pages and the rest.
module _ {w : List ℕ} {m : List (Segment Zone)} {n p b len : ℕ} (h : Encodes w m n) (s : Stands m p b (run len)) where
  one : total {Z = Zone} (run len ∷ []) ≡ len
  one = omega arith

  pub run_inside : (p + len ≤ n) × (n ≤ most_pages) × (length w ≡ page_words * n)
  run_inside = part-inside h s.before (run len ∷ []) s.behind s.whole p len s.starts one

  pub run-part : take (page_words * p + page_words * len - page_words * p) (drop (page_words * p) w) ≡ segment_encoding (run len)
  run-part = part-words h s.before _ s.behind s.whole p len s.starts one ∙ encoding-one (run len)

  pub run-put : (need : ℕ) (x : Segment Zone) (v : List ℕ) → v ≡ segments_encoding (x ∷ with_run (len - need) []) → put_mid (page_words * p) (page_words * p + page_words * len - page_words * p) w v ≡ segments_encoding (carve (record { page = p; size = len }) need x m)
  run-put need x v e = part-put h s.before (run len ∷ []) s.behind s.whole p len s.starts one _ v e ∙ ap segments_encoding (sym (edit-stands s (λ _. x ∷ with_run (len - need) []) (read_at h s).ok.0))

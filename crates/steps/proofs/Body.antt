-- The pages' words of lent words, as the code lends them on, and all words when they have come back. Assumes nothing.
use Prim.Native.Nat.{ℕ, ◌+◌, ◌-◌, ◌*◌, ◌≤◌, ◌<◌}
use mathlib.Core.Path.{◌≡◌, sym, ap, ◌∙◌, subst}
use mathlib.Core.List.{List, [], ◌∷◌, ◌++◌, append-nil}
use mathlib.Core.Bool.{false}
use native.Mathlib.Omega.{arith}
use lib.ListN.{length, take, drop, length-drop}
use lib.Seq.{take_all, drop-length, length-take-le}
use borrow.Author.Tests.{lt-ltb}
use Rattle.lemmas.specs.Parts.{mid, put_mid}
use Rattle.model.specs.Numbers.{page_bytes, header_words}
use Rattle.model.specs.Arena.{Segment, run, pages, bytes, total, locate, edit, Each}
use Rattle.model.specs.Zone.{Zone}
use Rattle.model.specs.Pages.{with_run, carve, free_pages, release}
use Rattle.model.specs.State.{arranged, Begins}
use Rattle.model.proofs.Arena.{locate-right, total-edit}
use Rattle.model.proofs.Joins.{total-joined, total-with_run}
use Rattle.pages.specs.Encoding.{segments_encoding, Writable}
use Rattle.pages.specs.Decoding.{segments_of, Holds}
use Rattle.pages.specs.Places.{Stands}
use Rattle.pages.proofs.Laws.{each_right}
use Rattle.metadata.specs.Encoding.{encode}
use Rattle.metadata.specs.Decoding.{decode}
use Rattle.steps.specs.Lent.{Lent}
use Rattle.steps.proofs.Lent.{lent-long, body-lent, segments-lent, body-put}

-- The pages' words, as the code lends them on.
abbrev pub body_in : List ℕ → List ℕ
body_in w = mid header_words (length w - header_words) w

body-all : (a : ℕ) (w : List ℕ) → mid a (length w - a) w ≡ drop a w
body-all a w = take_all (length w - a) (drop a w) (omega (arith, length-drop a w))

put_all : (a : ℕ) (w v : List ℕ) → put_mid a (length w - a) w v ≡ take a w ++ v
put_all a w v = ap (λ l. take a w ++ (v ++ l)) none ∙ ap (λ l. take a w ++ l) (append-nil v)
  where
    none : drop (length w - a) (drop a w) ≡ []
    none = let e : length w - a ≡ length (drop a w) = omega (arith, length-drop a w) in ap (λ k. drop k (drop a w)) e ∙ drop-length (drop a w)

front_long : (a : ℕ) (w : List ℕ) → a ≤ length w → a ≡ length (take a w)
front_long a w h = sym (length-take-le a w h)

module _ {w : List ℕ} (h : Lent w) where
  pub has-header : header_words ≤ length w
  has-header = omega (arith, lent-long h)

  pub header-long : header_words ≡ length (take header_words w)
  header-long = front_long header_words w has-header

  pub segments-body : segments_of (body_in w) ≡ (decode w).segments
  segments-body = ap segments_of (body-all header_words w) ∙ segments-lent h

  pub body-holds : (n : ℕ) → n ≡ total (decode w).segments → Holds (body_in w) n
  body-holds n e = subst (λ b. Holds b n) (sym (body-all header_words w)) (body-lent h n e)

  -- What holds of the segments holds of those in the pages' words.
  pub in_body {ℓ} : (P : List (Segment Zone) → Type ℓ) → P (decode w).segments → P (segments_of (body_in w))
  in_body P k = subst P (sym segments-body) k

  pub body_back : (v : List ℕ) (f : List (Segment Zone) → List (Segment Zone)) → total (f (decode w).segments) ≡ total (decode w).segments →
      v ≡ segments_encoding (f (segments_of (body_in w))) → put_mid header_words (length w - header_words) w v ≡ encode (arranged (decode w) (f (decode w).segments) (decode w).lists (decode w).spare)
  body_back v f e k = put_all header_words w v ∙ body-put h v (f (decode w).segments) e (k ∙ ap (λ m. segments_encoding (f m)) segments-body)

  -- Every segment has pages.
  pub has-pages : {p b : ℕ} {x : Segment Zone} → Stands (decode w).segments p b x → 0 < pages x
  has-pages {p} {b} {x} s = (each_right s.before (x ∷ s.behind) (subst (λ l. Each Writable l) s.whole h.sound)).0.0

-- That the header's words are there, for the search.
pub ruleset header_fits = (has-header, header-long)

-- Segments that begin at a page ----------------------------------------------------------------------------------------------------

module _ {m : List (Segment Zone)} {p b : ℕ} {x : Segment Zone} (s : Stands m p b x) (pos : 0 < pages x) where
  pub stands-begins : Begins (p * page_bytes) m x
  stands-begins =
      ap (λ l. locate (p * page_bytes) l) s.whole
      ∙ ap (λ o. locate o (s.before ++ (x ∷ s.behind))) (let e : p * page_bytes ≡ total s.before * page_bytes + 0 = omega (arith, s.starts) in e)
      ∙ locate-right s.before (x ∷ s.behind) 0
      ∙ rw (lt-ltb 0 (bytes x) (omega arith))

  pub release-total : total (release (p * page_bytes) m) ≡ total m
  release-total = total-joined (λ _. false) 0 (edit (p * page_bytes) free_pages m) ∙ omega (arith, total-edit (p * page_bytes) free_pages m stands-begins (omega arith))

pub carve-total : {m : List (Segment Zone)} {p b len : ℕ} (s : Stands m p b (run len)) (need : ℕ) (x : Segment Zone) → pages x ≡ need → 0 < need → need ≤ len →
    total (carve (record { page = p; size = len }) need x m) ≡ total m
carve-total {m} {p} {b} {len} s need x e pos h =
    total-edit (p * page_bytes) (λ _. x ∷ with_run (len - need) []) m (stands-begins s (omega arith)) (omega (arith, total-with_run {Z = Zone} (len - need) []))

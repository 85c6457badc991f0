-- A run's words cut into those of a segment in its low pages and of the rest. Assumes nothing.
use Prim.Native.Nat.{ℕ, ◌-◌, ◌*◌, ◌≤◌, ◌<◌}
use mathlib.Core.Path.{◌≡◌, refl, ap, ◌∙◌}
use mathlib.Core.List.{List, [], ◌∷◌, ◌++◌}
use native.Mathlib.Omega.{arith}
use lib.ListN.{length, take, drop, length-append, length-drop}
use Rattle.lemmas.specs.Zeros.{zeros}
use Rattle.lemmas.specs.Parts.{put_mid}
use Rattle.model.specs.Numbers.{most_pages, page_words}
use Rattle.model.specs.Arena.{Segment, run, zone, pages}
use Rattle.model.specs.Zone.{Zone}
use Rattle.model.specs.Pages.{with_run}
use Rattle.zone.specs.Encoding.{zone_encoding}
use Rattle.pages.specs.Encoding.{segment_encoding, segments_encoding}
use Rattle.pages.specs.Places.{Blank}
use Rattle.pages.proofs.Laws.{length-segment}
use Rattle.pages.proofs.Words.{cut_low, cut_high}
use Rattle.pages.proofs.Halves.{behind-part, behind-put}

-- The run's words w; x, the segment of `need` pages that the low part f has become.
module _ (w f : List ℕ) (len need : ℕ) (x : Segment Zone) (is-run : w ≡ segment_encoding (run len)) (p : 0 < need) (q : need ≤ len) (few : len ≤ most_pages)
    (size : pages x ≡ need) (made : f ≡ segment_encoding x) where
  pub front_length : length f ≡ page_words * need
  front_length = cc (length-segment x (omega arith))

  pub whole_length : length (f ++ drop (page_words * need) w) ≡ page_words * len
  whole_length = omega (arith, length-append f (drop (page_words * need) w), front_length, length-drop (page_words * need) w, ap length is-run, length-segment (run len) (omega arith))

  pub rest-zero : take (length (f ++ drop (page_words * need) w) - page_words * need) (drop (page_words * need) (f ++ drop (page_words * need) w)) ≡ zeros (page_words * (len - need))
  rest-zero = cc (behind-part (f ++ drop (page_words * need) w) f (drop (page_words * need) w) refl (page_words * need) front_length, cut_high len need p q few)

  pub cut-made : (v : List ℕ) → v ≡ segments_encoding (with_run (len - need) []) → put_mid (page_words * need) (length (f ++ drop (page_words * need) w) - page_words * need) (f ++ drop (page_words * need) w) v ≡ segments_encoding (x ∷ with_run (len - need) [])
  unfolding segments_encoding
  cut-made v e = behind-put _ f (drop (page_words * need) w) refl _ front_length v ∙ (λ i. made i ++ e i)

-- The low part before it is written.
pub low-blank : (w : List ℕ) (len need : ℕ) → w ≡ segment_encoding (run len) → 0 < need → need ≤ len → len ≤ most_pages → Blank (take (page_words * need) w) 3 need
low-blank w len need e p q few = rw e (cut_low len need p q few)

-- A zone's words are its segment's.
pub zone-made : (z : Zone) {f : List ℕ} → f ≡ zone_encoding z → f ≡ segment_encoding (zone z)
unfolding segment_encoding
zone-made z e = e

-- What lent words say of the segment that begins at a page. Assumes nothing.
use Prim.Native.Nat.{ℕ, ◌+◌, ◌*◌, ◌≤◌, ◌<◌}
use mathlib.Core.Path.{◌≡◌, refl, sym, ◌∙◌, subst}
use mathlib.Core.List.{List}
use lib.ListN.{length, get_or, drop}
use lib.Seq.{get_or-drop}
use Rattle.model.specs.Numbers.{most_pages, header_words, page_words}
use Rattle.model.specs.Arena.{Segment, pages, total}
use Rattle.model.specs.Zone.{Zone}
use Rattle.model.specs.Perform.{words_for}
use Rattle.pages.specs.Encoding.{kind_of}
use Rattle.pages.specs.Places.{Stands}
use Rattle.pages.proofs.Walk.{Read, read_at}
use Rattle.metadata.specs.Decoding.{decode}
use Rattle.steps.specs.Lent.{Lent}
use Rattle.steps.proofs.Lent.{lent-long, body-lent, segments-lent}
use Rattle.steps.proofs.Body.{has-pages}
use Rattle.steps.proofs.Zones.{stands-inside}

module _ {w : List ℕ} (h : Lent w) {p b : ℕ} {x : Segment Zone} (s : Stands (decode w).segments p b x) where
  pub here-inside : (p + pages x ≤ total (decode w).segments) × (total (decode w).segments ≤ most_pages) × (length w ≡ words_for (total (decode w).segments)) × (0 < pages x)
  here-inside = (stands-inside s, h.fits.most, lent-long h, has-pages h s)

  pub here-kind : get_or w (words_for p) 0 ≡ kind_of x
  here-kind = sym (get_or-drop header_words w (page_words * p) 0) ∙ body.kind
    where
      body : Read (drop header_words w) (total (decode w).segments) p x
      body = read_at (body-lent h (total (decode w).segments) refl) (subst (λ m. Stands m p b x) (sym (segments-lent h)) s)

-- One zone's words, as the code lends them on from word a. Assumes nothing.
use Prim.Native.Nat.{ℕ, ◌+◌, ◌-◌, ◌≤◌}
use mathlib.Core.Path.{◌≡◌, ap, ◌∙◌}
use mathlib.Core.Bool.{true}
use mathlib.Core.List.{List}
use native.Mathlib.Omega.{arith}
use lib.ListN.{length}
use Rattle.lemmas.specs.Parts.{mid, put_mid}
use Rattle.model.specs.Numbers.{most_pages}
use Rattle.model.specs.Zone.{Zone}
use Rattle.model.specs.State.{zone_at}
use Rattle.model.specs.Perform.{words_for}
use Rattle.zone.specs.Encoding.{zone_words, zone_encoding}
use Rattle.zone.specs.Decoding.{is_zone, zone_of}
use Rattle.metadata.specs.Encoding.{encode}
use Rattle.metadata.specs.Decoding.{decode}
use Rattle.steps.specs.Lent.{Lent, ZoneHere}
use Rattle.steps.specs.Moves.{rezoned}
use Rattle.steps.proofs.Lent.{zone-inside, zone-lent, zone-read, zone-put}

module _ {w : List ℕ} (h : Lent w) (p : ℕ) (b : ZoneHere (decode w) p) where
  pub part-page : p ≤ most_pages
  part-page = let r = zone-inside h p (zone_at p (decode w).segments) b in omega arith

  module _ (a : ℕ) (at : a ≡ words_for p) where
    pub part_end : (a + zone_words ≤ length w) × (length w ≤ words_for most_pages)
    part_end = let r = zone-inside h p (zone_at p (decode w).segments) b in (omega arith, omega arith)

    size : a + zone_words - a ≡ zone_words
    size = omega arith

    pub part-zone : is_zone (mid a (a + zone_words - a) w) ≡ true
    part-zone = zone-lent h p (zone_at p (decode w).segments) b a (a + zone_words - a) at size

    pub part-is : zone_of (mid a (a + zone_words - a) w) ≡ zone_at p (decode w).segments
    part-is = zone-read h p (zone_at p (decode w).segments) b a (a + zone_words - a) at size

    -- Such words come back as those of f of the zone.
    pub part-put : (f : Zone → Zone) (v : List ℕ) → v ≡ zone_encoding (f (zone_of (mid a (a + zone_words - a) w))) →
        put_mid a (a + zone_words - a) w v ≡ encode (rezoned p (f (zone_at p (decode w).segments)) (decode w))
    part-put f v e =
        zone-put h p (zone_at p (decode w).segments) b a (a + zone_words - a) at size v (f (zone_at p (decode w).segments)) (e ∙ ap (λ z. zone_encoding (f z)) part-is)

-- The words of a state in their parts: the header, the pages' words, one zone's; and all words when a part has come back changed.
-- Assumes nothing.
use Prim.Native.Nat.{ℕ, ◌+◌, ◌*◌, ◌≤◌}
use mathlib.Core.Path.{◌≡◌, sym, ap, ◌∙◌, subst}
use mathlib.Core.List.{List, [], ◌∷◌, ◌++◌, append_assoc}
use mathlib.Core.Bool.{true, false}
use native.Mathlib.Omega.{arith}
use lib.ListN.{length, take, drop, length-append}
use lib.Seq.{take_at, drop_at, take_all}
use Rattle.lemmas.specs.Parts.{mid, put_mid}
use Rattle.lemmas.proofs.Parts.{mid_at, put-at}
use Rattle.model.specs.Numbers.{page_bytes, zone_pages, most_pages, header_words, page_words}
use Rattle.model.specs.Arena.{Segment, zone, total, Each}
use Rattle.model.specs.Zone.{Zone}
use Rattle.model.specs.State.{State, arranged, ZoneAt, put_zone}
use Rattle.model.specs.Valid.{ValidZone, Valid}
use Rattle.model.specs.Perform.{words_for}
use Rattle.model.proofs.Arena.{total-append, Split, split}
use Rattle.header.specs.Encoding as header
use Rattle.header.specs.Encoding.{header_encoding, pages_in, Header}
use Rattle.header.proofs.Encoded.{length-header}
use Rattle.header.proofs.Exact.{encodes-header, pages-read, spare-read, lists-read}
use Rattle.zone.specs.Encoding.{zone_words, zone_encoding}
use Rattle.zone.specs.Decoding.{is_zone, zone_of}
use Rattle.zone.proofs.Encoded.{encoding-zone, zone-decoded}
use Rattle.zone.proofs.Words.{length-encoding}
use Rattle.pages.specs.Encoding.{segment_encoding, segments_encoding, Writable}
use Rattle.pages.specs.Decoding.{segments_of, Holds}
use Rattle.pages.proofs.Laws.{length-segments, encoding-append, each_left, each_right}
use Rattle.pages.proofs.Decoded.{segments-decoded}
use Rattle.metadata.specs.Encoding.{encode}
use Rattle.metadata.specs.Decoding.{pages_part, decode}
use Rattle.metadata.proofs.States.{all-writable, valid-fits}
use Rattle.steps.specs.Lent.{Encodes, Lent}

module _ {w : List ℕ} {s : State} (h : Encodes w s) where
  abbrev H : List ℕ
  H = header_encoding (total s.segments) s.spare s.lists

  abbrev G : List ℕ
  G = segments_encoding s.segments

  two : w ≡ H ++ G
  unfolding encode
  two = h.words

  H-long : length H ≡ header_words
  H-long = length-header (total s.segments) s.spare s.lists

  G-long : length G ≡ page_words * total s.segments
  G-long = length-segments s.segments h.sound

  pub lent-long : length w ≡ words_for (total s.segments)
  lent-long = ap length two ∙ length-append H G ∙ (λ i. H-long i + G-long i)

  header_is : take header_words w ≡ H
  header_is = ap (take header_words) two ∙ take_at H G header_words H-long

  header-encodes : header.Encodes (take header_words w) (total s.segments) s.spare s.lists
  header-encodes = record { words = header_is; fits = h.fits }

  pub header-lent : Header (take header_words w)
  header-lent = encodes-header header-encodes

  pages-lent : pages_in (take header_words w) ≡ total s.segments
  pages-lent = pages-read header-encodes

  body_is : drop header_words w ≡ G
  body_is = ap (drop header_words) two ∙ drop_at H G header_words H-long

  pub segments-lent : segments_of (drop header_words w) ≡ s.segments
  segments-lent = ap segments_of body_is ∙ segments-decoded s.segments h.sound

  pub body-lent : (n : ℕ) → n ≡ total s.segments → Holds (drop header_words w) n
  body-lent n e = record {
    words = body_is ∙ ap segments_encoding (sym segments-lent);
    sound = subst (λ m. Each Writable m) (sym segments-lent) h.sound;
    covers = ap (λ m. total m) segments-lent ∙ sym e;
    most = omega (arith, h.fits.most);
  }

  part-all : pages_part w ≡ drop header_words w
  part-all = ap (λ k. take (page_words * k) (drop header_words w)) pages-lent ∙ take_all (page_words * total s.segments) (drop header_words w) (omega (arith, ap length body_is, G-long))

  pub lent-decoded : decode w ≡ s
  unfolding decode
  lent-decoded = λ i. record { segments = (ap segments_of part-all ∙ segments-lent) i; lists = lists-read header-encodes i; spare = spare-read header-encodes i }

  -- The header has come back.
  pub header-put : (v : List ℕ) (n : ℕ) (spare : List ℕ) (lists : List (List ℕ)) → n ≡ pages_in (take header_words w) → v ≡ header_encoding n spare lists →
      v ++ drop header_words w ≡ encode (arranged s s.segments lists spare)
  unfolding encode
  header-put v n spare lists e f = (λ i. f i ++ body_is i) ∙ ap (λ k. header_encoding k spare lists ++ G) (e ∙ pages-lent)

  -- The pages' words have come back.
  pub body-put : (v : List ℕ) (m : List (Segment Zone)) → total m ≡ total s.segments → v ≡ segments_encoding m → take header_words w ++ v ≡ encode (arranged s m s.lists s.spare)
  unfolding encode
  body-put v m e f = (λ i. header_is i ++ f i) ∙ ap (λ k. header_encoding k s.spare s.lists ++ segments_encoding m) (sym e)

  -- One zone's words, and when they have come back.
  module _ (p : ℕ) (z : Zone) (b : ZoneAt s.segments p z) where
    abbrev there : Split (p * page_bytes) s.segments (record { away = 0; segment = zone z })
    there = split (p * page_bytes) s.segments b

    sound-all : Each Writable (there.before ++ (zone z ∷ there.behind))
    sound-all = subst (λ l. Each Writable l) there.whole h.sound

    pub zone-valid : ValidZone z
    zone-valid = (each_right there.before (zone z ∷ there.behind) sound-all).0.1

    starts : total there.before ≡ p
    starts = omega (arith, there.at)

    abbrev front : List ℕ
    front = H ++ segments_encoding there.before

    front_long : length front ≡ words_for p
    front_long =
        length-append H (segments_encoding there.before)
        ∙ (λ i. H-long i + length-segments there.before (each_left there.before (zone z ∷ there.behind) sound-all) i)
        ∙ ap (λ k. words_for k) starts

    abbrev rest : List ℕ
    rest = segments_encoding there.behind

    apart : (y : Zone) → H ++ segments_encoding (there.before ++ (zone y ∷ there.behind)) ≡ front ++ (zone_encoding y ++ rest)
    unfolding segments_encoding segment_encoding
    apart y = ap (λ l. H ++ l) (encoding-append there.before (zone y ∷ there.behind)) ∙ sym (append_assoc H (segments_encoding there.before) (zone_encoding y ++ rest))

    three : w ≡ front ++ (zone_encoding z ++ rest)
    three = two ∙ ap (λ m. H ++ segments_encoding m) there.whole ∙ apart z

    pub zone-inside : (p + zone_pages ≤ total s.segments) × (total s.segments ≤ most_pages) × (length w ≡ words_for (total s.segments))
    zone-inside = (omega (arith, starts, ap (λ l. total l) there.whole, total-append there.before (zone z ∷ there.behind)), h.fits.most, lent-long)

    module _ (a k : ℕ) (at : a ≡ words_for p) (size : k ≡ zone_words) where
      part-is : mid a k w ≡ zone_encoding z
      part-is = ap (mid a k) three ∙ mid_at front (zone_encoding z) rest a k (front_long ∙ sym at) (length-encoding z ∙ sym size)

      pub zone-lent : is_zone (mid a k w) ≡ true
      zone-lent = ap is_zone part-is ∙ encoding-zone z zone-valid

      pub zone-read : zone_of (mid a k w) ≡ z
      zone-read = ap zone_of part-is ∙ zone-decoded z zone-valid

      pub zone-put : (v : List ℕ) (z' : Zone) → v ≡ zone_encoding z' → put_mid a k w v ≡ encode (arranged s (put_zone p z' s.segments) s.lists s.spare)
      unfolding encode
      zone-put v z' e =
          ap (λ l. put_mid a k l v) three
          ∙ put-at front (zone_encoding z) rest v a k (front_long ∙ sym at) (length-encoding z ∙ sym size)
          ∙ ap (λ l. front ++ (l ++ rest)) e
          ∙ sym (apart z')
          ∙ (λ i. header_encoding (same i) s.spare s.lists ++ segments_encoding (sym (there.edits (λ _. zone z' ∷ [])) i))
        where
          same : total s.segments ≡ total (put_zone p z' s.segments)
          same = omega (
            arith,
            ap (λ l. total l) there.whole,
            ap (λ l. total l) (there.edits (λ _. zone z' ∷ [])),
            total-append there.before (zone z ∷ there.behind),
            total-append there.before (zone z' ∷ there.behind),
          )

-- A valid state's words.
pub valid-lent : (w : List ℕ) (s : State) → Valid s → w ≡ encode s → Encodes w s
valid-lent w s v e = record { words = e; fits = valid-fits s v; sound = all-writable false s.segments v.apart v.sound }

-- Words of some state are those of the state that they decode to.
pub lent : {w : List ℕ} {s : State} → Encodes w s → Lent w
lent {w} {s} h = subst (Encodes w) (sym (lent-decoded h)) h

-- The test of any words is exact: it holds just if they begin with the encoding of a valid state, and that state is the one decoded.
-- Assumes nothing.
use Prim.Native.Nat.{ℕ, zero, suc, ◌+◌, ◌*◌, ◌≤◌, ◌<◌}
use mathlib.Core.Path.{◌≡◌, refl, sym, ap, ◌∙◌}
use mathlib.Core.Logic.{◌↔◌}
use mathlib.Core.List.{List, [], ◌∷◌, ◌++◌}
use mathlib.Core.Option.{none, some}
use mathlib.Core.Bool.{Bool, true, false, ◌&&◌}
use native.Mathlib.Omega.{arith}
use lib.Dec.{ltb, leb}
use lib.ListN.{length, get_or, take, length-append, length-take}
use lib.Seq.{get_or-take, take-add, take-take, take_at, drop_at, take_all, length-take-le}
use borrow.Author.Tests.{leb-true, leb-false, le-leb, ltb-true, ltb-false}
use Rattle.lemmas.specs.Parts.{mid}
use Rattle.lemmas.specs.Zeros.{zeros}
use Rattle.lemmas.specs.Times.{times}
use Rattle.lemmas.proofs.Cases.{bool, refuted, true-false, and_left, and_right, and_both, none-some}
use Rattle.lemmas.proofs.Times.{times-nil}
use Rattle.lemmas.proofs.Parts.{length-mid}
use Rattle.lemmas.proofs.Zeros.{get_or-zeros, is-zeros}
use Rattle.model.specs.Numbers.{header_words, page_words, page_bytes}
use Rattle.model.specs.Sizes.{chunks}
use Rattle.model.specs.Arena.{Segment, run, direct, zone, total, Each}
use Rattle.model.specs.Zone.{Zone, touched, full, is_nil}
use Rattle.model.specs.State.{State, ZoneAt}
use Rattle.model.specs.PageMap.{padded, idle_zone}
use Rattle.model.specs.Valid.{Apart, ValidZone, ValidSegment, Valid, returned_at}
use Rattle.model.proofs.Sizes.{chunks-least}
use Rattle.model.proofs.Arena.{locate-past, each-locate}
use Rattle.model.proofs.Blocks.{all_zero-get_or, padded-in}
use Rattle.header.specs.Encoding.{header_encoding, Fits, pages_in, spare_in, lists_in, Encodes, Header, is_header}
use Rattle.header.proofs.Encoded.{length-header}
use Rattle.header.proofs.Exact.{check-header, encodes-check, pages-read, spare-read, lists-read}
use Rattle.header.proofs.Facts.{zeros-no-header}
use Rattle.pages.specs.Encoding.{segments_encoding, Writable}
use Rattle.pages.specs.Decoding.{segments_of, Holds}
use Rattle.pages.specs.Legal.{legal_segments}
use Rattle.pages.proofs.Laws.{length-segments, all_valid}
use Rattle.pages.proofs.Decoded.{segments-decoded}
use Rattle.pages.proofs.AllLegal.{legal-iff}
use Rattle.metadata.specs.Encoding.{encode, BeginsWith}
use Rattle.metadata.specs.Lists.{lists_legal}
use Rattle.metadata.specs.Decoding.{header_part, pages_part, decode, is_state, state_of}
use Rattle.metadata.proofs.Open.{few-open}
use Rattle.metadata.proofs.Lists.{Listed, lists-pass, open-count, lists-told}

-- An idle zone is not full: it has chunks, and none of them is live.
pub idle-not-full : (z : Zone) → ValidZone z → idle_zone z ≡ true → full z ≡ false
idle-not-full z v t = bool (leb (chunks z.class) (touched z))
    (λ u. rw u (go z.chain refl u))
    (λ u. rw u)
  where
    go : (l : List ℕ) → z.chain ≡ l → leb (chunks z.class) (touched z) ≡ true → is_nil l ≡ false
    go (i ∷ r) e u = refl
    go [] e u = absurd (
        let many = chunks-least z.class v.class in
        let handed : 0 < touched z = omega (arith, leb-true) in
        let none-live : get_or z.owners 0 0 ≡ 0 = sym (padded-in (chunks z.class) z.owners 0 (omega arith)) ∙ all_zero-get_or (padded (chunks z.class) z.owners) t 0 in
        omega (arith, v.chained 0, ap (times 0) e, times-nil 0, returned z.owners handed none-live))
      where
        returned : (o : List ℕ) → 0 < length o → get_or o 0 0 ≡ 0 → returned_at o 0 ≡ 1
        returned [] h g = absurd (omega arith)
        returned (zero ∷ r) h g = refl
        returned (suc k ∷ r) h g = absurd (omega arith)

-- Valid segments without runs that touch have words.
pub all-writable : (b : Bool) (m : List (Segment Zone)) → Apart b m → Each ValidSegment m → Each Writable m
all-writable b [] a h = tt
all-writable b (run n ∷ r) a h = ((a.1, tt), all-writable true r a.2 h.1)
all-writable b (direct n g ∷ r) a h = ((h.0.0, h.0), all-writable false r a h.1)
all-writable b (zone z ∷ r) a h = ((omega arith, h.0), all-writable false r a h.1)

-- A zone begins inside the arena.
zone-inside : (m : List (Segment Zone)) (p : ℕ) (z : Zone) → ZoneAt m p z → p < total m
zone-inside m p z e = bool (ltb p (total m)) (λ t. ltb-true p (total m) t) (λ t. none-some (sym (locate-past m (p * page_bytes) (omega (arith, ltb-false))) ∙ e))

-- The lists of a valid state.
lists_of : (s : State) → Valid s → Listed s.segments s.lists s.spare
lists_of s v = record { listed = v.listed; complete = v.complete; spared = v.spared; once = v.once; once-spare = v.once-spare; not-both = v.not-both }

idle-open : (s : State) → Valid s → (z : Zone) → idle_zone z ≡ true → (p : ℕ) → ZoneAt s.segments p z → full z ≡ false
idle-open s v z t p e = idle-not-full z (each-locate ValidSegment s.segments (p * page_bytes) v.sound e) t

pub valid-fits : (s : State) → Valid s → Fits (total s.segments) s.spare s.lists
valid-fits s v = record {
  least = v.least;
  most = v.most;
  few = v.few;
  classes = v.classes;
  room = omega (arith, open-count _ s.lists s.spare (idle-open s v) (lists_of s v), few-open s.segments, v.most);
  spare-pages = λ p i. let w = v.spared p i in omega (arith, zone-inside s.segments p w.0 w.1);
  list-pages = λ c p i. let w = v.listed c p i in omega (arith, zone-inside s.segments p w.0 w.1);
}

-- Words in two parts ---------------------------------------------------------------------------------------------------------------

-- Words w that begin with the parts h, of a words, and g, of k words. (Stated over any a: the header has 1,024.)
module _ (w h g : List ℕ) (a k : ℕ) (lh : length h ≡ a) (lg : length g ≡ k) where
  begins-long : take (length (h ++ g)) w ≡ h ++ g → a + k ≤ length w
  begins-long e = bool (leb (length (h ++ g)) (length w))
      (λ t. omega (arith, leb-true, length-append h g))
      (λ t. absurd (omega (arith, leb-false, ap length (sym (take_all (length (h ++ g)) w (omega (arith, leb-false (length (h ++ g)) (length w) t))) ∙ e))))

  begins-first : take (length (h ++ g)) w ≡ h ++ g → take a w ≡ h
  begins-first e = cc (take-take a (length (h ++ g)) w (omega (arith, length-append h g)), take_at h g a lh)

  begins-second : take (length (h ++ g)) w ≡ h ++ g → mid a k w ≡ g
  begins-second e =
      let both : take a w ++ mid a k w ≡ h ++ g = sym (take-add a k w) ∙ ap (λ j. take j w) (let q : a + k ≡ length (h ++ g) = omega (arith, length-append h g) in q) ∙ e in
      let front : length (take a w) ≡ a = cc (begins-first e) in
      cc (drop_at (take a w) (mid a k w) a front, drop_at h g a lh)

  begins-both : take a w ≡ h → mid a k w ≡ g → take (length (h ++ g)) w ≡ h ++ g
  begins-both p q = ap (λ j. take j w) (let r : length (h ++ g) ≡ a + k = omega (arith, length-append h g) in r) ∙ take-add a k w ∙ (λ j. p j ++ q j)

-- Words that pass -------------------------------------------------------------------------------------------------------------------

-- The parts of the test.
pub record Passed (w : List ℕ) : Type 0 where
  pub header : is_header (header_part w) ≡ true
  pub long : header_words + page_words * pages_in (header_part w) ≤ length w
  pub segments : legal_segments (pages_in (header_part w)) (pages_part w) ≡ true
  pub lists : lists_legal (decode w) ≡ true

pub passed : (w : List ℕ) → is_state w ≡ true → Passed w
unfolding is_state
passed w t =
    let H = is_header (header_part w) in
    let L = leb (header_words + page_words * pages_in (header_part w)) (length w) in
    let S = legal_segments (pages_in (header_part w)) (pages_part w) in
    let a = and_left _ _ t in
    let b = and_left (H && L) S a in
    record { header = and_left H L b; long = leb-true _ (length w) (and_right H L b); segments = and_right (H && L) S a; lists = and_right (H && L && S) _ t }

pub passes : (w : List ℕ) → Passed w → is_state w ≡ true
unfolding is_state
passes w p =
    let H = is_header (header_part w) in
    let L = leb (header_words + page_words * pages_in (header_part w)) (length w) in
    let S = legal_segments (pages_in (header_part w)) (pages_part w) in
    and_both _ _ (and_both (H && L) S (and_both H L p.header (le-leb _ (length w) p.long)) p.segments) p.lists

-- What the words hold: the header and the segments.
pub record Read (w : List ℕ) : Type 0 where
  pub header : Header (header_part w)
  pub long : header_words + page_words * pages_in (header_part w) ≤ length w
  pub segments : Holds (pages_part w) (pages_in (header_part w))
  pub apart : Apart false (segments_of (pages_part w))

read_of : (w : List ℕ) → Passed w → Read w
read_of w p =
    let H = check-header _ p.header in
    let S = (legal-iff _ _ (length-mid header_words _ w p.long) H.fits.most).0 p.segments in
    record { header = H; long = p.long; segments = S.0; apart = S.1 }

pub state-read : (w : List ℕ) → is_state w ≡ true → Read w
state-read w t = read_of w (passed w t)

decoded-lists : (w : List ℕ) → lists_legal (decode w) ≡ true → Listed (segments_of (pages_part w)) (lists_in (header_part w)) (spare_in (header_part w))
unfolding lists_legal decode
decoded-lists w t = lists-told _ _ _ t

pub state-valid : (w : List ℕ) → is_state w ≡ true → Valid (decode w)
unfolding decode
state-valid w t =
    let p = passed w t in
    let r = read_of w p in
    let l = decoded-lists w p.lists in
    record {
      least = omega arith;
      most = omega arith;
      apart = r.apart;
      sound = all_valid (segments_of (pages_part w)) r.segments.sound;
      classes = r.header.fits.classes;
      listed = l.listed;
      complete = l.complete;
      few = r.header.fits.few;
      spared = l.spared;
      once = l.once;
      once-spare = l.once-spare;
      not-both = l.not-both;
    }

-- The encoding of what is read.
encoding-read : (w : List ℕ) → Read w → encode (decode w) ≡ header_part w ++ pages_part w
unfolding encode decode
encoding-read w r = (λ i. header_encoding (r.segments.covers i) (spare_in (header_part w)) (lists_in (header_part w)) ++ segments_encoding (segments_of (pages_part w))) ∙
    (λ i. sym r.header.words i ++ sym r.segments.words i)

front_long : (w : List ℕ) (a k : ℕ) → a + k ≤ length w → length (take a w) ≡ a
front_long w a k h = length-take-le a w (omega arith)

-- It has the pages that the header names.
pub state-pages : (w : List ℕ) → is_state w ≡ true → total (decode w).segments ≡ pages_in (header_part w)
unfolding decode
state-pages w t = (state-read w t).segments.covers

pub state-begins : (w : List ℕ) → is_state w ≡ true → BeginsWith w (decode w)
state-begins w t =
    let r = state-read w t in
    rw (encoding-read w r) (begins-both w (header_part w) (pages_part w) header_words (page_words * pages_in (header_part w))
    (front_long w header_words (page_words * pages_in (header_part w)) r.long) (length-mid header_words (page_words * pages_in (header_part w)) w r.long) refl refl)

-- The encoding of a valid state passes, and decodes to it -----------------------------------------------------------------------------

module _ (s : State) (v : Valid s) where
  abbrev H : List ℕ
  H = header_encoding (total s.segments) s.spare s.lists

  abbrev G : List ℕ
  G = segments_encoding s.segments

  writable : Each Writable s.segments
  writable = all-writable false s.segments v.apart v.sound

  G-long : length G ≡ page_words * total s.segments
  G-long = length-segments _ writable

  pub encode-long : length (encode s) ≡ header_words + page_words * total s.segments
  unfolding encode
  encode-long = length-append H G ∙ (λ i. length-header (total s.segments) s.spare s.lists i + G-long i)

  module _ (w : List ℕ) (b : BeginsWith w s) where
    two : take (length (H ++ G)) w ≡ H ++ G
    unfolding encode
    two = b

    header_is : header_part w ≡ H
    header_is = begins-first w H G header_words _ (length-header _ s.spare s.lists) G-long two

    header-reads : Encodes (header_part w) (total s.segments) s.spare s.lists
    header-reads = record { words = header_is; fits = valid-fits s v }

    count-is : pages_in (header_part w) ≡ total s.segments
    count-is = pages-read header-reads

    pages-are : pages_part w ≡ G
    pages-are = rw count-is (begins-second w H G header_words (page_words * total s.segments) (length-header (total s.segments) s.spare s.lists) G-long two)

    segments-are : segments_of (pages_part w) ≡ s.segments
    segments-are = ap segments_of pages-are ∙ segments-decoded _ writable

    -- Decoding gives the state back.
    pub begins-decoded : decode w ≡ s
    unfolding decode
    begins-decoded = λ i. record { segments = segments-are i; lists = lists-read header-reads i; spare = spare-read header-reads i }

    holds-is : Holds (pages_part w) (pages_in (header_part w))
    holds-is = record { words = cc (pages-are, segments-are); sound = rw segments-are writable; covers = cc (segments-are, count-is); most = omega (arith, count-is) }

    lists-are : lists_legal s ≡ true
    unfolding lists_legal
    lists-are = lists-pass _ s.lists s.spare (idle-open s v) (lists_of s v)

    pub begins-state : is_state w ≡ true
    begins-state =
        let long : header_words + page_words * total s.segments ≤ length w = begins-long w H G header_words _ (length-header _ s.spare s.lists) G-long two in
        passes w (record {
          header = encodes-check header-reads;
          long = omega (arith, count-is);
          segments = (legal-iff _ _ (cc (pages-are, G-long, count-is)) (omega (arith, count-is))).1 (holds-is, rw segments-are v.apart);
          lists = rw begins-decoded lists-are;
        })

-- THE theorem of the test.
pub state-iff : (w : List ℕ) → (is_state w ≡ true) ↔ ((s : State) × Valid s × BeginsWith w s)
state-iff w = (λ t. (decode w, state-valid w t, state-begins w t), λ f. begins-state f.0 f.1 w f.2)

-- Each valid state has exactly one encoding: equal encodings are of equal states.
pub encode-once : (s t : State) → Valid s → Valid t → encode s ≡ encode t → s ≡ t
encode-once s t v u e = sym (begins-decoded s v (encode s) (take_all (length (encode s)) (encode s) (omega arith))) ∙ begins-decoded t u (encode s) (rw e (take_all (length (encode t)) (encode t) (omega arith)))

-- The state of words, by the test.
pub state_of-some : (w : List ℕ) (s : State) → Valid s → BeginsWith w s → state_of w ≡ some s
unfolding state_of
state_of-some w s v b = rw (begins-state s v w b) (ap some (begins-decoded s v w b))

pub decode-encoded : (s : State) → Valid s → state_of (encode s) ≡ some s
decode-encoded s v = state_of-some (encode s) s v (take_all (length (encode s)) (encode s) (omega arith))

pub state_of-none : (w : List ℕ) → is_state w ≡ false → state_of w ≡ none
unfolding state_of
state_of-none w t = rw t

-- Zeros of any length encode none.
some-zeros : (a n : ℕ) → take a (zeros n) ≡ zeros (length (take a (zeros n)))
some-zeros a n = is-zeros _ (take a (zeros n)) refl (λ i l. get_or-take a (zeros n) i 0 (omega (arith, length-take a (zeros n))) ∙ get_or-zeros n i)

zeros-part : (a n : ℕ) → is_header (take a (zeros n)) ≡ false
zeros-part a n = ap is_header (some-zeros a n) ∙ zeros-no-header _

pub zeros-none : (n : ℕ) → is_state (zeros n) ≡ false
zeros-none n = refuted _ (λ t. true-false (passed (zeros n) t).header (zeros-part header_words n))

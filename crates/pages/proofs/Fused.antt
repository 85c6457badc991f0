-- Words that become zero, and the words of a segment and the runs on both sides of it that become those of one run. Assumes nothing.
use Prim.Native.Nat.{ℕ, zero, suc, ◌+◌, ◌-◌, ◌*◌, ◌≤◌, ◌<◌}
use mathlib.Core.Path.{◌≡◌, refl, sym, ap, ◌∙◌}
use mathlib.Core.List.{List, [], ◌∷◌, ◌++◌, append_assoc, append-nil}
use native.Mathlib.Omega.{arith}
use lib.Dec.{ltb}
use lib.ListN.{length, get_or, take, drop, set, length-append, length-set, get_or-append}
use lib.Seq.{get_or-set_same, get_or-set_other, get_or-append-add}
use borrow.Author.Tests.{ltb-true, ltb-false}
use Rattle.lemmas.specs.Zeros.{zeros, Zero}
use Rattle.lemmas.specs.Parts.{put_mid}
use Rattle.lemmas.proofs.Cases.{bool}
use Rattle.lemmas.proofs.Zeros.{length-zeros, get_or-zeros, is-zeros, zeros-add}
use Rattle.lemmas.proofs.Parts.{mid_at, put-at}
use Rattle.model.specs.Numbers.{most_pages, page_words}
use Rattle.model.specs.Arena.{Segment, run, direct, zone, pages}
use Rattle.model.specs.Zone.{Zone}
use Rattle.model.specs.Pages.{with_run}
use Rattle.pages.specs.Encoding.{segment_encoding, segments_encoding}
use Rattle.pages.specs.Places.{Blank}
use Rattle.pages.proofs.Laws.{length-segment, encoding-append, encoding-one, kind-is}
use Rattle.pages.proofs.Words.{run-zero, direct-zero}
use Rattle.pages.proofs.Halves.{behind-part, behind-put}
use Rattle.zone.specs.Encoding.{kind_zone}

-- Words that are zero from k on, and the others stored as zero.
zeroed-two : (w : List ℕ) → 2 ≤ length w → Zero w 2 (length w) → set (set w 0 0) 1 0 ≡ zeros (length w)
zeroed-two w l z = is-zeros (length w) _ (length-set (set w 0 0) 1 0 ∙ length-set w 0 0) go
  where
    go : (i : ℕ) → i < length w → get_or (set (set w 0 0) 1 0) i 0 ≡ 0
    go zero h = get_or-set_other (set w 0 0) 1 0 0 0 (omega arith) ∙ get_or-set_same w 0 0 0 h
    go (suc zero) h = get_or-set_same (set w 0 0) 1 0 0 (omega (arith, length-set w 0 0))
    go (suc (suc i)) h = get_or-set_other (set w 0 0) 1 _ 0 0 (omega arith) ∙ get_or-set_other w 0 _ 0 0 (omega arith) ∙ z.at _ (omega arith) h

zeroed-three : (w : List ℕ) → 3 ≤ length w → Zero w 3 (length w) → set (set (set w 0 0) 1 0) 2 0 ≡ zeros (length w)
zeroed-three w l z = is-zeros (length w) _ (length-set (set (set w 0 0) 1 0) 2 0 ∙ length-set (set w 0 0) 1 0 ∙ length-set w 0 0) go
  where
    u : List ℕ
    u = set (set w 0 0) 1 0

    go : (i : ℕ) → i < length w → get_or (set (set (set w 0 0) 1 0) 2 0) i 0 ≡ 0
    go zero h = get_or-set_other u 2 0 0 0 (omega arith) ∙ get_or-set_other (set w 0 0) 1 0 0 0 (omega arith) ∙ get_or-set_same w 0 0 0 h
    go (suc zero) h = get_or-set_other u 2 1 0 0 (omega arith) ∙ get_or-set_same (set w 0 0) 1 0 0 (omega (arith, length-set w 0 0))
    go (suc (suc zero)) h = get_or-set_same u 2 0 0 (omega (arith, length-set (set w 0 0) 1 0, length-set w 0 0))
    go (suc (suc (suc i))) h = get_or-set_other u 2 _ 0 0 (omega arith) ∙ get_or-set_other (set w 0 0) 1 _ 0 0 (omega arith) ∙ get_or-set_other w 0 _ 0 0 (omega arith) ∙ z.at _ (omega arith) h

pub segment-long : (w : List ℕ) (x : Segment Zone) → 0 < pages x → w ≡ segment_encoding x → page_words ≤ length w
segment-long w x p e = omega (arith, ap length e, length-segment x p)

pub erased : (w : List ℕ) (x : Segment Zone) → 0 < pages x → w ≡ segment_encoding x → (get_or w 0 0 ≡ kind_zone → ⊥) → set (set (set w 0 0) 1 0) 2 0 ≡ zeros (length w)
erased w (run n) p e k = zeroed-three w (omega (arith, segment-long w (run n) p e)) (record { at = λ i a b. ap (λ l. get_or l i 0) e ∙ (run-zero n).at i (omega arith) (omega (arith, ap length e, length-segment (run n) p)) })
erased w (direct n g) p e k = zeroed-three w (omega (arith, segment-long w _ p e)) (record { at = λ i a b. ap (λ l. get_or l i 0) e ∙ (direct-zero n g).at i a (omega (arith, ap length e, length-segment (direct n g) p)) })
erased w (zone z) p e k = absurd (k (cc (append-nil (segment_encoding (zone z)), kind-is (zone z) [])))

-- What is left of a run: its words, their number, their zeros.
pub rest-length : (k : ℕ) → length (segments_encoding (with_run k [])) ≡ page_words * k
unfolding segments_encoding
rest-length zero = refl
rest-length (suc k) = ap length (encoding-one _) ∙ length-segment _ (omega arith)

pub rest-zeros : (k : ℕ) → Zero (segments_encoding (with_run k [])) 2 (page_words * k)
rest-zeros zero = record { at = λ i a b. absurd (omega arith) }
rest-zeros (suc k) = record { at = λ i a b. ap (λ l. get_or l i 0) (encoding-one _) ∙ (run-zero (suc k)).at i a b }

pub rest-long : (w : List ℕ) (k : ℕ) → w ≡ segments_encoding (with_run k []) → (length w ≡ 0 → ⊥) → page_words ≤ length w
rest-long w zero e h = absurd (h (cc (rest-length 0)))
rest-long w (suc k) e h = omega (arith, ap length e, rest-length (suc k))

pub rest-erased : (w : List ℕ) (k : ℕ) → w ≡ segments_encoding (with_run k []) → (length w ≡ 0 → ⊥) → set (set w 0 0) 1 0 ≡ zeros (length w)
rest-erased w k e h = zeroed-two w (omega (arith, rest-long w k e h)) (record { at = λ i a b. ap (λ l. get_or l i 0) e ∙ (rest-zeros k).at i a (omega (arith, ap length e, rest-length k)) })

pub nothing-erased : (w : List ℕ) → length w ≡ 0 → w ≡ zeros (length w)
nothing-erased w e = is-zeros (length w) w refl (λ i l. absurd (omega arith))

-- The segment x between runs of `before` and `after` pages --------------------------------------------------------------------------

module _ (w : List ℕ) (before len after : ℕ) (x : Segment Zone) (size : pages x ≡ len) (pos : 0 < len) (few : before + len + after ≤ most_pages)
    (is : w ≡ segments_encoding (with_run before (x ∷ with_run after []))) where
  abbrev B : List ℕ
  B = segments_encoding (with_run before [])

  abbrev X : List ℕ
  X = segment_encoding x

  abbrev C : List ℕ
  C = segments_encoding (with_run after [])

  in-front : (k : ℕ) (r : List (Segment Zone)) → segments_encoding (with_run k r) ≡ segments_encoding (with_run k []) ++ segments_encoding r
  in-front zero r = encoding-append [] r
  in-front (suc k) r = encoding-append _ r

  three : w ≡ B ++ (X ++ C)
  unfolding segments_encoding
  three = is ∙ in-front before _

  x-length : length X ≡ page_words * len
  x-length = cc (length-segment x (omega arith))

  x-count : length X ≡ page_words * before + page_words * len - page_words * before
  x-count = omega (arith, x-length)

  pub fuse-long : length w ≡ page_words * (before + len + after)
  fuse-long = omega (arith, ap length three, length-append B (X ++ C), length-append X C, rest-length before, x-length, rest-length after)

  pub fuse-part : take (page_words * before + page_words * len - page_words * before) (drop (page_words * before) w) ≡ X
  fuse-part = rw three (mid_at B X C (page_words * before) (page_words * before + page_words * len - page_words * before) (rest-length before) x-count)

  -- The words once x is erased: z, as many zeros.
  module _ (z : List ℕ) (made : z ≡ zeros (length (take (page_words * before + page_words * len - page_words * before) (drop (page_words * before) w)))) where
    abbrev u : List ℕ
    u = put_mid (page_words * before) (page_words * before + page_words * len - page_words * before) w z

    z-is : z ≡ zeros (page_words * len)
    z-is = cc (made, fuse-part, x-length)

    u-is : u ≡ (B ++ z) ++ C
    u-is = cc (three, put-at B X C z (page_words * before) (page_words * before + page_words * len - page_words * before) (rest-length before) x-count, append_assoc B z C)

    front_long : length (B ++ z) ≡ page_words * before + page_words * len
    front_long = omega (arith, length-append B z, rest-length before, ap length z-is, length-zeros (page_words * len))

    pub erased-long : length u ≡ page_words * (before + len + after)
    erased-long = omega (arith, ap length u-is, length-append (B ++ z) C, front_long, rest-length after)

    pub rest_part : take (length u - (page_words * before + page_words * len)) (drop (page_words * before + page_words * len) u) ≡ C
    rest_part = behind-part u (B ++ z) C u-is _ front_long

    -- The words once the run behind is erased too: y, as many zeros.
    pub fuse-blank : (y : List ℕ) → y ≡ zeros (length (take (length u - (page_words * before + page_words * len)) (drop (page_words * before + page_words * len) u))) → Blank (put_mid (page_words * before + page_words * len) (length u - (page_words * before + page_words * len)) u y) 2 (before + len + after)
    fuse-blank y e = rw put (record {
      long = omega (arith, length-append B (zeros (page_words * len + page_words * after)), rest-length before, length-zeros (page_words * len + page_words * after));
      some = omega arith;
      most = few;
      zero = record {
        at = λ i a b. bool (ltb i (length B))
            (λ t. get_or-append B (zeros (page_words * len + page_words * after)) 0 i (ltb-true i (length B) t) ∙ (rest-zeros before).at i a (omega (arith, ltb-true i (length B) t, rest-length before)))
            (λ t. ap (λ j. get_or (B ++ zeros (page_words * len + page_words * after)) j 0) (let q : i ≡ length B + (i - length B) = omega (arith, ltb-false i (length B) t) in q) ∙ get_or-append-add B (zeros (page_words * len + page_words * after)) (i - length B) 0 ∙ get_or-zeros (page_words * len + page_words * after) (i - length B));
      };
    })
      where
        y-is : y ≡ zeros (page_words * after)
        y-is = cc (e, rest_part, rest-length after)

        put : put_mid (page_words * before + page_words * len) (length u - (page_words * before + page_words * len)) u y ≡ B ++ zeros (page_words * len + page_words * after)
        put = behind-put u (B ++ z) C u-is _ front_long y ∙ append_assoc B z y ∙ (λ i. B ++ (z-is i ++ y-is i)) ∙ ap (λ l. B ++ l) (sym (zeros-add _ _))

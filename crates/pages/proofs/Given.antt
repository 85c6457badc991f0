-- Pages that come back: the segment with the runs on both sides of it as one part, and the joined segments. Assumes nothing.
use Prim.Native.Nat.{ℕ, zero, suc, ◌+◌, ◌-◌, ◌*◌, ◌≤◌, ◌<◌}
use mathlib.Core.Path.{◌≡◌, refl, sym, ap, ◌∙◌, subst}
use mathlib.Core.List.{List, [], ◌∷◌, ◌++◌, append_assoc}
use mathlib.Core.Bool.{Bool, true, false}
use native.Mathlib.Omega.{arith}
use lib.ListN.{length, take, drop}
use Rattle.lemmas.specs.Parts.{put_mid}
use Rattle.lemmas.proofs.Cases.{true-false}
use Rattle.model.specs.Numbers.{most_pages, page_words, page_bytes}
use Rattle.model.specs.Arena.{Segment, run, direct, zone, pages, total}
use Rattle.model.specs.Zone.{Zone}
use Rattle.model.specs.Valid.{Apart}
use Rattle.model.specs.Pages.{with_run, free_pages, joined, release}
use Rattle.model.proofs.Arena.{total-append}
use Rattle.model.proofs.Joins.{total-with_run, run-append}
use Rattle.model.proofs.Local.{ends_run, joined-local}
use Rattle.pages.specs.Encoding.{segment_encoding, segments_encoding}
use Rattle.pages.specs.Decoding.{Encodes}
use Rattle.pages.specs.Places.{run_pages, run_at_end, run_at_start, Stands}
use Rattle.pages.proofs.Laws.{encoding-one, is_run}
use Rattle.pages.proofs.Walk.{read_at}
use Rattle.pages.proofs.Middle.{part-inside, part-words, part-put, edit-stands}

-- The part of an apart list in front of and behind a segment that is no run.
pub apart-front : (b : Bool) (l r : List (Segment Zone)) → Apart b (l ++ r) → Apart b l
apart-front b [] r h = tt
apart-front b (run n ∷ l) r h = (h.0, h.1, apart-front true l r h.2)
apart-front b (direct n g ∷ l) r h = apart-front false l r h
apart-front b (zone z ∷ l) r h = apart-front false l r h

pub apart_from : (b : Bool) (l r : List (Segment Zone)) → Apart b (l ++ r) → (c : Bool) × Apart c r
apart_from b [] r h = (b, h)
apart_from b (run n ∷ l) r h = apart_from true l r h.2
apart_from b (direct n g ∷ l) r h = apart_from false l r h
apart_from b (zone z ∷ l) r h = apart_from false l r h

apart-past : (b : Bool) (x : Segment Zone) (r : List (Segment Zone)) → 0 < pages x → run_pages x ≡ 0 → Apart b (x ∷ r) → Apart false r
apart-past b (run n) r p e h = absurd (omega arith)
apart-past b (direct n g) r p e h = h
apart-past b (zone z) r p e h = h

-- A list without the run that ends it.
record Ended (l : List (Segment Zone)) (b : ℕ) : Type 0 where
  rest : List (Segment Zone)
  is : l ≡ rest ++ with_run b []
  no_run : ends_run false rest ≡ false

ended-one : (x : Segment Zone) → (run_pages x ≡ 0 → 0 < pages x → ends_run false (x ∷ []) ≡ false) × (0 < run_pages x → x ∷ [] ≡ with_run (run_pages x) [])
ended-one (run zero) = (λ e p. absurd (omega arith), λ p. absurd (omega arith))
ended-one (run (suc n)) = (λ e p. absurd (omega arith), λ p. refl)
ended-one (direct n g) = (λ e p. refl, λ p. absurd (omega arith))
ended-one (zone z) = (λ e p. refl, λ p. absurd (omega arith))

-- The last segment of a list that is not empty decides; what stands in front does not.
ends-any : (b c : Bool) (y : Segment Zone) (r : List (Segment Zone)) → ends_run b (y ∷ r) ≡ ends_run c (y ∷ r)
ends-any b c (run n) r = refl
ends-any b c (direct n g) r = refl
ends-any b c (zone z) r = refl

ends-cons : (b : Bool) (x : Segment Zone) (l : List (Segment Zone)) → ends_run b (x ∷ l) ≡ ends_run (is_run x) l
ends-cons b (run n) l = refl
ends-cons b (direct n g) l = refl
ends-cons b (zone z) l = refl

-- A segment in front of a run that ends the list is no run.
apart-two : (b : Bool) (x : Segment Zone) (k : ℕ) (r : List (Segment Zone)) → Apart b (x ∷ (run k ∷ r)) → is_run x ≡ false
apart-two b (run n) k r h = true-false refl h.2.0
apart-two b (direct n g) k r h = refl
apart-two b (zone z) k r h = refl

apart-tail : (b : Bool) (x : Segment Zone) (r : List (Segment Zone)) → Apart b (x ∷ r) → (c : Bool) × Apart c r
apart-tail b x r h = apart_from b (x ∷ []) r h

apart-pos : (b : Bool) (x : Segment Zone) (r : List (Segment Zone)) → Apart b (x ∷ r) → run_pages x ≡ 0 → is_run x ≡ false
apart-pos b (run n) r h e = absurd (omega arith)
apart-pos b (direct n g) r h e = refl
apart-pos b (zone z) r h e = refl

ended : (b : Bool) (l : List (Segment Zone)) → Apart b l → Ended l (run_at_end 0 l)
ended b [] h = record { rest = []; is = refl; no_run = refl }
ended b (x ∷ []) h = one (run_pages x) refl
  where
    one : (k : ℕ) → run_pages x ≡ k → Ended (x ∷ []) (run_pages x)
    one zero e = rw e (record { rest = x ∷ []; is = refl; no_run = ends-cons false x [] ∙ apart-pos b x [] h e })
    one (suc k) e = record { rest = []; is = (ended-one x).1 (omega arith); no_run = refl }
ended b (x ∷ (y ∷ r)) h = more (ended (apart-tail b x (y ∷ r) h).0 (y ∷ r) (apart-tail b x (y ∷ r) h).1)
  where
    more : Ended (y ∷ r) (run_at_end 0 (y ∷ r)) → Ended (x ∷ (y ∷ r)) (run_at_end 0 (x ∷ (y ∷ r)))
    more e = record { rest = x ∷ e.rest; is = cc; no_run = go e.rest refl }
      where
        go : (a : List (Segment Zone)) → e.rest ≡ a → ends_run false (x ∷ e.rest) ≡ false
        go [] q = ap (λ l. ends_run false (x ∷ l)) q ∙ ends-cons false x [] ∙ alone (run_at_end 0 (y ∷ r)) (cc)
          where
            alone : (k : ℕ) → y ∷ r ≡ with_run k [] → is_run x ≡ false
            alone zero u = absurd (let z : ◌≡◌ {A = ℕ} 0 1 = ap (λ l. length l) (sym u) ∙ omega (arith, ap (λ l. length l) u) in omega arith)
            alone (suc k) u = apart-two b x (suc k) [] (subst (λ l. Apart b (x ∷ l)) u h)
        go (z ∷ a) q = cc (ends-cons false x (z ∷ a), ends-any (is_run x) false z a)

-- A list behind a segment that is no run, without the run that begins it.
pub record Begun (l : List (Segment Zone)) (k : ℕ) : Type 0 where
  pub rest : List (Segment Zone)
  pub is : l ≡ with_run k rest
  pub apart : Apart true rest

pub begun : (l : List (Segment Zone)) → Apart false l → Begun l (run_at_start l)
begun [] h = record { rest = []; is = refl; apart = tt }
begun (run zero ∷ r) h = absurd (omega arith)
begun (run (suc n) ∷ r) h = record { rest = r; is = refl; apart = h.2 }
begun (direct n g ∷ r) h = record { rest = direct n g ∷ r; is = refl; apart = h }
begun (zone z ∷ r) h = record { rest = zone z ∷ r; is = refl; apart = h }

-- A segment of len pages at page p, behind a run of b pages (0: none), has come back and is joined with that run and with the one of
-- `after` pages (0: none) that stood behind it.
pub record Joined (m : List (Segment Zone)) (p b len : ℕ) (behind : List (Segment Zone)) : Type 0 where
  pub pre : List (Segment Zone)
  pub post : List (Segment Zone)
  pub after : ℕ
  pub whole : release (p * page_bytes) m ≡ pre ++ (run (b + len + after) ∷ post)
  pub starts : total pre ≡ p - b
  pub low : b ≤ p
  pub behind-is : behind ≡ with_run after post

module _ {w : List ℕ} {m : List (Segment Zone)} {n p b len : ℕ} {x : Segment Zone} (h : Encodes w m n) (ap-m : Apart false m) (s : Stands m p b x) (size : pages x ≡ len) (no : run_pages x ≡ 0) where
  pos : 0 < pages x
  pos = (read_at h s).ok.0

  all : Apart false (s.before ++ (x ∷ s.behind))
  all = subst (Apart false) s.whole ap-m

  left : Ended s.before (run_at_end 0 s.before)
  left = ended false s.before (apart-front false s.before _ all)

  right : Begun s.behind (run_at_start s.behind)
  right = let a = apart_from false s.before _ all in begun s.behind (apart-past a.0 x s.behind pos no a.1)

  abbrev after : ℕ
  after = run_at_start s.behind

  left_is : s.before ≡ left.rest ++ with_run b []
  left_is = cc (left.is, s.ends)

  abbrev between : List (Segment Zone)
  between = with_run b (x ∷ with_run after [])

  whole_is : m ≡ left.rest ++ (between ++ right.rest)
  whole_is = s.whole ∙ (λ i. left_is i ++ (x ∷ right.is i)) ∙ append_assoc left.rest _ _ ∙ ap (λ l. left.rest ++ l) (run-append b _ ∙ join b)
    where
      tail : x ∷ with_run after right.rest ≡ (x ∷ with_run after []) ++ right.rest
      tail = cc (run-append after right.rest)

      join : (k : ℕ) → with_run k (x ∷ with_run after right.rest) ≡ with_run k (x ∷ with_run after []) ++ right.rest
      join zero = tail
      join (suc k) = cc tail

  starts : total left.rest ≡ p - b
  starts = omega (arith, ap (λ l. total l) left_is, total-append left.rest (with_run b []), total-with_run {Z = Zone} b [])

  between-size : total between ≡ b + len + after
  between-size = omega (arith, total-with_run b (x ∷ with_run after []), total-with_run {Z = Zone} after [])

  pub given_inside : (b ≤ p) × (p - b + (b + len + after) ≤ n) × (n ≤ most_pages) × (length w ≡ page_words * n) × (0 < len)
  given_inside =
      let q = part-inside h left.rest between _ whole_is (p - b) _ starts between-size in
      (omega (arith, ap (λ l. total l) left_is, total-append left.rest (with_run b []), total-with_run {Z = Zone} b []), q.0, q.1, q.2, omega (arith, pos))

  pub given-words : (r : ℕ) → r ≡ after → take (page_words * (p - b) + page_words * (b + len + r) - page_words * (p - b)) (drop (page_words * (p - b)) w) ≡ segments_encoding (with_run b (x ∷ with_run r []))
  given-words r e = rw e (part-words h left.rest between right.rest whole_is (p - b) (b + len + after) starts between-size)

  -- The joined segments.
  joined_is : release (p * page_bytes) m ≡ left.rest ++ (run (b + len + after) ∷ right.rest)
  joined_is =
      ap (joined (λ _. false) 0) (edit-stands s free_pages pos ∙ (λ i. left_is i ++ (run (size i) ∷ right.is i)) ∙ append_assoc left.rest _ _ ∙ ap (λ l. left.rest ++ l) (run-append b _))
      ∙ joined-local left.rest _ b len after (omega (arith, pos)) (apart-front false left.rest _ (subst (Apart false) left_is (apart-front false s.before _ all))) left.no_run right.apart

  pub given-put : (r : ℕ) → r ≡ after → (v : List ℕ) → v ≡ segment_encoding (run (b + len + r)) → put_mid (page_words * (p - b)) (page_words * (p - b) + page_words * (b + len + r) - page_words * (p - b)) w v ≡ segments_encoding (release (p * page_bytes) m)
  given-put r e v f = subst (λ k. v ≡ segment_encoding (run (b + len + k)) → put_mid (page_words * (p - b)) (page_words * (p - b) + page_words * (b + len + k) - page_words * (p - b)) w v ≡ segments_encoding (release (p * page_bytes) m)) (sym e)
      (λ g. part-put h left.rest between _ whole_is (p - b) _ starts between-size _ v (g ∙ sym (encoding-one _)) ∙ ap segments_encoding (sym joined_is)) f

  -- The run that the pages are part of afterwards, and what stands before and behind it.
  pub given-run : Joined m p b len s.behind
  given-run = record { pre = left.rest; post = right.rest; after = after; whole = joined_is; starts = starts; low = given_inside.0; behind-is = right.is }

-- A walk over the segments from page to page: what stands at a page, and one law for every loop that goes on behind a segment.
-- Assumes nothing.
use Prim.Native.Nat.{ℕ, ◌+◌, ◌*◌, ◌≤◌, ◌<◌}
use mathlib.Core.Path.{◌≡◌, refl, sym, ap, ◌∙◌, subst}
use mathlib.Core.List.{List, [], ◌∷◌, ◌++◌, append_assoc}
use native.Mathlib.Omega.{arith}
use native.Mathlib.Nat.{add-zero}
use lib.ListN.{length, get_or, drop}
use lib.Seq.{drop_at, drop-drop, get_or-drop}
use Rattle.model.specs.Numbers.{most_pages, page_words}
use Rattle.model.specs.Arena.{Segment, pages, total, Each}
use Rattle.model.specs.Zone.{Zone}
use Rattle.model.proofs.Arena.{total-append}
use Rattle.pages.specs.Encoding.{kind_of, segment_encoding, segments_encoding, Writable}
use Rattle.pages.specs.Decoding.{segments_of, Encodes, Holds}
use Rattle.pages.specs.Places.{run_pages, run_at_end, run_at_start, Stands, Passed}
use Rattle.pages.proofs.Laws.{length-segments, encoding-append, kind-is, size_is, drop-segment, each_left, each_right}
use Rattle.zone.specs.Encoding.{kind_zone}

pub encodes-length : {w : List ℕ} {m : List (Segment Zone)} {n : ℕ} → Encodes w m n → length w ≡ page_words * n
encodes-length {w} {m} {n} h = cc (length-segments m h.sound)

-- What the words say of a segment x that begins at page p.
pub record Read (w : List ℕ) (n p : ℕ) (x : Segment Zone) : Type 0 where
  pub long : length w ≡ page_words * n
  pub few : n ≤ most_pages
  pub ok : Writable x
  pub kind : get_or w (page_words * p) 0 ≡ kind_of x
  pub size : (kind_of x ≡ kind_zone → ⊥) → get_or w (page_words * p + 1) 0 ≡ pages x
  pub words : drop (page_words * p) w ≡ segment_encoding x ++ drop (page_words * (p + pages x)) w
  pub inside : p + pages x ≤ n

-- The words from page p on are those of `a ++ (x ∷ b)` behind a.
pub read_at : {w : List ℕ} {m : List (Segment Zone)} {n p b : ℕ} {x : Segment Zone} → Encodes w m n → Stands m p b x → Read w n p x
unfolding segments_encoding
read_at {w} {m} {n} {p} {b} {x} h s =
    let sound : Each Writable (s.before ++ (x ∷ s.behind)) = subst (λ l. Each Writable l) s.whole h.sound in
    let ok : Writable x = (each_right s.before (x ∷ s.behind) sound).0 in
    let words : w ≡ segments_encoding s.before ++ (segment_encoding x ++ segments_encoding s.behind) = h.words ∙ ap segments_encoding s.whole ∙ encoding-append s.before (x ∷ s.behind) in
    let front : length (segments_encoding s.before) ≡ page_words * p = length-segments s.before (each_left s.before (x ∷ s.behind) sound) ∙ ap (λ k. page_words * k) s.starts in
    let from : drop (page_words * p) w ≡ segment_encoding x ++ segments_encoding s.behind = ap (drop (page_words * p)) words ∙ drop_at (segments_encoding s.before) (segment_encoding x ++ segments_encoding s.behind) (page_words * p) front in
    let after : drop (page_words * (p + pages x)) w ≡ segments_encoding s.behind = ap (λ k. drop k w) (let q : page_words * (p + pages x) ≡ page_words * p + page_words * pages x = omega arith in q) ∙ sym (drop-drop (page_words * pages x) (page_words * p) w) ∙ ap (drop (page_words * pages x)) from ∙ drop-segment x (segments_encoding s.behind) ok.0 in
    record {
      long = encodes-length h;
      few = h.most;
      ok = ok;
      kind = ap (λ i. get_or w i 0) (sym (add-zero (page_words * p))) ∙ sym (get_or-drop (page_words * p) w 0 0) ∙ ap (λ l. get_or l 0 0) from ∙ kind-is x (segments_encoding s.behind);
      size = λ k. sym (get_or-drop (page_words * p) w 1 0) ∙ ap (λ l. get_or l 1 0) from ∙ size_is x (segments_encoding s.behind) k;
      words = from ∙ ap (λ l. segment_encoding x ++ l) (sym after);
      inside = omega (arith, h.covers, s.starts, ap (λ l. total l) s.whole, total-append s.before (x ∷ s.behind));
    }

pub passed_none : (m : List (Segment Zone)) → Passed m 0 0 m
passed_none m = record { pre = []; whole = refl; starts = refl; ends = refl }

pub run-at-end : (b : ℕ) (a : List (Segment Zone)) (x : Segment Zone) → run_at_end b (a ++ (x ∷ [])) ≡ run_pages x
run-at-end b [] x = refl
run-at-end b (y ∷ a) x = run-at-end _ a x

at-end-append : (b : ℕ) (a c : List (Segment Zone)) → run_at_end b (a ++ c) ≡ run_at_end (run_at_end b a) c
at-end-append b [] c = refl
at-end-append b (x ∷ a) c = at-end-append _ a c

pub passed-more : {m : List (Segment Zone)} {p b : ℕ} (x : Segment Zone) (r : List (Segment Zone)) → Passed m p b (x ∷ r) → Passed m (p + pages x) (run_pages x) r
passed-more {m} {p} {b} x r h = record {
  pre = h.pre ++ (x ∷ []);
  whole = cc (append_assoc h.pre (x ∷ []) r);
  starts = omega (arith, total-append h.pre (x ∷ []));
  ends = run-at-end 0 h.pre x;
}

-- Past several segments at once.
pub passed_on : {m : List (Segment Zone)} {p b at : ℕ} {l r : List (Segment Zone)} (a : List (Segment Zone)) → l ≡ a ++ r → p + total a ≡ at → Passed m p b l → Passed m at (run_at_end b a) r
passed_on {m} {p} {b} {at} {l} {r} a e s h = record {
  pre = h.pre ++ a;
  whole = cc (append_assoc h.pre a r);
  starts = omega (arith, total-append h.pre a);
  ends = cc (at-end-append 0 h.pre a);
}

pub passed-stands : {m : List (Segment Zone)} {p b : ℕ} (x : Segment Zone) (r : List (Segment Zone)) → Passed m p b (x ∷ r) → Stands m p b x
passed-stands {m} {p} {b} x r h = record { before = h.pre; behind = r; whole = h.whole; starts = h.starts; ends = h.ends }

pub passed-total : {m : List (Segment Zone)} {p b : ℕ} {post : List (Segment Zone)} → Passed m p b post → p + total post ≡ total m
passed-total {m} {p} {b} {post} h = omega (arith, ap (λ l. total l) h.whole, total-append h.pre post)

-- A loop that goes from segment to segment computes f from the front: f, at page p behind a run of b pages and with the number a in
-- hand, of the segments left is the result e of the whole.
pub record Walk {A R : Type 0} (f : A → ℕ → ℕ → List (Segment Zone) → R) (w : List ℕ) (n : ℕ) (e : R) (a : A) (b p : ℕ) : Type 0 where
  pub encodes : Holds w n
  pub long : length w ≡ page_words * n
  pub few : n ≤ most_pages
  pub left : List (Segment Zone)
  pub passed : Passed (segments_of w) p b left
  pub same : f a b p left ≡ e

module _ {A R : Type 0} {f : A → ℕ → ℕ → List (Segment Zone) → R} {w : List ℕ} {n : ℕ} where
  -- A walk that begins behind pages passed already, or at the arena's start.
  pub walk_from : (a : A) {b p : ℕ} {l : List (Segment Zone)} → Holds w n → Passed (segments_of w) p b l → Walk f w n (f a b p l) a b p
  walk_from a {b} {p} {l} h q = record { encodes = h; long = encodes-length h; few = h.most; left = l; passed = q; same = refl }

  pub walk_start : (a : A) → Holds w n → Walk f w n (f a 0 0 (segments_of w)) a 0 0
  walk_start a h = walk_from a h (passed_none _)

  -- The segment at the walk's page.
  pub record Next {e : R} {a : A} {b p : ℕ} (i : Walk f w n e a b p) : Type 0 where
    pub x : Segment Zone
    pub rest : List (Segment Zone)
    pub left_is : i.left ≡ x ∷ rest
    pub stands : Stands (segments_of w) p b x
    pub read : Read w n p x

  pub next : {e : R} {a : A} {b p : ℕ} (i : Walk f w n e a b p) → p < n → Next i
  next {e} {a} {b} {p} i h = go i.left refl
    where
      go : (l : List (Segment Zone)) → i.left ≡ l → Next i
      go [] q = absurd (omega (arith, passed-total i.passed, ap (λ l. total l) q))
      go (x ∷ r) q =
          let s : Stands (segments_of w) p b x = passed-stands x r (rw q at i.passed) in
          record { x = x; rest = r; left_is = q; stands = s; read = read_at i.encodes s }

  -- Past it, with another number in hand.
  pub past : {e : R} {a : A} {b p : ℕ} (i : Walk f w n e a b p) (k : Next i) (a' : A) → f a b p (k.x ∷ k.rest) ≡ f a' (run_pages k.x) (p + pages k.x) k.rest → Walk f w n e a' (run_pages k.x) (p + pages k.x)
  past {e} {a} {b} {p} i k a' g = record {
    encodes = i.encodes;
    long = i.long;
    few = i.few;
    left = k.rest;
    passed = passed-more k.x k.rest (subst (Passed (segments_of w) p b) k.left_is i.passed);
    same = cc;
  }

  -- At the segment itself.
  pub at-it : {e : R} {a : A} {b p : ℕ} (i : Walk f w n e a b p) (k : Next i) → f a b p (k.x ∷ k.rest) ≡ e
  at-it {e} {a} {b} {p} i k = cc

  -- Behind the last one.
  pub walk_end : {e : R} {a : A} {b p : ℕ} (i : Walk f w n e a b p) → n ≤ p → f a b p [] ≡ e
  walk_end {e} {a} {b} {p} i h = go i.left refl
    where
      go : (l : List (Segment Zone)) → i.left ≡ l → f a b p [] ≡ e
      go [] q = cc
      go (x ∷ r) q = absurd (omega (arith, passed-total i.passed, ap (λ l. total l) q, i.encodes.covers, (read_at i.encodes (passed-stands x r (rw q at i.passed))).ok.0))

-- What stands behind a segment: nothing at the arena's end, else another segment.
pub data Behind (w : List ℕ) (n p : ℕ) (x : Segment Zone) (l : List (Segment Zone)) : Type 0 where
  last : l ≡ [] → p + pages x ≡ n → Behind w n p x l
  more : (y : Segment Zone) (r : List (Segment Zone)) → l ≡ y ∷ r → Read w n (p + pages x) y → Behind w n p x l

pub behind-it : {w : List ℕ} {m : List (Segment Zone)} {n p b : ℕ} {x : Segment Zone} → Encodes w m n → (s : Stands m p b x) → Behind w n p x s.behind
behind-it {w} {m} {n} {p} {b} {x} h s = go s.behind refl
  where
    here : Passed m p b (x ∷ s.behind)
    here = record { pre = s.before; whole = s.whole; starts = s.starts; ends = s.ends }

    go : (l : List (Segment Zone)) → s.behind ≡ l → Behind w n p x s.behind
    go [] e = last e (omega (arith, passed-total here, ap (λ l. total l) e))
    go (y ∷ r) e = more y r e (read_at h (passed-stands y r (rw e at (passed-more x s.behind here))))

-- As the code asks for it: no run at the arena's end, ..
module _ {w : List ℕ} {m : List (Segment Zone)} {n p b : ℕ} {x : Segment Zone} (h : Encodes w m n) (s : Stands m p b x) where
  here : Passed m p b (x ∷ s.behind)
  here = record { pre = s.before; whole = s.whole; starts = s.starts; ends = s.ends }

  pub none-behind : n ≤ p + pages x → 0 ≡ run_at_start s.behind
  none-behind e = go s.behind refl
    where
      go : (l : List (Segment Zone)) → s.behind ≡ l → 0 ≡ run_at_start s.behind
      go [] q = ap run_at_start (sym q)
      go (y ∷ r) q = let t = read_at h (passed-stands y r (rw q at (passed-more x s.behind here))) in absurd (omega (arith, t.inside, t.ok.0))

  -- .. and else that of another segment.
  pub stands-behind : {len : ℕ} → pages x ≡ len → p + len < n → (y : Segment Zone) × Stands m (p + len) (run_pages x) y × (run_pages y ≡ run_at_start s.behind)
  stands-behind {len} size e = go s.behind refl
    where
      go : (l : List (Segment Zone)) → s.behind ≡ l → (y : Segment Zone) × Stands m (p + len) (run_pages x) y × (run_pages y ≡ run_at_start s.behind)
      go [] q = absurd (omega (arith, passed-total here, ap (λ l. total l) q, h.covers, size))
      go (y ∷ r) q = (y, passed-stands y r (rw (q, size) at (passed-more x s.behind here)), ap run_at_start (sym q))

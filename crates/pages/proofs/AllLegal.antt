-- The test of all segments' words is exact. Assumes nothing.
use Prim.Native.Nat.{ℕ, zero, suc, ◌+◌, ◌-◌, ◌*◌, ◌≤◌, ◌<◌}
use mathlib.Core.Path.{◌≡◌, refl, sym, ap, ◌∙◌, subst}
use mathlib.Core.List.{List, [], ◌∷◌, ◌++◌, append-nil}
use mathlib.Core.Logic.{◌↔◌}
use mathlib.Core.Bool.{Bool, true, false, ◌&&◌, not}
use native.Mathlib.Omega.{arith}
use lib.Dec.{leb, eqb}
use lib.ListN.{length, get_or, take, drop, length-drop}
use lib.Seq.{take-add, take_at, drop_at, take_all, get_or-take, take-take}
use borrow.Author.Tests.{leb-true, le-leb, eqb-true, eq-eqb, ne_eqb}
use Rattle.lemmas.proofs.Cases.{bool, true-false, and_left, and_right, and_both}
use Rattle.model.specs.Numbers.{most_pages, page_words}
use Rattle.model.specs.Arena.{Segment, run, direct, zone, pages, total, Each}
use Rattle.model.specs.Zone.{Zone}
use Rattle.model.specs.Valid.{Apart}
use Rattle.pages.specs.Encoding.{kind_of, segment_encoding, segments_encoding, Writable}
use Rattle.pages.specs.Decoding.{segments_of, Encodes, Holds}
use Rattle.pages.specs.Legal.{size_at, legal_from, legal_segments}
use Rattle.pages.proofs.Laws.{length-segment, kind-is, is_run}
use Rattle.pages.proofs.Decoded.{decodes-to, holds}
use Rattle.pages.proofs.Legal.{Long, Leads, size-leads, leads-size}

run-kind : (x : Segment Zone) → eqb (kind_of x) 1 ≡ is_run x
run-kind (run n) = refl
run-kind (direct n g) = refl
run-kind (zone z) = refl

-- A segment in front of segments that stand apart.
apart_cons : (b : Bool) (x : Segment Zone) (m : List (Segment Zone)) → 0 < pages x → not (b && is_run x) ≡ true → Apart (is_run x) m → Apart b (x ∷ m)
apart_cons true (run n) m p h a = true-false h refl
apart_cons false (run n) m p h a = (refl, p, a)
apart_cons b (direct n g) m p h a = a
apart_cons b (zone z) m p h a = a

cons-apart : (b : Bool) (x : Segment Zone) (m : List (Segment Zone)) → Apart b (x ∷ m) → (not (b && is_run x) ≡ true) × Apart (is_run x) m
cons-apart b (run n) m h = (rw h.0, h.2)
cons-apart true (direct n g) m h = (refl, h)
cons-apart false (direct n g) m h = (refl, h)
cons-apart true (zone z) m h = (refl, h)
cons-apart false (zone z) m h = (refl, h)

-- The first word of words that begin with a segment.
leads-kind : {n : ℕ} {w : List ℕ} {x : Segment Zone} → Leads n w x → eqb (get_or w 0 0) 1 ≡ is_run x
leads-kind {n} {w} {x} l = cc (get_or-take (page_words * pages x) w 0 0 (omega (arith, l.ok.0)), append-nil (segment_encoding x), kind-is x [], run-kind x)

long-drop : (n k : ℕ) (w : List ℕ) → Long n w → k ≤ n → Long (n - k) (drop (page_words * k) w)
long-drop n k w l h = (omega (arith, length-drop (page_words * k) w), omega arith)

-- Words that pass are those of such segments.
pub record Legal (n : ℕ) (b : Bool) (w : List ℕ) : Type 0 where
  pub segments : List (Segment Zone)
  pub sound : Each Writable segments
  pub apart : Apart b segments
  pub covers : total segments ≡ n
  pub words : take (page_words * n) w ≡ segments_encoding segments

pub legal-told : (f n : ℕ) (b : Bool) (w : List ℕ) → n ≤ f → Long n w → legal_from f n b w ≡ true → Legal n b w
unfolding legal_from segments_encoding
legal-told zero n b w h l t = record { segments = []; sound = tt; apart = tt; covers = sym (eqb-true n 0 t); words = ap (λ k. take (page_words * k) w) (eqb-true n 0 t) }
legal-told (suc f) n b w h l t = bool (eqb n 0)
    (λ e. record { segments = []; sound = tt; apart = tt; covers = sym (eqb-true n 0 e); words = ap (λ k. take (page_words * k) w) (eqb-true n 0 e) })
    (λ e. step (rw e at t) (λ a c u. legal-told f _ a _ c u))
  where
    k : ℕ
    k = size_at n w

    r : Bool
    r = eqb (get_or w 0 0) 1

    step : (leb 1 k && not (b && r) && legal_from f (n - k) r (drop (page_words * k) w)) ≡ true → ((a : Bool) → n - k ≤ f → Long (n - k) (drop (page_words * k) w) → legal_from f (n - k) a (drop (page_words * k) w) ≡ true → Legal (n - k) a (drop (page_words * k) w)) → Legal n b w
    step u rec =
        let first = and_left _ _ u in
        let some = leb-true 1 k (and_left (leb 1 k) _ first) in
        let X = size-leads n w l some in
        let x = X.0 in
        let q : k ≡ pages x = X.2 in
        let kind : r ≡ is_run x = leads-kind X.1 in
        let rest = rec r (omega arith) (long-drop n k w l (omega arith)) (and_right (leb 1 k && not (b && r)) _ u) in
        record {
          segments = x ∷ rest.segments;
          sound = (X.1.ok, rest.sound);
          apart = apart_cons b x rest.segments X.1.ok.0 (rw kind at (and_right (leb 1 k) (not (b && r)) first)) (subst (λ y. Apart y rest.segments) kind rest.apart);
          covers = omega arith;
          words = ap (λ i. take i w) (let z : page_words * n ≡ page_words * k + page_words * (n - k) = omega arith in z) ∙ take-add (page_words * k) _ w ∙ (λ i. (ap (λ j. take (page_words * j) w) q ∙ X.1.words) i ++ rest.words i);
        }

-- The words of such segments pass.
pub told-legal : (f n : ℕ) (b : Bool) (w : List ℕ) (m : List (Segment Zone)) → n ≤ f → Long n w → Each Writable m → Apart b m → total m ≡ n → take (page_words * n) w ≡ segments_encoding m → legal_from f n b w ≡ true
unfolding legal_from segments_encoding
told-legal zero n b w m h l s a c e = eq-eqb n 0 (omega arith)
told-legal (suc f) n b w [] h l s a c e = rw (eq-eqb n 0 (sym c))
told-legal (suc f) n b w (x ∷ m) h l s a c e =
    let front : take (page_words * pages x) w ≡ segment_encoding x = cc (take-take (page_words * pages x) (page_words * n) w (omega arith), take_at (segment_encoding x) (segments_encoding m) (page_words * pages x) (length-segment x s.0.0)) in
    let L : Leads n w x = record { ok = s.0; within = omega arith; words = front } in
    let q : size_at n w ≡ pages x = leads-size n w l x L in
    let kind = leads-kind L in
    let ca = cons-apart b x m a in
    let back : take (page_words * (n - pages x)) (drop (page_words * pages x) w) ≡ segments_encoding m = tail front (sym (take-add (page_words * pages x) _ w) ∙ ap (λ i. take i w) (let z : page_words * pages x + page_words * (n - pages x) ≡ page_words * n = omega arith in z) ∙ e) in
    let rest : legal_from f (n - pages x) (is_run x) (drop (page_words * pages x) w) ≡ true = told-legal f _ (is_run x) _ m (omega arith) (long-drop n (pages x) w l (omega arith)) s.1 ca.1 (omega arith) back in
    rw (ne_eqb n 0 (λ z. omega arith), q, kind) (and_both _ _ (and_both _ _ (le-leb 1 (pages x) s.0.0) ca.0) rest)
  where
    tail : {u : List ℕ} → take (page_words * pages x) w ≡ segment_encoding x → take (page_words * pages x) w ++ u ≡ segment_encoding x ++ segments_encoding m → u ≡ segments_encoding m
    tail {u} p q =
        let len : length (take (page_words * pages x) w) ≡ page_words * pages x = cc (length-segment x s.0.0) in
        cc (drop_at (take (page_words * pages x) w) u (page_words * pages x) len, drop_at (segment_encoding x) (segments_encoding m) (page_words * pages x) (length-segment x s.0.0))

-- The test is exact.
pub legal-iff : (n : ℕ) (w : List ℕ) → length w ≡ page_words * n → n ≤ most_pages → (legal_segments n w ≡ true) ↔ (Holds w n × Apart false (segments_of w))
unfolding legal_segments
legal-iff n w l few = (
  λ t. let L = legal-told n n false w (omega arith) (omega arith, few) t in
      let E : Encodes w L.segments n = record { words = cc (take_all (page_words * n) w (omega arith)); sound = L.sound; covers = L.covers; most = few } in
      (holds E, rw (decodes-to E) L.apart),
  λ h. told-legal n n false w _ (omega arith) (omega arith, few) h.0.sound h.1 h.0.covers (take_all (page_words * n) w (omega arith) ∙ h.0.words),
)

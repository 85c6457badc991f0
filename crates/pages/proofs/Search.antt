-- The walk of the search for pages, and the walk to the segment that holds a page. Assumes nothing.
use Prim.Native.Nat.{ℕ, ◌+◌, ◌*◌, ◌≤◌, ◌<◌}
use mathlib.Core.Path.{◌≡◌, refl, sym, ap, ◌∙◌, subst}
use mathlib.Core.List.{List, [], ◌∷◌, ◌++◌}
use mathlib.Core.Option.{none, some}
use native.Mathlib.Omega.{arith}
use native.Mathlib.Nat.{add-zero}
use lib.ListN.{length, get_or}
use borrow.Author.Tests.{le-leb, lt-leb, lt-ltb, le-ltb}
use Rattle.lemmas.proofs.Cases.{clash}
use Rattle.model.specs.Numbers.{most_pages, page_words}
use Rattle.model.specs.Arena.{Segment, run, direct, zone, pages, total}
use Rattle.model.specs.Zone.{Zone}
use Rattle.model.specs.Pages.{onward, first_fit, claim}
use Rattle.model.proofs.Claim.{onward-none, onward-more}
use Rattle.std.specs.Prelude.{Option, Some, None, ◌⊎◌}
use Rattle.pages.specs.declared.Kind.{Kind}
use Rattle.pages.specs.declared.Kind.TheVariants as kind
use Rattle.pages.specs.declared.Run.{Run}
use Rattle.pages.specs.declared.Choice.{Choice}
use Rattle.pages.specs.declared.Spot.{Spot}
use Rattle.pages.specs.Decoding.{segments_of, Holds}
use Rattle.pages.specs.Encoding.{kind_run, kind_of}
use Rattle.pages.specs.Places.{kind_in, run_len, found, choice, run_pages, run_at_end, run_at_start, Stands, Passed, first_run, spot_from}
use Rattle.pages.proofs.Laws as laws
use Rattle.pages.proofs.Walk.{read_at, passed-more, passed-stands, passed_on, Walk, walk_from, walk_start, Next, next, past, at-it, Behind, last, more, behind-it}
use Rattle.pages.proofs.Inverse.{run-by-kind, no-run-size}

-- A run's pages, as the code has them.
pub run-pages : (x : Segment Zone) (k : Kind) (len : ℕ) → k ≡ kind_in x → len ≡ pages x → run_len k len ≡ run_pages x
run-pages (run n) k l e f = cc
run-pages (direct n g) k l e f = cc
run-pages (zone z) k l e f = cc

-- The next run -------------------------------------------------------------------------------------------------------------------

abbrev pub runs : ℕ → ℕ → ℕ → List (Segment Zone) → Option Run
runs a b p l = found (first_run p l)

run-here : (p : ℕ) (x : Segment Zone) (r : List (Segment Zone)) → kind_in x ≡ kind.Run → found (first_run p (x ∷ r)) ≡ Some (record { at = p; len = pages x })
run-here p x r k = rw (run-by-kind x k, first_run, le-leb 0 (pages x) (omega arith))

run_past : (p : ℕ) (x : Segment Zone) (r : List (Segment Zone)) → (kind_in x ≡ kind.Run → ⊥) → found (first_run p (x ∷ r)) ≡ found (first_run (p + pages x) r)
run_past p (run n) r k = absurd (k refl)
run_past p (direct n g) r k = refl
run_past p (zone z) r k = refl

-- The walk to it, at page p: what is left has the run f as its first one.
abbrev pub Seeking : List ℕ → ℕ → Option Run → ℕ → Type 0
Seeking w n f p = (b : ℕ) × Walk runs w n f 0 b p

pub seek-from : {w : List ℕ} {n p b : ℕ} {l : List (Segment Zone)} → Holds w n → Passed (segments_of w) p b l → Seeking w n (found (first_run p l)) p
seek-from {w} {n} {p} {b} h q = (b, walk_from 0 h q)

module _ {w : List ℕ} {n p len : ℕ} {f : Option Run} (i : Seeking w n f p) (h : p < n) (size : len ≡ pages (next i.1 h).x) where
  abbrev k : Next i.1
  k = next i.1 h

  pub seek-past : {y : Kind} → y ≡ kind_in k.x → (y ≡ kind.Direct) ⊎ (y ≡ kind.Zone) → Seeking w n f (p + len)
  seek-past t e = rw size (run_pages k.x, past i.1 k 0 (run_past p k.x k.rest (laws.no_run k.x t e)))

  pub seek_hit : {y : Kind} → y ≡ kind_in k.x → y ≡ kind.Run → Some (record { at = p; len = len }) ≡ f
  seek_hit t e = cc (run-here p k.x k.rest (sym t ∙ e), at-it i.1 k)

-- The search ---------------------------------------------------------------------------------------------------------------------

abbrev pub fits : ℕ → ℕ → ℕ → ℕ → List (Segment Zone) → Choice
fits need k b p l = choice (onward k (first_fit p need l))

-- The loop's invariant, after k runs: the search of what is left comes to what the whole search comes to.
pub record Searching (w : List ℕ) (n need p k : ℕ) : Type 0 where
  pub behind : ℕ
  pub walk : Walk (fits need) w n (choice (claim need (segments_of w))) k behind p
  pub few : k ≤ p

pub search-start : (w : List ℕ) (n need : ℕ) → Holds w n → Searching w n need 0 0
unfolding claim
search-start w n need h = record { behind = 0; walk = subst (λ e. Walk (fits need) w n e 0 0 0) (ap choice (onward-none (first_fit 0 need (segments_of w)))) (walk_start 0 h); few = omega arith }

-- Where there is no run, none is looked at.
no_run : (p need : ℕ) (l : List (Segment Zone)) → found (first_run p l) ≡ None → first_fit p need l ≡ record { chosen = none; looked = 0 }
no_run p need [] e = refl
no_run p need (run k ∷ r) e = let q : ◌≡◌ {A = Option Run} (Some (record { at = p; len = k })) None = sym (run-here p (run k) r refl) ∙ e in clash (cc)
no_run p need (direct k g ∷ r) e = no_run (p + k) need r e
no_run p need (zone z ∷ r) e = no_run _ need r e

-- The segments l, which begin at page p, up to their first run, and the search from there on.
record Reaches (p need : ℕ) (l : List (Segment Zone)) (at len : ℕ) : Type 0 where
  pre : List (Segment Zone)
  post : List (Segment Zone)
  whole : l ≡ pre ++ (run len ∷ post)
  starts : p + total pre ≡ at
  same : first_fit p need l ≡ first_fit at need (run len ∷ post)

reaches-behind : {p need : ℕ} {r : List (Segment Zone)} {at len : ℕ} (x : Segment Zone) → first_fit p need (x ∷ r) ≡ first_fit (p + pages x) need r → Reaches (p + pages x) need r at len → Reaches p need (x ∷ r) at len
reaches-behind x q h = record { pre = x ∷ h.pre; post = h.post; whole = cc; starts = omega arith; same = q ∙ h.same }

reaches : (p need : ℕ) (l : List (Segment Zone)) (at len : ℕ) → found (first_run p l) ≡ Some (record { at = at; len = len }) → Reaches p need l at len
reaches p need [] at len e = clash (cc)
reaches p need (run k ∷ r) at len e =
    let q : ◌≡◌ {A = Option Run} (Some (record { at = p; len = k })) (Some (record { at = at; len = len })) = sym (run-here p (run k) r refl) ∙ e in
    let same : ◌≡◌ {A = Run} (record { at = p; len = k }) (record { at = at; len = len }) = cc in
    let a : p ≡ at = ap (λ f. f.at) same in
    let b : k ≡ len = ap (λ f. f.len) same in
    record { pre = []; post = r; whole = cc; starts = omega arith; same = λ i. first_fit (a i) need (run (b i) ∷ r) }
reaches p need (direct k g ∷ r) at len e = reaches-behind (direct k g) refl (reaches (p + k) need r at len e)
reaches p need (zone z ∷ r) at len e = reaches-behind (zone z) refl (reaches _ need r at len e)

-- A turn: the next run f behind page p.
module _ {w : List ℕ} {n need p k : ℕ} {f : Option Run} (i : Searching w n need p k) (next-is : f ≡ found (first_run p i.walk.left)) where
  pub search-none : f ≡ None → ◌≡◌ {A = Choice} (record { run = None; looked = k }) (choice (claim need (segments_of w)))
  search-none e = ap (λ j. record { run = None; looked = j }) (sym (add-zero k)) ∙ ap (λ l. choice (onward k l)) (sym (no_run p need i.walk.left (sym next-is ∙ e))) ∙ i.walk.same

  module _ {at len : ℕ} (is : f ≡ Some (record { at = at; len = len })) where
    stop : Reaches p need i.walk.left at len
    stop = reaches p need _ at len (sym next-is ∙ is)

    from-stop : Passed (segments_of w) at (run_at_end i.behind stop.pre) (run len ∷ stop.post)
    from-stop = passed_on stop.pre stop.whole stop.starts i.walk.passed

    pub run_inside : (0 < len) × (p ≤ at) × (at + len ≤ n) × (n ≤ most_pages)
    run_inside = let r = read_at i.walk.encodes (passed-stands (run len) _ from-stop) in
        (r.ok.0, omega (arith, stop.starts), r.inside, r.few)

    -- It is long enough, ..
    here : need ≤ len → first_fit at need (run len ∷ stop.post) ≡ record { chosen = some (record { page = at; size = len }); looked = 1 }
    here h = rw (le-leb need len h)

    pub search-hit : need ≤ len → ◌≡◌ {A = Choice} (record { run = Some (record { at = at; len = len }); looked = k + 1 }) (choice (claim need (segments_of w)))
    search-hit h = ap (λ l. choice (onward k l)) (sym (stop.same ∙ here h)) ∙ i.walk.same

    -- .. or is passed, and counted.
    beyond : len < need → first_fit at need (run len ∷ stop.post) ≡ onward 1 (first_fit (at + len) need stop.post)
    beyond h = rw (lt-leb need len h)

    pub search-past : len < need → Searching w n need (at + len) (k + 1)
    search-past h = record {
      behind = len;
      walk = record {
        encodes = i.walk.encodes;
        long = i.walk.long;
        few = i.walk.few;
        left = stop.post;
        passed = passed-more (run len) _ from-stop;
        same = ap choice (sym (onward-more (first_fit (at + len) need stop.post) k 1)) ∙ ap (λ l. choice (onward k l)) (sym (stop.same ∙ beyond h)) ∙ i.walk.same;
      };
      few = omega (arith, run_inside, i.few);
    }

-- The segment of a page ----------------------------------------------------------------------------------------------------------

abbrev pub spots : ℕ → ℕ → ℕ → ℕ → List (Segment Zone) → Option Spot
spots q a b p l = spot_from q b p l

abbrev pub Locating : List ℕ → ℕ → ℕ → ℕ → ℕ → Type 0
Locating w n q b p = Walk (spots q) w n (spot_from q 0 0 (segments_of w)) 0 b p

module _ (q : ℕ) {w : List ℕ} {n b p len : ℕ} {k : Kind} (i : Locating w n q b p) (h : p < n) (size : len ≡ pages (next i h).x) (kind-is : k ≡ kind_in (next i h).x) where
  abbrev there : Next i
  there = next i h

  pub spot_past : (r : ℕ) → r ≡ run_len k len → p + len ≤ q → Locating w n q r (p + len)
  unfolding spot_from
  spot_past r e f = rw size (subst (λ y. Locating w n q y (p + pages there.x)) (sym (e ∙ run-pages there.x k len kind-is size))
      (past i there 0 (rw (le-ltb q (p + pages there.x) (omega (arith, size))))))

  pub spot-here : q < p + len → Some (record { start = record { at = p; before = b }; kind = k; len = len }) ≡ spot_from q 0 0 (segments_of w)
  unfolding spot_from
  spot-here f = (λ t. Some (record { start = record { at = p; before = b }; kind = kind-is t; len = size t })) ∙ sym (rw (lt-ltb q (p + pages there.x) (omega arith))) ∙ at-it i there

-- The run behind a segment --------------------------------------------------------------------------------------------------------

-- By the first of its words.
size-by-word : (x : Segment Zone) → kind_of x ≡ kind_run → pages x ≡ run_pages x
size-by-word (run n) e = refl
size-by-word (direct n g) e = absurd (omega arith)
size-by-word (zone z) e = absurd (omega arith)

module _ {w : List ℕ} {n p b : ℕ} {x : Segment Zone} (h : Holds w n) (s : Stands (segments_of w) p b x) where
  -- The words there can be read.
  pub read_behind : p + pages x < n → (page_words * (p + pages x) + page_words ≤ length w) × (n ≤ most_pages)
  read_behind e = go (behind-it h s)
    where
      go : Behind w n p x s.behind → (page_words * (p + pages x) + page_words ≤ length w) × (n ≤ most_pages)
      go (last q t) = absurd (omega arith)
      go (more y r q t) = (omega arith, t.few)

  pub run-behind : p + pages x < n → get_or w (page_words * (p + pages x)) 0 ≡ kind_run → get_or w (page_words * (p + pages x) + 1) 0 ≡ run_at_start s.behind
  run-behind e k = go (behind-it h s)
    where
      go : Behind w n p x s.behind → get_or w (page_words * (p + pages x) + 1) 0 ≡ run_at_start s.behind
      go (last q t) = absurd (omega arith)
      go (more y r q t) = let one : kind_of y ≡ 1 = sym t.kind ∙ k in cc (t.size (λ z. omega arith), size-by-word y one)

  pub other-behind : p + pages x < n → (get_or w (page_words * (p + pages x)) 0 ≡ kind_run → ⊥) → 0 ≡ run_at_start s.behind
  other-behind e k = go (behind-it h s)
    where
      go : Behind w n p x s.behind → 0 ≡ run_at_start s.behind
      go (last q t) = absurd (omega arith)
      go (more y r q t) = cc (no-run-size y (λ z. k (t.kind ∙ z)))

-- What the search by page tells of the segment that it finds, and what holds a byte. Assumes nothing.
use Prim.Native.Nat.{ℕ, ◌+◌, ◌*◌, ◌≤◌, ◌<◌}
use mathlib.Core.Path.{◌≡◌, refl, ap, ◌∙◌}
use mathlib.Core.List.{List, [], ◌∷◌, ◌++◌}
use mathlib.Core.Option.{some}
use native.Mathlib.Omega.{arith}
use lib.Dec.{ltb}
use borrow.Author.Tests.{ltb-true, ltb-false, lt-ltb}
use lib.ListN.{get_or, drop}
use lib.Seq.{get_or-drop}
use Rattle.lemmas.proofs.Cases.{bool}
use Rattle.model.specs.Numbers.{page_words, page_bytes}
use Rattle.model.specs.Arena.{Segment, direct, pages, bytes, total, locate}
use Rattle.model.specs.Zone.{Zone}
use Rattle.model.proofs.Arena.{locate-right}
use Rattle.std.specs.Prelude.{Option, Some, None}
use Rattle.pages.specs.declared.Spot.{Spot}
use Rattle.pages.specs.Places.{kind_in, Stands, spot_from, Passed, run_pages}
use Rattle.pages.proofs.Laws.{group-is}
use Rattle.pages.proofs.Walk.{Read, passed_none, passed-more, passed-stands, passed-total}

-- The segment that holds the page q stands there, or q is no page of the arena.
abbrev pub Spotted : List (Segment Zone) → ℕ → Option Spot → Type 0
Spotted m q (Some s) = (x : Segment Zone) × Stands m s.start.at s.start.before x × (kind_in x ≡ s.kind) × (pages x ≡ s.len) × (s.start.at ≤ q) × (q < s.start.at + s.len)
Spotted m q None = total m ≤ q

spotted-from : {m : List (Segment Zone)} (q b p : ℕ) (l : List (Segment Zone)) → p ≤ q → Passed m p b l → Spotted m q (spot_from q b p l)
unfolding spot_from
spotted-from {m} q b p [] h i = omega (arith, passed-total i)
spotted-from {m} q b p (x ∷ r) h i = bool (ltb q (p + pages x))
    (λ t. rw t (x, passed-stands x r i, refl, refl, h, ltb-true q _ t))
    (λ t. rw t (spotted-from q (run_pages x) (p + pages x) r (ltb-false q _ t) (passed-more x r i)))

pub spotted : (m : List (Segment Zone)) (q : ℕ) → Spotted m q (spot_from q 0 0 m)
spotted m q = spotted-from q 0 0 m (omega arith) (passed_none m)

-- A byte d behind the start of a segment is held by it.
pub stands-locate : {m : List (Segment Zone)} {p b : ℕ} {x : Segment Zone} (s : Stands m p b x) (o d : ℕ) → o ≡ p * page_bytes + d → d < bytes x → locate o m ≡ some (record { away = d; segment = x })
stands-locate {m} {p} {b} {x} s o d e h =
    ap (λ l. locate o l) s.whole
    ∙ ap (λ k. locate k (s.before ++ (x ∷ s.behind))) (let q : o ≡ total s.before * page_bytes + d = omega arith in q)
    ∙ locate-right s.before _ d
    ∙ rw (lt-ltb d (bytes x) h)

-- The group of a direct block.
pub group-read : {w : List ℕ} {n p k g : ℕ} → Read w n p (direct k g) → get_or w (page_words * p + 2) 0 ≡ g
group-read {w} {n} {p} {k} {g} r = cc (get_or-drop (page_words * p) w 2 0, group-is k g (drop (page_words * (p + k)) w))

-- A text that is written piece by piece: what is left of it to write. A function that writes several pieces starts from
-- `left-all`, takes one `left_step` for each piece that it writes, has from `left-bounded` what the next writer requires, and
-- ends with `left-done`. Assumes nothing.
use Prim.Native.Nat.{ℕ, ◌+◌, ◌<◌}
use mathlib.Core.Path.{◌≡◌, refl, sym, ap, ◌∙◌}
use mathlib.Core.List.{List, [], ◌∷◌, ◌++◌, append_assoc, append-nil}
use native.Mathlib.Omega.{arith}
use lib.ListN.{length, drop, get_or, length-append}
use lib.Seq.{sets}
use Rattle.lemmas.proofs.Heads.{next_word}
use Rattle.lemmas.proofs.Sets.{sets-append}
use Rattle.text.specs.Writing.{Bounded, Wrote, joined}

-- Of a text to be written at position `at` of the buffer l, the pieces are left, to be written at position k of the buffer m.
pub record Left (l : List ℕ) (at : ℕ) (text : List ℕ) (k : ℕ) (m : List ℕ) (pieces : List (List ℕ)) : Type 0 where
  pub ends : k + length (joined pieces) ≡ at + length text
  pub bytes : sets m k (joined pieces) ≡ sets l at text

-- At the beginning all pieces are; the text as one piece.
pub left-all : {l : List ℕ} {at : ℕ} {text : List ℕ} (ps : List (List ℕ)) → joined ps ≡ text → Left l at text at l ps
left-all {l} {at} {text} ps e = record { ends = cc; bytes = ap (sets l at) e }

pub left_one : {l : List ℕ} {at : ℕ} (text : List ℕ) → Left l at text at l (text ∷ [])
left_one text = left-all (text ∷ []) (append-nil text)

module _ {l : List ℕ} {at : ℕ} {text : List ℕ} {k : ℕ} {m : List ℕ} where
  -- The same pieces in another cut.
  pub left_as : {ps : List (List ℕ)} (qs : List (List ℕ)) → joined ps ≡ joined qs → Left l at text k m ps → Left l at text k m qs
  left_as qs e a =
      record { ends = cc; bytes = ap (sets m k) (sym e) ∙ a.bytes }

  -- The first piece as two; the first piece is empty.
  pub left_split : {y : List ℕ} {ps : List (List ℕ)} (x z : List ℕ) → y ≡ x ++ z → Left l at text k m (y ∷ ps) → Left l at text k m (x ∷ z ∷ ps)
  left_split {y} {ps} x z e a =
      left_as _ (cc (append_assoc x z (joined ps))) a

  pub left-none : {y : List ℕ} {ps : List (List ℕ)} → y ≡ [] → Left l at text k m (y ∷ ps) → Left l at text k m ps
  left-none {y} {ps} e a = left_as ps (cc) a

  -- The first piece is the element at i of a list, and the rest of the list follows.
  pub left-next : {ps : List (List ℕ)} (s : List ℕ) (i : ℕ) → i < length s → Left l at text k m (drop i s ∷ ps) → Left l at text k m ((get_or s i 0 ∷ []) ∷ drop (i + 1) s ∷ ps)
  left-next s i h a = left_split _ _ (next_word s i 0 h) a

  -- The first piece is written.
  pub left_step : {x : List ℕ} {ps : List (List ℕ)} {r : ℕ} {n : List ℕ} → Left l at text k m (x ∷ ps) → Wrote m k x r n → Left l at text r n ps
  left_step {x} {ps} {r} {n} a w =
      record {
        ends = omega (arith, length-append x (joined ps));
        bytes =
            cc (sets-append x (joined ps) m k);
      }

  -- What the writer of the first piece requires.
  pub left-bounded : {x : List ℕ} {ps : List (List ℕ)} → Left l at text k m (x ∷ ps) → Bounded at text → Bounded k x
  left-bounded {x} {ps} a h = omega (arith, length-append x (joined ps))

  -- Nothing is left.
  pub left-done : Left l at text k m [] → Wrote l at text k m
  left-done a = record { next = omega arith; bytes = a.bytes }

-- ---- what was written

-- A text after a text.
pub wrote_then : {l m n : List ℕ} {at j k : ℕ} {x y : List ℕ} → Wrote l at x j m → Wrote m j y k n → Wrote l at (x ++ y) k n
wrote_then {x} {y} a b = left-done (left_step (left_step (left_split x y refl (left_one (x ++ y))) a) b)

-- The same text under another name.
pub wrote_as : {l m : List ℕ} {at k : ℕ} {x y : List ℕ} → x ≡ y → Wrote l at x k m → Wrote l at y k m
wrote_as {l} {m} {at} {k} e w = rw e at w

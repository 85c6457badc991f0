-- Laws of the reader's step: the bytes that it holds, up to the first LF or to the fragment's end. Assumes nothing.
use Prim.Native.Nat.{ℕ, zero, suc, ◌+◌, ◌-◌, ◌≤◌, ◌<◌, min}
use mathlib.Core.Path.{◌≡◌, refl, sym, ap, ◌∙◌}
use mathlib.Core.Bool.{Bool, true, false, cond}
use mathlib.Core.List.{List, [], ◌∷◌, ◌++◌, append_assoc, append-nil}
use native.Mathlib.Omega.{arith}
use lib.Dec.{eqb}
use lib.ListN.{length, take, drop, get_or, length-append, length-drop, drop_of_length-le}
use lib.Seq.{length-take-le, take-length, take-append-add, take-append_seam}
use borrow.Author.Tests.{lt-ltb}
use Rattle.lemmas.proofs.Cases.{by-lt, by-ltb}
use Rattle.std.specs.Bool.{◌==◌}
use Rattle.std.specs.List.{position, position_from}
use Rattle.std.proofs.lemmas.List.Quantifiers.{position-Some}
use Rattle.std.proofs.lemmas.Iterator.Adapters.{position_from-zero}
use Rattle.std.specs.Prelude.{Some, None}
use Rattle.uplink.specs.declared.Line.{Line}
use Rattle.uplink.specs.Fragments.{most_line, Step, Held, part, long, fresh, held_by, hold, hold_all, line_held, last_line, step_from, step_of, FedBy}

-- ---- more bytes

hold-long : (x : List ℕ) → hold_all long x ≡ long
unfolding hold hold_all
hold-long [] = refl
hold-long (b ∷ x) = hold-long x

-- As many as a line has room for, and more than that.
hold-part : (p x : List ℕ) → length p + length x ≤ most_line → hold_all (part p) x ≡ part (p ++ x)
unfolding hold hold_all
hold-part p [] h = ap part (sym (append-nil p))
hold-part p (b ∷ x) h =
    let room : length p < most_line = omega arith in
    rw (lt-ltb (length p) most_line room)
    (hold-part (p ++ (b ∷ [])) x (omega (arith, length-append p (b ∷ []))) ∙ ap part (append_assoc p (b ∷ []) x))

hold-more : (p x : List ℕ) → length p ≤ most_line → most_line < length p + length x → hold_all (part p) x ≡ long
unfolding hold hold_all
hold-more p [] h k = absurd (omega arith)
hold-more p (b ∷ x) h k =
    by-ltb (λ t. hold_all (cond t (part (p ++ (b ∷ []))) long) x ≡ long) (length p) most_line
    (λ r. hold-more (p ++ (b ∷ [])) x (omega (arith, length-append p (b ∷ []))) (omega (arith, length-append p (b ∷ []))))
    (λ _. hold-long x)

-- In a reader's fields, where n of the bytes x are taken.
module _ (line : List ℕ) (len n : ℕ) (x : List ℕ) (full : most_line ≡ length line) (sound : len ≤ most_line) (taken : n ≡ min (length x) (most_line - len)) where
  pub holds-more : (over : Bool) → n < length x → long ≡ hold_all (held_by line len over) x
  holds-more true h = sym (hold-long x)
  holds-more false h =
      let l : length (take len line) ≡ len = length-take-le len line (omega arith) in
      sym (hold-more (take len line) x (omega arith) (omega arith))

  pub holds-all : (over : Bool) {y : List ℕ} (z : List ℕ) → y ≡ take n x → length x ≤ n → held_by (take len line ++ (y ++ z)) (len + n) over ≡ hold_all (held_by line len over) x
  holds-all true z e h = sym (hold-long x)
  holds-all false {y} z e h =
      let l : length (take len line) ≡ len = length-take-le len line (omega arith) in
      let m : n ≡ length x = omega arith in
      let k : y ≡ x = e ∙ ap (λ i. take i x) m ∙ take-length x in
      let s : len + n ≡ length (take len line) + length x = omega arith in
      let g : take (len + n) (take len line ++ (y ++ z)) ≡ take len line ++ x =
      rw (k, s) (take-append-add (take len line) (x ++ z) (length x) ∙ ap (λ i. take len line ++ i) (take-append_seam x z)) in
      ap part g ∙ sym (hold-part (take len line) x (omega arith))

-- ---- the end of the input

-- No byte is held.
pub last_none : (line : List ℕ) (len : ℕ) {over : Bool} → over ≡ false → len ≡ 0 → None ≡ last_line (held_by line len over)
unfolding last_line
last_none line len e z = rw (e, z)

-- ---- the step

-- No byte of the fragment is left.
pub step_end : (s : List ℕ) (i : ℕ) (k : Held) → length s ≤ i → record { after = k; next = i; line = None } ≡ step_from i k (drop i s)
unfolding step_from
step_end s i k h = rw (drop_of_length-le s {i = i} h)

-- Over bytes of which the first stands at position i: to the first LF, which is the n-th of them; and where there is none.
step-lf : (s : List ℕ) (i : ℕ) (k : Held) (n : ℕ) → n < length s → eqb (get_or s n 0) 10 ≡ true → ((j : ℕ) → j < n → eqb (get_or s j 0) 10 ≡ false) → record { after = fresh; next = i + n + 1; line = Some (line_held (hold_all k (take n s))) } ≡ step_from i k s
unfolding step_from hold_all
step-lf [] i k n h e f = absurd (omega arith)
step-lf (b ∷ s) i k zero h e f = let z : i + 0 + 1 ≡ i + 1 = omega arith in rw (e, z)
step-lf (b ∷ s) i k (suc n) h e f =
    let z : i + suc n + 1 ≡ i + 1 + n + 1 = omega arith in
    rw (f 0 (omega arith), z) (step-lf s (i + 1) (hold k b) n (omega arith) e (λ j h. f (suc j) (omega arith)))

-- No LF among the bytes, which are counted from j on; the step that then uses them up, and the one that an LF ends.
abbrev no_lf : ℕ → List ℕ → Type 0
no_lf j s = None ≡ position_from (λ b. b == 10) j s

abbrev used_up : ℕ → Held → List ℕ → Step
used_up i k s = record { after = hold_all k s; next = i + length s; line = None }

abbrev ended : ℕ → Held → Step
ended i k = record { after = fresh; next = i + 1; line = Some (line_held k) }

step_none : (s : List ℕ) (i j : ℕ) (k : Held) → no_lf j s → used_up i k s ≡ step_from i k s
unfolding step_from hold_all
step_none [] i j k e = let z : i + 0 ≡ i = omega arith in rw z
step_none (b ∷ s) i j k e = go (eqb b 10) (step_none s (i + 1) (j + 1) (hold k b)) e
  where
    go : (t : Bool) → (no_lf (j + 1) s → used_up (i + 1) (hold k b) s ≡ step_from (i + 1) (hold k b) s) → None ≡ cond t (Some j) (position_from (λ b. b == 10) (j + 1) s) → used_up i k (b ∷ s) ≡ cond t (ended i k) (step_from (i + 1) (hold k b) s)
    go true ih q = absurd (cc)
    go false ih q = let z : i + suc (length s) ≡ i + 1 + length s = omega arith in rw z (ih q)

-- The bytes of a text from position i on, as the code takes them.
rest-is : (s : List ℕ) (i m : ℕ) → m ≡ min i (length s) → take (length s - m) (drop m s) ≡ drop i s
rest-is s i m e =
    let all : take (length s - m) (drop m s) ≡ drop m s = ap (λ n. take n (drop m s)) (sym (length-drop m s)) ∙ take-length (drop m s) in
    all ∙ by-lt (length s) i
    (λ h. let a : m ≡ length s = omega arith in drop_of_length-le s {i = m} (omega arith) ∙ sym (drop_of_length-le s {i = i} (omega arith)))
    (λ h. let a : m ≡ i = omega arith in ap (λ n. drop n s) a)

-- A step over the fragment s from position `from` on, where k was held: the bytes to the first LF, or all of them, were held, and the
-- line was taken.
module _ (s : List ℕ) (from : ℕ) (k : Held) {m : ℕ} (e : m ≡ min from (length s)) where
  rest-long : length (take (length s - m) (drop m s)) ≡ length s - from
  rest-long = ap length (rest-is s from m e) ∙ length-drop from s

  pub fed-line : {n : ℕ} {a h : Held} {l : Line} → Some n ≡ position (λ b. b == 10) (take (length s - m) (drop m s)) → h ≡ hold_all k (take n (take (length s - m) (drop m s))) → l ≡ line_held h → a ≡ fresh → FedBy k s from (record { next = from + n + 1; line = Some l }) a
  unfolding step_of
  fed-line {n} p q r new =
      let t = position-Some (λ (b : ℕ). b == 10) (take (length s - m) (drop m s)) n 0 (sym p) in
      record {
        step = cc (step-lf (take (length s - m) (drop m s)) from k n t.0 t.1 t.2, rest-is s from m e);
        within = λ w. omega (arith, t.0, rest-long);
        onward = λ w. omega arith;
      }

  pub fed-none : {h : Held} → None ≡ position (λ b. b == 10) (take (length s - m) (drop m s)) → h ≡ hold_all k (take (length s - m) (drop m s)) → FedBy k s from (record { next = from + length (take (length s - m) (drop m s)); line = None }) h
  unfolding step_of
  fed-none p q =
      record {
        step = cc (step_none (take (length s - m) (drop m s)) from 0 k (p ∙ position_from-zero (λ (b : ℕ). b == 10) (take (length s - m) (drop m s))), rest-is s from m e);
        within = λ w. omega (arith, rest-long);
        onward = λ w. omega (arith, rest-long);
      }

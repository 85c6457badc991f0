-- However the input is cut into fragments, the reader's lines are the lines of all its bytes, in their order, and each is what the
-- grammar says of its text; and what one step does of that. Assumes nothing.
use Prim.Native.Nat.{ℕ, suc, ◌+◌, ◌-◌, ◌≤◌, ◌<◌}
use mathlib.Core.Path.{◌≡◌, refl, sym, ap, ◌∙◌, subst}
use mathlib.Core.Bool.{Bool, true, false, cond}
use mathlib.Core.List.{List, [], ◌∷◌, ◌++◌, map}
use native.Mathlib.Omega.{arith}
use lib.Dec.{leb, eqb}
use lib.ListN.{length, drop, length-append}
use lib.Seq.{drop-drop}
use borrow.Author.Tests.{le-leb, lt-leb}
use Rattle.lemmas.proofs.Cases.{by-ltb, by-leb}
use Rattle.text.specs.Writing.{joined}
use Rattle.std.specs.Prelude.{Option, Some, None}
use Rattle.uplink.specs.declared.Line.{Line}
use Rattle.uplink.specs.declared.Fed.{Fed}
use Rattle.uplink.specs.Grammar.{line_of}
use Rattle.lemmas.specs.Keep.{put_if}
use Rattle.uplink.specs.Fragments.{most_line, Held, part, long, fresh, hold, line_held, last_line, Step, step_from, step_of, FedBy, held_with, held_after, lines_by, held_after_all, lines_by_all, gotten, last_text, texts_of}
use Rattle.uplink.proofs.Exact.{long-bad}

-- ---- cut anywhere

put-append : {A : Type 0} (t : Bool) (a : A) (l m : List A) → put_if t a (l ++ m) ≡ put_if t a l ++ m
put-append true a l m = refl
put-append false a l m = refl

pub cut-held : (x y : List ℕ) (k : Held) → held_after k (x ++ y) ≡ held_after (held_after k x) y
unfolding held_after
cut-held [] y k = refl
cut-held (b ∷ x) y k = cut-held x y _

pub cut-lines : (x y : List ℕ) (k : Held) → lines_by k (x ++ y) ≡ lines_by k x ++ lines_by (held_after k x) y
unfolding lines_by held_after
cut-lines [] y k = refl
cut-lines (b ∷ x) y k =
    ap (put_if (eqb b 10) (line_held k)) (cut-lines x y _)
    ∙ put-append (eqb b 10) _ _ _

-- Into any number of fragments, empty ones among them.
pub fragments-held : (xs : List (List ℕ)) (k : Held) → held_after_all k xs ≡ held_after k (joined xs)
unfolding held_after_all held_after
fragments-held [] k = refl
fragments-held (x ∷ xs) k = fragments-held xs _ ∙ sym (cut-held x (joined xs) k)

pub fragments-lines : (xs : List (List ℕ)) (k : Held) → lines_by_all k xs ≡ lines_by k (joined xs)
unfolding lines_by_all lines_by
fragments-lines [] k = refl
fragments-lines (x ∷ xs) k =
    cc (fragments-lines xs (held_after k x), cut-lines x (joined xs) k)

-- ---- the lines of an input

-- What is held of the bytes p, which have no LF.
holding : List ℕ → Held
holding p = cond (leb (length p) most_line) (part p) long

by_length : (P : Held → Type 0) (p : List ℕ) → (length p ≤ most_line → P (part p)) → (most_line < length p → P long) → P (holding p)
unfolding holding
by_length P p f g = by-leb (λ t. P (cond t (part p) long)) (length p) most_line f g

holding-part : (p : List ℕ) → length p ≤ most_line → holding p ≡ part p
unfolding holding
holding-part p h = rw (le-leb (length p) most_line h)

holding-long : (p : List ℕ) → most_line < length p → holding p ≡ long
unfolding holding
holding-long p h = rw (lt-leb (length p) most_line h)

holding-more : (p : List ℕ) (b : ℕ) → hold (holding p) b ≡ holding (p ++ (b ∷ []))
unfolding hold
holding-more p b =
    let n : length (p ++ (b ∷ [])) ≡ length p + 1 = length-append p (b ∷ []) in
    by_length (λ k. hold k b ≡ holding (p ++ (b ∷ []))) p
    (λ _.
    by-ltb (λ t. cond t (part (p ++ (b ∷ []))) long ≡ holding (p ++ (b ∷ []))) (length p) most_line
    (λ h. sym (holding-part _ (omega arith))) (λ h. sym (holding-long _ (omega arith))))
    (λ h. sym (holding-long _ (omega arith)))

-- A held line is what the grammar says: one of more bytes than a line has is no call's text.
holding-line : (p : List ℕ) → line_held (holding p) ≡ line_of p
unfolding line_held
holding-line p = by_length (λ k. line_held k ≡ line_of p) p (λ h. refl) (λ h. sym (long-bad p h))

holding-last : (p : List ℕ) → gotten (last_line (holding p)) ≡ map line_of (last_text p)
unfolding gotten last_line last_text
holding-last [] = cc (holding-part [] (omega arith))
holding-last (b ∷ p) =
    by_length (λ k. gotten (last_line k) ≡ line_of (b ∷ p) ∷ []) (b ∷ p) (λ h. refl)
    (λ h. cc (long-bad (b ∷ p) h))

-- From what is held of the bytes p since the last LF.
held-lines : List ℕ → Held → List Line
held-lines s k = lines_by k s ++ gotten (last_line (held_after k s))

next-lines : (t : Bool) (b : ℕ) (s p : List ℕ) → ((q : List ℕ) → held-lines s (holding q) ≡ map line_of (texts_of q s))
    → put_if t (line_held (holding p)) (held-lines s (cond t fresh (hold (holding p) b))) ≡ map line_of (put_if t p (texts_of (cond t [] (p ++ (b ∷ []))) s))
next-lines true b s p ih =
    cc (holding-line p, holding-part [] (omega arith), ih [])
next-lines false b s p ih = cc (holding-more p b, ih (p ++ (b ∷ [])))

holding-lines : (s p : List ℕ) → held-lines s (holding p) ≡ map line_of (texts_of p s)
unfolding held-lines lines_by held_after held_with texts_of
holding-lines [] p = holding-last p
holding-lines (b ∷ s) p =
    sym (put-append (eqb b 10) _ _ _)
    ∙ next-lines (eqb b 10) b s p (holding-lines s)

-- From a new reader: the lines that come with their LF, and the one that comes with the end, are the calls of the input's lines.
pub input-lines : (s : List ℕ) → lines_by fresh s ++ gotten (last_line (held_after fresh s)) ≡ map line_of (texts_of [] s)
unfolding held-lines
input-lines s = cc (holding-part [] (omega arith), holding-lines s [])

-- The same of an input that comes in fragments.
pub fragments-input : (xs : List (List ℕ)) → lines_by_all fresh xs ++ gotten (last_line (held_after_all fresh xs)) ≡ map line_of (texts_of [] (joined xs))
fragments-input xs =
    cc (fragments-lines xs fresh, fragments-held xs fresh, input-lines (joined xs))

-- ---- one step of all that

-- What a step that ended the line g, or none, says of the bytes s, of which the first stands at position i: without an LF among them there is no
-- line, and they are all taken; else there is this line, and then those of the bytes behind the step.
unfoldable Takes : ℕ → Held → List ℕ → Step → Option Line → Type 0
Takes i k s x None = (lines_by k s ≡ []) × (held_after k s ≡ x.after) × (x.next ≡ i + length s)
Takes i k s x (Some l) =
    (x.after ≡ fresh) × (i < x.next) × (x.next ≤ i + length s)
    × (lines_by k s ≡ l ∷ lines_by fresh (drop (x.next - i) s))
    × (held_after k s ≡ held_after fresh (drop (x.next - i) s))

takes-lf : (i b : ℕ) (k : Held) (s : List ℕ) → eqb b 10 ≡ true → Takes i k (b ∷ s) (record { after = fresh; next = i + 1; line = Some (line_held k) }) (Some (line_held k))
unfolding Takes lines_by held_after held_with
takes-lf i b k s e =
    let n : i + 1 - i ≡ suc 0 = omega arith in
    (refl, omega arith, omega arith, rw (e, n), rw (e, n))

takes-on : (i b : ℕ) (k : Held) (s : List ℕ) (x : Step) (g : Option Line) → eqb b 10 ≡ false → Takes (i + 1) (hold k b) s x g → Takes i k (b ∷ s) x g
unfolding Takes lines_by held_after held_with
takes-on i b k s x None e t = (rw e t.0, rw e t.1, omega arith)
takes-on i b k s x (Some l) e t =
    let low : i + 1 < x.next = t.1 in
    let high : x.next ≤ i + 1 + length s = t.2 in
    let n : x.next - i ≡ suc (x.next - (i + 1)) = omega arith in
    (t.0, omega arith, omega arith, rw (e, n) t.3, rw (e, n) t.4)

step-next : Bool → ℕ → ℕ → Held → List ℕ → Step
step-next t i b k s =
    cond t (record { after = fresh; next = i + 1; line = Some (line_held k) }) (step_from (i + 1) (hold k b) s)

takes-next : (t : Bool) (i b : ℕ) (k : Held) (s : List ℕ) → eqb b 10 ≡ t → Takes (i + 1) (hold k b) s (step_from (i + 1) (hold k b) s) (step_from (i + 1) (hold k b) s).line
    → Takes i k (b ∷ s) (step-next t i b k s) (step-next t i b k s).line
unfolding step-next
takes-next true i b k s e ih = takes-lf i b k s e
takes-next false i b k s e ih = takes-on i b k s _ _ e ih

step-takes : (s : List ℕ) (i : ℕ) (k : Held) → Takes i k s (step_from i k s) (step_from i k s).line
unfolding step_from step-next Takes lines_by held_after
step-takes [] i k = (refl, refl, omega arith)
step-takes (b ∷ s) i k = takes-next (eqb b 10) i b k s refl (step-takes s (i + 1) (hold k b))

-- The same of the code's step.
module _ {k : Held} {s : List ℕ} {from : ℕ} {f : Fed} {m : Held} (h : FedBy k s from f m) where
  fed-takes : (g : Option Line) → f.line ≡ g → Takes from k (drop from s) (step_of f m) g
  unfolding step_of
  fed-takes g e =
      subst (Takes from k _ (step_of f m)) e
      (subst (λ x. Takes from k (drop from s) x x.line) (sym h.step) (step-takes _ from k))

  pub fed-more : f.line ≡ None → (lines_by k (drop from s) ≡ []) × (held_after k (drop from s) ≡ m) × (f.next ≡ from + length (drop from s))
  unfolding Takes step_of
  fed-more e = let t = fed-takes None e in (t.0, t.1, t.2)

  pub fed-whole : {l : Line} → f.line ≡ Some l → (m ≡ fresh) × (lines_by k (drop from s) ≡ l ∷ lines_by fresh (drop f.next s)) × (held_after k (drop from s) ≡ held_after fresh (drop f.next s))
  unfolding Takes step_of
  fed-whole {l} e =
      let t = fed-takes (Some l) e in
      let low : from < f.next = t.1 in
      let n : from + (f.next - from) ≡ f.next = omega arith in
      let rest : drop (f.next - from) (drop from s) ≡ drop f.next s =
      cc (drop-drop (f.next - from) from s) in
      (t.0, cc, cc)

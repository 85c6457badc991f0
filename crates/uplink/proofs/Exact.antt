-- The lines are exactly the texts of the calls: a line is read as a call if and only if it is that call's text, every other line
-- is bad, and the text of a call has at most 23 bytes. Assumes nothing.
use Prim.Native.Nat.{ℕ, ◌+◌, ◌≤◌, ◌<◌}
use mathlib.Core.Path.{◌≡◌, refl, sym, ap, ◌∙◌}
use mathlib.Core.Bool.{cond}
use mathlib.Core.Logic.{◌⊎◌, inl, inr, ◌↔◌}
use mathlib.Core.List.{List, [], ◌∷◌, ◌++◌, append-nil}
use native.Mathlib.Omega.{arith}
use lib.Dec.{eqb}
use lib.ListN.{length, drop, get_or, length-append, drop_of_length-le}
use Rattle.lemmas.proofs.Cases.{by-leb, by_eqb}
use Rattle.lemmas.proofs.Heads.{next_word, head-is, head-none, front-after}
use Rattle.model.specs.declared.Operation.{Operation}
use Rattle.model.specs.declared.Operation.TheVariants.{Allocate, Free, Reset}
use Rattle.model.specs.Ascii.{ascii}
use Rattle.model.specs.Text.{decimal}
use Rattle.std.specs.Prelude.{Option, Some, None}
use Rattle.text.specs.declared.Number.{Number}
use Rattle.text.specs.Numbers.{largest, number_at, stops, read}
use Rattle.text.proofs.Decimal.{length-word}
use Rattle.text.proofs.Numbers.{Stands, number-stands, number_read, number-last}
use Rattle.uplink.specs.declared.Numbers.{Numbers}
use Rattle.uplink.specs.declared.Numbers.TheVariants.{Zero, One, Two}
use Rattle.uplink.specs.declared.Line.{Line}
use Rattle.uplink.specs.declared.Line.TheVariants.{Init, Group, Trim, Query, Listing, Bad}
use Rattle.uplink.specs.Grammar.{call_text, line_text, OperationFits, IsCall, second_of, second_at, first_of, numbers_at, bare_line, line_of_one, line_of_two, line_with, line_of}
use Rattle.uplink.specs.Fragments.{most_line}
use Rattle.uplink.proofs.Parsing.{second_none, second-last, first-none, first_then}

-- ---- what is read has its text

-- What numbers say of the text that they were read from.
unfoldable Says : List ℕ → Option Numbers → Type 0
Says t (Some Zero) = t ≡ []
Says t (Some (One a)) = (t ≡ 32 ∷ decimal a) × (a ≤ largest)
Says t (Some (Two a b)) = (t ≡ 32 ∷ (decimal a ++ (32 ∷ decimal b))) × (a ≤ largest) × (b ≤ largest)
Says t None = Unit

-- The number is the last thing in the line.
last-number : (s : List ℕ) (n a : ℕ) → length s ≤ n → decimal a ++ drop n s ≡ decimal a
last-number s n a h = cc (drop_of_length-le s {i = n} h, append-nil (decimal a))

-- One space, and what follows it.
after-space : (s : List ℕ) (at : ℕ) → at < length s → get_or s at 0 ≡ 32 → drop at s ≡ 32 ∷ drop (at + 1) s
after-space s at h c = cc (next_word s at 0 h)

second-says : (s t : List ℕ) (a n : ℕ) (r : Option Number) → t ≡ 32 ∷ (decimal a ++ drop n s) → a ≤ largest → n < length s → get_or s n 0 ≡ 32 → number_at s (n + 1) ≡ r → Says t (second_of s a r)
unfolding second_of Says
second-says s t a n None e f h c q = tt
second-says s t a n (Some b) e f h c q =
    let w : Stands s (n + 1) b.value b.next = number-stands s (n + 1) b.value b.next q in
    by-leb (λ o. Says t (cond o (Some (Two a b.value)) None)) (length s) b.next
    (λ k. (
      cc (after-space s n h c, last-number s b.next b.value k),
      f,
      w.fits,
    ))
    (λ k. tt)

second-at-says : (s t : List ℕ) (a n : ℕ) → t ≡ 32 ∷ (decimal a ++ drop n s) → a ≤ largest → Says t (second_at s n a)
unfolding second_at Says
second-at-says s t a n e f =
    by-leb (λ o. Says t (cond o (Some (One a)) (cond (eqb (get_or s n 0) 32) (second_of s a (number_at s (n + 1))) None))) (length s) n
    (λ k. (cc (last-number s n a k), f))
    (λ k.
    by_eqb (λ o. Says t (cond o (second_of s a (number_at s (n + 1))) None)) (get_or s n 0) 32
    (λ c. second-says s t a n _ e f k c refl) (λ c. tt))

first_says : (s : List ℕ) (at : ℕ) (r : Option Number) → at < length s → get_or s at 0 ≡ 32 → number_at s (at + 1) ≡ r → Says (drop at s) (first_of s r)
unfolding first_of Says
first_says s at None h c q = tt
first_says s at (Some a) h c q =
    let w : Stands s (at + 1) a.value a.next = number-stands s (at + 1) a.value a.next q in
    second-at-says s (drop at s) a.value a.next (cc (after-space s at h c)) w.fits

numbers-say : (s : List ℕ) (at : ℕ) → Says (drop at s) (numbers_at s at)
unfolding numbers_at Says
numbers-say s at =
    by-leb (λ o. Says (drop at s) (cond o (Some Zero) (cond (eqb (get_or s at 0) 32) (first_of s (number_at s (at + 1))) None))) (length s) at
    (λ k. drop_of_length-le s {i = at} k)
    (λ k.
    by_eqb (λ o. Says (drop at s) (cond o (first_of s (number_at s (at + 1))) None)) (get_or s at 0) 32
    (λ c. first_says s at (number_at s (at + 1)) k c refl) (λ c. tt))

-- What is read is bad, or a call whose text was read.
Told : List ℕ → Line → Type 0
Told s l = (l ≡ Bad) ⊎ (IsCall l × (s ≡ line_text l))

bare-told : (c : ℕ) (t : List ℕ) → t ≡ [] → Told (c ∷ t) (bare_line c)
unfolding Told bare_line IsCall line_text ascii
bare-told c t e =
    by_eqb (λ o. Told (c ∷ t) (cond o Trim (cond (eqb c 112) Listing Bad))) c 116 (λ q. inr (tt, cc))
    (λ _. by_eqb (λ o. Told (c ∷ t) (cond o Listing Bad)) c 112 (λ q. inr (tt, cc)) (λ _. inl refl))

one_told : (c a : ℕ) (t : List ℕ) → t ≡ 32 ∷ decimal a → a ≤ largest → Told (c ∷ t) (line_of_one c a)
unfolding Told line_of_one IsCall OperationFits line_text call_text ascii
one_told c a t e h =
    by_eqb (λ o. Told (c ∷ t) (cond o (Init a) (cond (eqb c 120) reset (cond (eqb c 98) (Query a) Bad)))) c 115 (λ q. inr (h, cc))
    (λ _.
    by_eqb (λ o. Told (c ∷ t) (cond o reset (cond (eqb c 98) (Query a) Bad))) c 120 (λ q. inr ((h, tt), cc))
    (λ _. by_eqb (λ o. Told (c ∷ t) (cond o (Query a) Bad)) c 98 (λ q. inr (h, cc)) (λ _. inl refl)))
  where
    reset : Line
    reset = Group (record { group = a; operation = Reset })

two-told : (c a b : ℕ) (t : List ℕ) → t ≡ 32 ∷ (decimal a ++ (32 ∷ decimal b)) → a ≤ largest → b ≤ largest → Told (c ∷ t) (line_of_two c a b)
unfolding Told line_of_two IsCall OperationFits line_text call_text ascii
two-told c a b t e h k =
    by_eqb (λ o. Told (c ∷ t) (cond o (Group (record { group = a; operation = Allocate b })) (cond (eqb c 114) (Group (record { group = a; operation = Free b })) Bad))) c 113
    (λ q. inr ((h, k), cc))
    (λ _.
    by_eqb (λ o. Told (c ∷ t) (cond o (Group (record { group = a; operation = Free b })) Bad)) c 114 (λ q. inr ((h, k), cc)) (λ _. inl refl))

line-told : (c : ℕ) (t : List ℕ) (n : Option Numbers) → Says t n → Told (c ∷ t) (line_with c n)
unfolding Told line_with Says
line-told c t (Some Zero) m = bare-told c t m
line-told c t (Some (One a)) m = one_told c a t m.0 m.1
line-told c t (Some (Two a b)) m = two-told c a b t m.0 m.1 m.2
line-told c t None m = inl refl

pub line_read : (s : List ℕ) → (line_of s ≡ Bad) ⊎ (IsCall (line_of s) × (s ≡ line_text (line_of s)))
unfolding line_of Told
line_read [] = inl refl
line_read (c ∷ t) = line-told c t _ (numbers-say (c ∷ t) 1)

-- ---- a call's text is read

module _ (s : List ℕ) (at : ℕ) where
  numbers-none : drop at s ≡ [] → numbers_at s at ≡ Some Zero
  numbers-none e = sym (first-none s at (head-none s at e))

  numbers-one : (a : ℕ) → drop at s ≡ 32 ∷ decimal a → a ≤ largest → numbers_at s at ≡ Some (One a)
  numbers-one a e f =
      let h = head-is s at 32 0 (decimal a) e in
      sym (second_none s (length s) a (omega arith) ∙ first_then s at h.0 h.1 (number-last s (at + 1) a h.2 f))

  numbers-two : (a b : ℕ) → drop at s ≡ 32 ∷ (decimal a ++ (32 ∷ decimal b)) → a ≤ largest → b ≤ largest → numbers_at s at ≡ Some (Two a b)
  unfolding stops
  numbers-two a b e f g =
      let h = head-is s at 32 0 _ e in
      let first : number_at s (at + 1) ≡ read a (at + 1 + length (decimal a)) =
      number_read s (at + 1) a _ h.2 f refl in
      let k = head-is s _ 32 0 (decimal b) (front-after s (at + 1) (decimal a) _ h.2) in
      let second : number_at s (at + 1 + length (decimal a) + 1) ≡ read b (length s) =
      number-last s _ b k.2 g in
      sym
      (second-last s _ a k.0 k.1 second (omega arith)
      ∙ first_then s at h.0 h.1 first)

with-numbers : (c : ℕ) (t : List ℕ) {n : Option Numbers} → numbers_at (c ∷ t) 1 ≡ n → line_of (c ∷ t) ≡ line_with c n
unfolding line_of
with-numbers c t e = ap (line_with c) e

call-read : (g : ℕ) (o : Operation) → g ≤ largest → OperationFits o → line_of (call_text g o) ≡ Group (record { group = g; operation = o })
unfolding OperationFits call_text ascii line_with line_of_one line_of_two
call-read g (Allocate n) h k = with-numbers 113 _ (numbers-two _ 1 g n refl h k)
call-read g (Free o) h k = with-numbers 114 _ (numbers-two _ 1 g o refl h k)
call-read g Reset h k = with-numbers 120 _ (numbers-one _ 1 g refl h)

pub text-read : (l : Line) → IsCall l → line_of (line_text l) ≡ l
unfolding IsCall line_text ascii line_with bare_line line_of_one
text-read (Init n) h = with-numbers 115 _ (numbers-one _ 1 n refl h)
text-read (Group c) h = call-read c.group _ h.0 h.1
text-read Trim h = with-numbers 116 [] (numbers-none (116 ∷ []) 1 refl)
text-read (Query o) h = with-numbers 98 _ (numbers-one _ 1 o refl h)
text-read Listing h = with-numbers 112 [] (numbers-none (112 ∷ []) 1 refl)
text-read Bad h = absurd h

-- ---- both ways

bad-call : {l : Line} → l ≡ Bad → IsCall l → ⊥
unfolding IsCall
bad-call e h = rw e at h

-- A line is read as a call if and only if it is that call's text.
pub grammar : (s : List ℕ) (l : Line) → IsCall l → (line_of s ≡ l) ↔ (s ≡ line_text l)
grammar s l h = (λ e. go e (line_read s), λ e. cc (text-read l h))
  where
    go : line_of s ≡ l → (line_of s ≡ Bad) ⊎ (IsCall (line_of s) × (s ≡ line_text (line_of s))) → s ≡ line_text l
    go e (inl b) = absurd (bad-call (sym e ∙ b) h)
    go e (inr r) = cc

-- Every other line is bad.
pub other-bad : (s : List ℕ) → ((l : Line) → IsCall l → s ≡ line_text l → ⊥) → line_of s ≡ Bad
other-bad s n = go (line_read s)
  where
    go : (line_of s ≡ Bad) ⊎ (IsCall (line_of s) × (s ≡ line_text (line_of s))) → line_of s ≡ Bad
    go (inl b) = b
    go (inr r) = absurd (n (line_of s) r.0 r.1)

-- ---- the limit of a line changes no answer

length-one : (x : List ℕ) (n : ℕ) → n ≤ largest → length x ≡ 2 → length (x ++ decimal n) ≤ 23
length-one x n h e = omega (arith, length-append x (decimal n), length-word n (omega arith))

length_two : (x : List ℕ) (g n : ℕ) → g ≤ largest → n ≤ largest → length x ≡ 2 → length (x ++ (decimal g ++ (32 ∷ decimal n))) ≤ 23
length_two x g n h k e =
    omega (
      arith,
      length-append x (decimal g ++ (32 ∷ decimal n)),
      length-append (decimal g) (32 ∷ decimal n),
      length-word g (omega arith),
      length-word n (omega arith),
    )

call_length : (g : ℕ) (o : Operation) → g ≤ largest → OperationFits o → length (call_text g o) ≤ 23
unfolding OperationFits call_text ascii
call_length g (Allocate n) h k = length_two (ascii "q ") g n h k refl
call_length g (Free o) h k = length_two (ascii "r ") g o h k refl
call_length g Reset h k = length-one (ascii "x ") g h refl

pub text-length : (l : Line) → IsCall l → length (line_text l) ≤ 23
unfolding IsCall line_text ascii
text-length (Init n) h = length-one (ascii "s ") n h refl
text-length (Group c) h = call_length c.group _ h.0 h.1
text-length Trim h = omega arith
text-length (Query o) h = length-one (ascii "b ") o h refl
text-length Listing h = omega arith
text-length Bad h = absurd h

pub long-bad : (s : List ℕ) → most_line < length s → line_of s ≡ Bad
long-bad s n = other-bad s (λ l h e. omega (arith, text-length l h, ap length e))

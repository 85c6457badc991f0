-- Laws of lines and of the texts that are made of a number and something more: their pieces and their lengths. Assumes nothing.
use Prim.Native.Nat.{ℕ, ◌+◌, ◌*◌, ◌^◌, ◌≤◌, ◌<◌}
use Prim.Native.String.{String}
use mathlib.Core.Path.{◌≡◌, refl, sym, ap, ◌∙◌}
use mathlib.Core.Bool.{Bool, true, cond}
use mathlib.Core.List.{List, [], ◌∷◌, ◌++◌, append_assoc, append-nil}
use native.Mathlib.Omega.{arith}
use lib.Dec.{ltb}
use lib.ListN.{length, drop, get_or, length-append, drop_of_length-le}
use borrow.Author.Tests.{ltb-true}
use Rattle.model.specs.Ascii.{ascii}
use Rattle.model.specs.Text.{decimal, line, lines}
use Rattle.model.specs.Listing.{section}
use Rattle.lemmas.specs.Every.{every}
use Rattle.lemmas.proofs.Cases.{by-ltb, and_left, and_right}
use Rattle.lemmas.proofs.Heads.{next_word}
use Rattle.text.specs.Writing.{field, named}
use Rattle.text.proofs.Decimal.{length-long}
use Rattle.text.proofs.Left.{Left, left-all, left_split, left-none}

-- ---- a line as fields: a space ends each number but the last

-- The byte that ends a number before the numbers r.
unfoldable pub end_before : List ℕ → ℕ
end_before [] = 10
end_before (k ∷ r) = 32

unfoldable pub fields : List ℕ → List ℕ
fields [] = []
fields (n ∷ r) = field n (end_before r) ++ fields r

line-fields : (n : ℕ) (r : List ℕ) → line (n ∷ r) ≡ fields (n ∷ r)
unfolding line fields field end_before
line-fields n [] = sym (append-nil _)
line-fields n (k ∷ r) =
    cc (line-fields k r, append_assoc (decimal n) (32 ∷ []) (fields (k ∷ r)))

end-drop : (s : List ℕ) (i : ℕ) → end_before (drop i s) ≡ cond (ltb i (length s)) 32 10
unfolding end_before
end-drop s i =
    by-ltb (λ t. end_before (drop i s) ≡ cond t 32 10) i (length s) (λ h. ap end_before (next_word s i 0 h))
    (λ h. ap end_before (drop_of_length-le s {i = i} h))

-- The line of no numbers, and of some.
pub line-none : (s : List ℕ) → length s ≡ 0 → line s ≡ 10 ∷ []
unfolding line
line-none [] e = refl
line-none (n ∷ s) e = absurd (omega arith)

line-some : (s : List ℕ) → (length s ≡ 0 → ⊥) → fields s ≡ line s
line-some [] h = absurd (h refl)
line-some (n ∷ s) h = sym (line-fields n s)

-- The next field, and the end.
fields-next : (s : List ℕ) (i e : ℕ) → i < length s → e ≡ cond (ltb (i + 1) (length s)) 32 10 → fields (drop i s) ≡ field (get_or s i 0) e ++ fields (drop (i + 1) s)
unfolding fields
fields-next s i e h q =
    cc (next_word s i 0 h, end-drop s (i + 1))

fields-none : (s : List ℕ) (i : ℕ) → length s ≤ i → fields (drop i s) ≡ []
unfolding fields
fields-none s i h = ap fields (drop_of_length-le s {i = i} h)

-- The writer of a line's fields: all of them, the next one, none.
pub left-line : {l : List ℕ} {at : ℕ} (s : List ℕ) → (length s ≡ 0 → ⊥) → Left l at (line s) at l (fields s ∷ [])
left-line s h = left-all _ (append-nil (fields s) ∙ line-some s h)

module _ {l : List ℕ} {at : ℕ} {text : List ℕ} {k : ℕ} {m : List ℕ} (s : List ℕ) (i : ℕ) where
  pub left-number : {e : ℕ} → i < length s → e ≡ cond (ltb (i + 1) (length s)) 32 10 → Left l at text k m (fields (drop i s) ∷ []) → Left l at text k m (field (get_or s i 0) e ∷ fields (drop (i + 1) s) ∷ [])
  left-number {e} h q a = left_split _ _ (fields-next s i e h q) a

  pub left_end : length s ≤ i → Left l at text k m (fields (drop i s) ∷ []) → Left l at text k m []
  left_end h a = left-none (fields-none s i h) a

-- ---- pieces, for those who write them one by one

pub left-field : {l : List ℕ} {at : ℕ} (n e : ℕ) → Left l at (field n e) at l (decimal n ∷ (e ∷ []) ∷ [])
unfolding field
left-field n e = left-all _ (cc (append-nil (e ∷ [])))

pub left-named : {l : List ℕ} {at : ℕ} (name : List ℕ) (n : ℕ) → Left l at (named name n) at l (name ∷ (32 ∷ []) ∷ field n 10 ∷ [])
unfolding named line field
left-named name n =
    left-all _ (cc (append-nil (decimal n ++ (10 ∷ []))))

-- A section is its first line, and then the others.
pub section-named : (name : String) (rows : List (List ℕ)) → section name rows ≡ named (ascii name) (length rows) ++ lines rows
unfolding section named
section-named name rows = sym (append_assoc (ascii name) _ _)

-- ---- lengths, where every number has 64 bits

abbrev pub is_long : ℕ → Bool
is_long n = ltb n (2 ^ 64)

pub length-field : (n e : ℕ) → n < 2 ^ 64 → length (field n e) ≤ 21
unfolding field
length-field n e h = omega (arith, length-append (decimal n) (e ∷ []), length-long n h)

length_fields : (s : List ℕ) → every is_long s ≡ true → length (fields s) ≤ 21 * length s
unfolding fields every
length_fields [] e = omega arith
length_fields (n ∷ s) e =
    omega (
      arith,
      length-append (field n (end_before s)) (fields s),
      length-field n (end_before s) (ltb-true n (2 ^ 64) (and_left (is_long n) _ e)),
      length_fields s (and_right (is_long n) _ e),
    )

pub length-line : (s : List ℕ) → every is_long s ≡ true → length (line s) ≤ 21 * length s + 1
unfolding line
length-line [] e = omega arith
length-line (n ∷ s) e = omega (arith, ap length (line-fields n s), length_fields (n ∷ s) e)

pub length-named : (name : List ℕ) (n : ℕ) → n < 2 ^ 64 → length (named name n) ≤ length name + 22
unfolding named line field
length-named name n h = omega (arith, length-append name (32 ∷ (decimal n ++ (10 ∷ []))), length-field n 10 h)

-- The header's words, part by part, and that they are read back. Assumes nothing.
use Prim.Native.Nat.{ℕ, ◌+◌}
use mathlib.Core.Path.{◌≡◌, refl, sym, ap, ◌∙◌}
use mathlib.Core.List.{List, [], ◌∷◌, ◌++◌, append_assoc, append-nil}
use native.Mathlib.Omega.{arith}
use lib.ListN.{length, get_or, length-append}
use Rattle.lemmas.specs.Parts.{mid, put_mid}
use Rattle.lemmas.specs.Zeros.{zeros}
use Rattle.lemmas.proofs.Parts.{mid_at, put-at, length-mid}
use Rattle.lemmas.proofs.Zeros.{length-zeros}
use Rattle.model.specs.Numbers.{header_words}
use Rattle.header.specs.Keys.{keys_of}
use Rattle.header.specs.Slots.{slots}
use Rattle.header.specs.Encoding.{magic, header_encoding, Fits, pages_in, spare_in, lists_in, spare_slots, list_slots, rest_words, at_spare, at_lists, at_rest}
use Rattle.header.proofs.Keys.{lists-keys}
use Rattle.header.proofs.Entries.{length-slots, entries-slots}

-- ---- lists in four pieces

module _ (a b c d : List ℕ) (i k : ℕ) where
  third-part : length a + length b ≡ i → length c ≡ k → mid i k (a ++ (b ++ (c ++ d))) ≡ c
  third-part h e =
      cc (append_assoc a b (c ++ d), mid_at (a ++ b) c d i k (length-append a b ∙ h) e)

  put-third : (v : List ℕ) → length a + length b ≡ i → length c ≡ k → put_mid i k (a ++ (b ++ (c ++ d))) v ≡ a ++ (b ++ (v ++ d))
  put-third v h e =
      cc (append_assoc a b (c ++ d), put-at (a ++ b) c d v i k (length-append a b ∙ h) e, append_assoc a b (v ++ d))

-- ---- the parts of the header

-- Words as many as a header's have all the slots of the class lists.
pub lists-size : (w : List ℕ) → length w ≡ header_words → length (mid at_lists list_slots w) ≡ list_slots
lists-size w h = length-mid at_lists list_slots w (omega arith)

module _ (n : ℕ) (spare : List ℕ) (lists : List (List ℕ)) where
  pub length-header : length (header_encoding n spare lists) ≡ header_words
  unfolding header_encoding
  length-header =
      omega (arith, length-append (slots spare_slots spare) (slots list_slots (keys_of lists) ++ zeros rest_words), length-append (slots list_slots (keys_of lists)) (zeros rest_words), length-slots spare_slots spare, length-slots list_slots (keys_of lists), length-zeros rest_words)

  pub spare-part : mid at_spare spare_slots (header_encoding n spare lists) ≡ slots spare_slots spare
  unfolding header_encoding
  spare-part = mid_at (magic ∷ n ∷ []) _ _ at_spare spare_slots refl (length-slots spare_slots spare)

  pub put-spare : (v : List ℕ) → put_mid at_spare spare_slots (header_encoding n spare lists) v ≡ (magic ∷ n ∷ []) ++ (v ++ (slots list_slots (keys_of lists) ++ zeros rest_words))
  unfolding header_encoding
  put-spare v = put-at (magic ∷ n ∷ []) (slots spare_slots spare) _ v at_spare spare_slots refl (length-slots spare_slots spare)

  pub lists-part : mid at_lists list_slots (header_encoding n spare lists) ≡ slots list_slots (keys_of lists)
  unfolding header_encoding
  lists-part =
      third-part (magic ∷ n ∷ []) (slots spare_slots spare) _ _ at_lists list_slots (omega (arith, length-slots spare_slots spare)) (length-slots list_slots _)

  pub put-lists : (v : List ℕ) → put_mid at_lists list_slots (header_encoding n spare lists) v ≡ (magic ∷ n ∷ []) ++ (slots spare_slots spare ++ (v ++ zeros rest_words))
  unfolding header_encoding
  put-lists v =
      put-third (magic ∷ n ∷ []) (slots spare_slots spare) (slots list_slots (keys_of lists)) _ at_lists list_slots v (omega (arith, length-slots spare_slots spare)) (length-slots list_slots _)

  pub rest_part : mid at_rest rest_words (header_encoding n spare lists) ≡ zeros rest_words
  unfolding header_encoding
  rest_part =
      ap (mid at_rest rest_words)
      (ap (λ l. (magic ∷ n ∷ []) ++ (slots spare_slots spare ++ l)) (cc (append-nil (zeros rest_words)))
      ∙ ap (λ l. (magic ∷ n ∷ []) ++ l) (sym (append_assoc (slots spare_slots spare) _ _)))
      ∙ third-part (magic ∷ n ∷ []) (slots spare_slots spare ++ slots list_slots (keys_of lists)) _ [] at_rest rest_words
      (omega (arith, length-append (slots spare_slots spare) (slots list_slots (keys_of lists)), length-slots spare_slots spare, length-slots list_slots (keys_of lists))) (length-zeros rest_words)

  -- ---- reading back

  pub pages-encoded : pages_in (header_encoding n spare lists) ≡ n
  unfolding header_encoding
  pages-encoded = refl

  pub named-encoded : get_or (header_encoding n spare lists) 0 0 ≡ magic
  unfolding header_encoding
  named-encoded = refl

  module _ (fits : Fits n spare lists) where
    pub spare-encoded : spare_in (header_encoding n spare lists) ≡ spare
    unfolding spare_in
    spare-encoded = rw spare-part (entries-slots spare_slots spare fits.few)

    pub lists-encoded : lists_in (header_encoding n spare lists) ≡ lists
    unfolding lists_in
    lists-encoded =
        cc (lists-part, entries-slots list_slots (keys_of lists) fits.room, lists-keys lists fits.classes fits.list-pages)

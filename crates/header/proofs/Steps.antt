-- What the words of a header hold, in the code's terms, and that each step's stores make the next header. Assumes nothing.
use Prim.Native.Nat.{ℕ, zero, suc, ◌+◌, ◌-◌, ◌≤◌, ◌<◌}
use mathlib.Core.Path.{◌≡◌, refl, sym, ap, ◌∙◌}
use mathlib.Core.List.{List, [], ◌∷◌, ◌++◌, map, append-nil, Memᴰ}
use native.Mathlib.Nat.{not-suc-le-zero, le_of_suc-le-suc}
use native.Mathlib.Numerals.{add-one}
use native.Mathlib.Omega.{arith}
use lib.Dec.{ltb}
use lib.ListN.{length, get_or, set, drop, replicate, length-append, drop_of_length-le, get_or-eq_default}
use borrow.Author.Tests.{lt-ltb, le-ltb}
use Rattle.lemmas.specs.Every.{count}
use Rattle.lemmas.specs.Times.{times, remove}
use Rattle.lemmas.specs.Parts.{mid, put_mid}
use Rattle.lemmas.specs.Zeros.{zeros}
use Rattle.lemmas.proofs.Cases.{by-lt}
use Rattle.lemmas.proofs.Every.{count-le-length}
use Rattle.lemmas.proofs.Parts.{length-mid, get_or-mid}
use Rattle.lemmas.proofs.Zeros.{zeros-add, get_or-zeros}
use Rattle.model.specs.Numbers.{class_count, most_pages, header_words}
use Rattle.std.specs.Prelude.{Option, Some, None}
use Rattle.std.specs.Option.{SomeIff, MatchOption}
use Rattle.std.specs.Bool.{then_some}
use Rattle.header.specs.Keys.{key, class_in, keys_from, keys_of, put_at, place_of, key_limit}
use Rattle.header.specs.Slots.{slots, holds, shifted_in, closed_up}
use Rattle.header.specs.Encoding.{magic, header_encoding, Encodes, spare_slots, list_slots, rest_words, at_spare, at_lists, at_rest}
use Rattle.header.specs.Front.{front_of}
use Rattle.header.proofs.Keys.{Below, keys_below, keys_before, keys_behind, keys-parts, place_is, behind-above, keys_push, keys-remove}
use Rattle.header.proofs.Entries.{length-slots, slots-none, between, count-slots, shifted-slots, closed-slots}
use Rattle.header.proofs.Counts.{count-every, count-one, count-place, count-class, times-class}
use Rattle.header.proofs.Encoded.{lists-size, length-header, spare-part, put-spare, lists-part, put-lists, rest_part}

-- ---- the slot at the front of what is left of a list

slot_of : List ℕ → ℕ
slot_of [] = 0
slot_of (q ∷ l) = suc q

slot_at : (m : ℕ) (a b : List ℕ) → length (a ++ b) ≤ m → get_or (slots m (a ++ b)) (length a) 0 ≡ slot_of b
unfolding slots slot_of
slot_at zero [] [] h = refl
slot_at zero [] (q ∷ b) h = absurd (not-suc-le-zero h)
slot_at zero (x ∷ a) b h = absurd (not-suc-le-zero h)
slot_at (suc m) [] [] h = refl
slot_at (suc m) [] (q ∷ b) h = refl
slot_at (suc m) (x ∷ a) b h = slot_at m a b (le_of_suc-le-suc h)

-- The front of a class's list l, from the slot where its keys begin.
front_below : (c x : ℕ) (l behind : List ℕ) → x ≡ slot_of (map (key c) l ++ behind) → x ≤ key c 0 → None ≡ front_of l
unfolding slot_of
front_below c x [] behind e h = refl
front_below c x (p ∷ l) behind e h = absurd (omega arith)

front_above : (c x : ℕ) (l behind : List ℕ) → x ≡ slot_of (map (key c) l ++ behind) → Below most_pages l → key c most_pages < x → None ≡ front_of l
unfolding slot_of
front_above c x [] behind e g h = refl
front_above c x (p ∷ l) behind e g h = absurd (let a = g p (Memᴰ.head refl) in omega arith)

front-own : (c x : ℕ) (l behind : List ℕ) → x ≡ slot_of (map (key c) l ++ behind) → ((q : ℕ) → Memᴰ q behind → c < class_in q) → key c 0 < x → x ≤ key c most_pages
    → Some (x - key c 0 - 1) ≡ front_of l
unfolding slot_of
front-own c x [] [] e g h k = absurd (omega arith)
front-own c x [] (q ∷ behind) e g h k = absurd (let a = g q (Memᴰ.head refl) in omega arith)
front-own c x (p ∷ l) behind e g h k = ap Some (omega arith)

-- The front of a list by itself: its slot less one.
front-slot : (x : ℕ) (l : List ℕ) (found : Option ℕ) → x ≡ slot_of l → SomeIff found (1 ≤ x) (x - 1) → found ≡ front_of l
unfolding slot_of
front-slot x [] None e h = refl
front-slot x [] (Some y) e h = absurd (let a = h.0 in omega arith)
front-slot x (p ∷ l) None e h = absurd (h (omega arith))
front-slot x (p ∷ l) (Some y) e h = ap Some (let a = h.1 in omega arith)

-- The stores that take the front off the empty list.
popped : (m n : ℕ) (l rest : List ℕ) → length l ≤ spare_slots → set (set (m ∷ n ∷ (slots spare_slots l ++ rest)) 2 (get_or (m ∷ n ∷ (slots spare_slots l ++ rest)) 3 0)) 3 0 ≡ m ∷ n ∷ (slots spare_slots (drop 1 l) ++ rest)
unfolding slots
popped m n [] rest h = refl
popped m n (x ∷ []) rest h = refl
popped m n (x ∷ y ∷ []) rest h = refl
popped m n (x ∷ y ∷ z ∷ l) rest h = absurd (omega arith)

module _ {w : List ℕ} {n : ℕ} {spare : List ℕ} {lists : List (List ℕ)} (h : Encodes w n spare lists) where
  -- ---- what the words hold

  pub header_length : length w ≡ header_words
  header_length = cc (length-header n spare lists)

  lists-words : mid at_lists list_slots w ≡ slots list_slots (keys_of lists)
  lists-words = cc (lists-part n spare lists)

  spare-words : mid at_spare spare_slots w ≡ slots spare_slots spare
  spare-words = cc (spare-part n spare lists)

  -- A count over the slots is a count over the list.
  lists-count : (low high : ℕ) → count (holds low high) (mid at_lists list_slots w) ≡ count (between low high) (keys_of lists)
  lists-count low high = rw lists-words (count-slots low high list_slots (keys_of lists) h.fits.room)

  spare-count : (low high : ℕ) → count (holds low high) (mid at_spare spare_slots w) ≡ count (between low high) spare
  spare-count low high = rw spare-words (count-slots low high spare_slots spare h.fits.few)

  -- It is at most the number of slots.
  pub lists-most : (low high : ℕ) {k : ℕ} → k ≡ count (holds low high) (mid at_lists list_slots w) → k ≤ list_slots
  lists-most low high e =
      let a = count-le-length (holds low high) (mid at_lists list_slots w) in
      let b = lists-size w header_length in
      omega arith

  pub spare-most : (low high : ℕ) {k : ℕ} → k ≡ count (holds low high) (mid at_spare spare_slots w) → k ≤ spare_slots
  spare-most low high e =
      let a = count-le-length (holds low high) (mid at_spare spare_slots w) in
      let b = ap length spare-words ∙ length-slots spare_slots spare in
      omega arith

  pub listed-count : count (holds 0 key_limit) (mid at_lists list_slots w) ≡ length (keys_of lists)
  listed-count = lists-count 0 key_limit ∙ count-every key_limit _ (keys_below lists h.fits.classes h.fits.list-pages)

  pub spare-length : count (holds 0 most_pages) (mid at_spare spare_slots w) ≡ length spare
  spare-length = spare-count 0 most_pages ∙ count-every most_pages spare h.fits.spare-pages

  pub spare-times : (p : ℕ) → count (holds p (p + 1)) (mid at_spare spare_slots w) ≡ times p spare
  spare-times p = spare-count p (p + 1) ∙ count-one p spare

  module _ (c : ℕ) (b : c < class_count) where
    there : c < length lists
    there = let a = h.fits.classes in omega arith

    pub class-length : (low high : ℕ) → low ≡ key c 0 → high ≡ key c most_pages → count (holds low high) (mid at_lists list_slots w) ≡ length (get_or lists c [])
    class-length low high l g =
        cc (lists-count low high, count-class c lists there h.fits.list-pages)

    pub class-times : (p q : ℕ) → p < most_pages → q ≡ key c p → count (holds q (q + 1)) (mid at_lists list_slots w) ≡ times p (get_or lists c [])
    class-times p q k e =
        cc (lists-count q (q + 1), count-one q (keys_of lists), times-class c lists there h.fits.list-pages p k)

    class-place : (low : ℕ) → low ≡ key c 0 → count (holds 0 low) (mid at_lists list_slots w) ≡ place_of c (keys_of lists)
    class-place low l = cc (lists-count 0 low, count-place c lists)

    -- The slot where the keys of the class begin; behind the last slot stands a zero.
    place-slot : (low k : ℕ) → low ≡ key c 0 → k ≡ count (holds 0 low) (mid at_lists list_slots w) → get_or w (at_lists + k) 0 ≡ slot_of (map (key c) (get_or lists c []) ++ keys_behind c lists)
    place-slot low k is e =
        let before : List ℕ = keys_before c lists in
        let rest : List ℕ = map (key c) (get_or lists c []) ++ keys_behind c lists in
        let parts : keys_of lists ≡ before ++ rest = keys-parts c lists there in
        let at : k ≡ length before = e ∙ class-place low is ∙ place_is c lists there h.fits.list-pages in
        let room : length (before ++ rest) ≤ list_slots = rw (sym parts) h.fits.room in
        let slot : get_or (mid at_lists list_slots w) k 0 ≡ slot_of rest =
        cc (lists-words, parts, at, slot_at list_slots before rest room) in
        by-lt k list_slots
        (λ l. cc (get_or-mid at_lists list_slots w k 0 l))
        (λ l.
        let last : k ≡ list_slots = let a = length-append before rest in omega arith in
        ap (λ i. get_or w (at_lists + i) 0) last
        ∙ sym (get_or-mid at_rest rest_words w 0 0 (omega arith))
        ∙ ap (λ (t : List ℕ). get_or t 0 0) (ap (mid at_rest rest_words) h.words ∙ rest_part n spare lists)
        ∙ get_or-zeros rest_words 0
        ∙ sym (get_or-eq_default (mid at_lists list_slots w) 0 (let a = lists-size w header_length in omega arith))
        ∙ slot)

    module _ (low k : ℕ) (is : low ≡ key c 0) (e : k ≡ count (holds 0 low) (mid at_lists list_slots w)) where
      pub first_below : get_or w (at_lists + k) 0 ≤ low → None ≡ front_of (get_or lists c [])
      first_below l = front_below c _ (get_or lists c []) _ (place-slot low k is e) (omega arith)

      pub first_above : (high : ℕ) → high ≡ key c most_pages → high < get_or w (at_lists + k) 0 → None ≡ front_of (get_or lists c [])
      first_above high g l =
          front_above c _ _ _ (place-slot low k is e) (h.fits.list-pages c) (omega arith)

      pub first-own : (high : ℕ) → high ≡ key c most_pages → low < get_or w (at_lists + k) 0 → get_or w (at_lists + k) 0 ≤ high → Some (get_or w (at_lists + k) 0 - low - 1) ≡ front_of (get_or lists c [])
      first-own high g l m =
          ap (λ x. Some (get_or w (at_lists + k) 0 - x - 1)) is
          ∙ front-own c _ (get_or lists c []) _ (place-slot low k is e) (λ q. behind-above c lists there) (omega arith) (omega arith)

      -- The page that the slot tells, kept if the class has it.
      pub first-front : (found kept : Option ℕ) → SomeIff found (low + 1 ≤ get_or w (at_lists + k) 0) (get_or w (at_lists + k) 0 - (low + 1))
          → MatchOption found (kept ≡ None) (λ p. kept ≡ then_some (ltb p most_pages) p) → kept ≡ front_of (get_or lists c [])
      first-front None kept s m = m ∙ first_below (by-lt low (get_or w (at_lists + k) 0) (λ l. absurd (s (omega arith))) (λ l. l))
      first-front (Some p) kept s m =
          let a = s.0 in
          let b = s.1 in
          by-lt p most_pages
          (λ l. m ∙ ap (λ t. then_some t p) (lt-ltb p most_pages l) ∙ ap Some (omega arith) ∙ first-own _ refl (omega arith) (omega arith))
          (λ l. m ∙ ap (λ t. then_some t p) (le-ltb p most_pages l) ∙ first_above _ refl (omega arith))

  spare-slot : get_or w 2 0 ≡ slot_of spare
  spare-slot = cc (get_or-mid at_spare spare_slots w 0 0 (omega arith), spare-words, slot_at spare_slots [] spare h.fits.few)

  pub spare-front : {found : Option ℕ} → SomeIff found (1 ≤ get_or w 2 0) (get_or w 2 0 - 1) → found ≡ front_of spare
  spare-front = front-slot _ spare _ spare-slot

  -- ---- the steps

  step-lists : (v : List ℕ) (ls : List (List ℕ)) → v ≡ slots list_slots (keys_of ls) → put_mid at_lists list_slots w v ≡ header_encoding n spare ls
  unfolding header_encoding
  step-lists v ls e =
      cc (put-lists n spare lists v)

  step-spare : (v l : List ℕ) → v ≡ slots spare_slots l → put_mid at_spare spare_slots w v ≡ header_encoding n l lists
  unfolding header_encoding
  step-spare v l e =
      cc (put-spare n spare lists v)

  module _ (c p : ℕ) (b : c < class_count) where
    pub step_push : (low q k : ℕ) (v : List ℕ) → low ≡ key c 0 → q ≡ key c p → k ≡ count (holds 0 low) (mid at_lists list_slots w) → v ≡ shifted_in k (q + 1) (mid at_lists list_slots w)
        → put_mid at_lists list_slots w v ≡ header_encoding n spare (set lists c (p ∷ get_or lists c []))
    step_push low q k v is own e f =
        let at : k ≡ place_of c (keys_of lists) = e ∙ class-place c b low is in
        let m : k ≤ length (keys_of lists) = rw at (count-le-length _ _) in
        step-lists v _
        (f
        ∙ ap (λ t. shifted_in k (q + 1) t) lists-words
        ∙ ap (λ x. shifted_in k x (slots list_slots (keys_of lists))) (cc (add-one q))
        ∙ shifted-slots k list_slots (key c p) _ m
        ∙ ap (λ i. slots list_slots (put_at i (key c p) (keys_of lists))) at
        ∙ ap (slots list_slots) (sym (keys_push c lists (there c b) h.fits.list-pages p)))

    pub step-remove : (q : ℕ) (v : List ℕ) → p < most_pages → q ≡ key c p → v ≡ closed_up (q + 1) (mid at_lists list_slots w) → put_mid at_lists list_slots w v ≡ header_encoding n spare (set lists c (remove p (get_or lists c [])))
    step-remove q v k own f =
        step-lists v _
        (f
        ∙ ap (closed_up (q + 1)) lists-words
        ∙ ap (λ x. closed_up x (slots list_slots (keys_of lists))) (cc (add-one q))
        ∙ closed-slots (key c p) list_slots _ h.fits.room
        ∙ ap (slots list_slots) (sym (keys-remove c lists (there c b) h.fits.list-pages p k)))

  pub step-spare-push : (p : ℕ) (v : List ℕ) → v ≡ shifted_in 0 (p + 1) (mid at_spare spare_slots w) → put_mid at_spare spare_slots w v ≡ header_encoding n (p ∷ spare) lists
  step-spare-push p v q =
      step-spare v (p ∷ spare)
      (cc (q, spare-words, add-one p, shifted-slots 0 spare_slots p spare (omega arith)))

  pub step-spare-clear : (v : List ℕ) → v ≡ zeros (length (mid at_spare spare_slots w)) → put_mid at_spare spare_slots w v ≡ header_encoding n [] lists
  step-spare-clear v q = step-spare v [] (cc (q, spare-words, length-slots spare_slots spare, slots-none spare_slots))

  pub step-spare-pop : set (set w 2 (get_or w 3 0)) 3 0 ≡ header_encoding n (drop 1 spare) lists
  unfolding header_encoding
  step-spare-pop =
      cc (popped magic n spare (slots list_slots (keys_of lists) ++ zeros rest_words) h.fits.few)

-- ---- a new header, whatever the words held

keys_none : (c m : ℕ) → keys_from c (replicate m []) ≡ []
unfolding keys_from
keys_none c zero = refl
keys_none c (suc m) = keys_none (suc c) m

pub fresh-keys : keys_of (replicate class_count []) ≡ []
unfolding keys_of
fresh-keys = keys_none 0 class_count

overwritten : (w z : List ℕ) (k m n : ℕ) → length w ≡ 2 + k → set (set (put_mid 2 k w z) 0 m) 1 n ≡ m ∷ n ∷ z
overwritten [] z k m n e = absurd (omega arith)
overwritten (a ∷ []) z k m n e = absurd (omega arith)
overwritten (a ∷ b ∷ w) z k m n e =
    let l : length w ≤ k = omega arith in
    cc (drop_of_length-le w l, append-nil z)

pub step-fresh : (w z : List ℕ) (n : ℕ) → length w ≡ header_words → z ≡ zeros (length (mid at_spare (header_words - at_spare) w))
    → set (set (put_mid at_spare (header_words - at_spare) w z) 0 magic) 1 n ≡ header_encoding n [] (replicate class_count [])
unfolding header_encoding
step-fresh w z n e q =
    overwritten w z (header_words - at_spare) magic n e
    ∙ ap (λ t. magic ∷ n ∷ t)
    (q
    ∙ ap zeros (length-mid at_spare _ w (omega arith))
    ∙ zeros-add spare_slots _
    ∙ ap (λ t. zeros spare_slots ++ t) (zeros-add list_slots rest_words)
    ∙ ap (λ t. t ++ (zeros list_slots ++ zeros rest_words)) (sym (slots-none spare_slots))
    ∙ ap (λ t. slots spare_slots [] ++ (t ++ zeros rest_words)) (sym (slots-none list_slots) ∙ ap (slots list_slots) (sym fresh-keys)))

-- What each turn and each end of the check's scans says: one slot, the chunk at one position of the chain, the slots and the whole part
-- by part. Assumes nothing.
use Prim.Native.Nat.{ℕ, ◌+◌, ◌-◌, ◌≤◌, ◌<◌}
use mathlib.Core.Path.{◌≡◌, sym, ap, ◌∙◌}
use mathlib.Core.Bool.{true, false, ◌&&◌}
use mathlib.Core.List.{List}
use native.Mathlib.Omega.{arith}
use lib.Bits.{bit_or, bit_xor}
use lib.Dec.{eqb}
use lib.ListN.{length, get_or, take, drop, length-drop, get_or-eq_default}
use lib.Seq.{take-add, take_all, get_or-take, length-take-le}
use borrow.Author.Tests.{eq-eqb, lt-ltb, ltb-true}
use Rattle.lemmas.specs.Below.{all_below}
use Rattle.lemmas.specs.Every.{every, count}
use Rattle.lemmas.specs.Parts.{mid}
use Rattle.lemmas.specs.Zeros.{is_zero}
use Rattle.lemmas.proofs.Below.{all_more}
use Rattle.lemmas.proofs.Bits.{or-zero, xor-zero}
use Rattle.lemmas.proofs.Cases.{refuted, true-false, by-lt}
use Rattle.lemmas.proofs.Every.{every-at, every_of, count-append}
use Rattle.lemmas.proofs.Tests.{and_comm}
use Rattle.zone.specs.Decoding.{slots_in, state_in, entry_in, is_live, is_bare, is_near, in_place, slots_legal, head_legal, body_legal, touched_in, chained_in}
use Rattle.zone.proofs.Facts.{head_of, head-most, slots-of}
use Rattle.zone.specs.Encoding.{head_words, head_numbers, head_zeros, slot_count, zone_words, position_base}

-- ---- the slots, part by part

module _ (s : List ℕ) where
  pub near-at : (m i : ℕ) → every is_near (take m s) ≡ true → m ≤ length s → i < m → entry_in (get_or s i 0) < slot_count
  near-at m i e h l =
      let a = every-at is_near (take m s) i 0 e (let n = length-take-le m s h in omega arith) in
      let q = get_or-take m s i 0 l in
      let b = ltb-true (get_or (take m s) i 0) _ a in omega arith

  -- A turn of the scan of positions: what the code or-s together is zero where all are in place.
  pub place-next : (i wrong : ℕ) → eqb wrong 0 ≡ all_below (in_place s) i
      → eqb (bit_or wrong (bit_xor (state_in (get_or s (entry_in (get_or s i 0)) 0)) (position_base + i))) 0 ≡ all_below (in_place s) (i + 1)
  place-next i wrong e =
      let state = state_in (get_or s (entry_in (get_or s i 0)) 0) in
      or-zero wrong _
      ∙ ap (λ b. b && eqb (bit_xor state (position_base + i)) 0) e
      ∙ ap (λ b. all_below (in_place s) i && b) (xor-zero state (position_base + i))
      ∙ and_comm _ (in_place s i)
      ∙ sym (all_more (in_place s) i)

  module _ (k m : ℕ) where
    pub slots-full : every is_bare (mid m (k - m) s) ≡ false → false ≡ slots_legal s k m
    unfolding slots_legal
    slots-full e = rw e

    pub count-parts : m ≤ k → count is_live (take k s) ≡ count is_live (take m s) + count is_live (mid m (k - m) s)
    count-parts l = ap (count is_live) (ap (λ n. take n s) (let e : k ≡ m + (k - m) = omega arith in e) ∙ take-add m (k - m) s) ∙ count-append is_live (take m s) _

    pub slots-uncounted : m ≤ k → (count is_live (take m s) + count is_live (mid m (k - m) s) ≡ k - m → ⊥) → false ≡ slots_legal s k m
    slots-uncounted l n = sym (refuted _ (λ e. n (sym (count-parts l) ∙ (slots-of s k m e).live)))

    pub slots-far : length s ≡ slot_count → m ≤ slot_count → every is_near (take m s) ≡ false → false ≡ slots_legal s k m
    slots-far size few e =
        sym (refuted _ (λ q. true-false (every_of is_near (take m s) 0 (λ i l. let n = length-take-le m s (omega arith) in near i (omega arith) ((slots-of s k m q).placed i (omega arith)))) e))
      where
        near : (i : ℕ) → i < m → state_in (get_or s (entry_in (get_or s i 0)) 0) ≡ position_base + i → is_near (get_or (take m s) i 0) ≡ true
        near i l q =
            let x = get_or-take m s i 0 l in
            by-lt (entry_in (get_or s i 0)) slot_count (λ b. lt-ltb (get_or (take m s) i 0) _ (omega arith))
            (λ b. absurd (omega (arith, get_or-eq_default s 0 {n = entry_in (get_or s i 0)} (omega arith))))

    pub slots-placed : m ≤ k → every is_bare (mid m (k - m) s) ≡ true → count is_live (take m s) + count is_live (mid m (k - m) s) ≡ k - m → all_below (in_place s) m ≡ slots_legal s k m
    unfolding slots_legal
    slots-placed l a b = rw (a, eq-eqb _ (k - m) (count-parts l ∙ b))

-- ---- the body: where its first two parts are legal, the words behind the slots of the chunks handed out decide

pub body-untouched : (w : List ℕ) → length w ≡ zone_words → touched_in w ≤ slot_count → every is_zero (mid head_numbers head_zeros w) ≡ true
    → slots_legal (slots_in w) (touched_in w) (chained_in w) ≡ true → every is_zero (mid (head_words + touched_in w) (length w - (head_words + touched_in w)) w) ≡ body_legal w
unfolding body_legal
body-untouched w size most a b =
    cc (take_all (length w - (head_words + touched_in w)) (drop (head_words + touched_in w) w) (simp length-drop (omega arith)))

-- ---- the whole

pub check-asks : (w : List ℕ) → head_legal w ≡ true → (length w ≡ zone_words) × (touched_in w ≤ slot_count) × (chained_in w ≤ touched_in w)
check-asks w e = let h = head_of w e in (h.size, head-most w h, h.few)

-- What each turn and each end of the code's loops says. Assumes nothing.
use Prim.Native.Nat.{ℕ, suc, ◌+◌, ◌-◌, ◌≤◌, ◌<◌}
use mathlib.Core.Path.{◌≡◌, refl, sym, ap, ◌∙◌}
use mathlib.Core.Bool.{true, false}
use mathlib.Core.List.{List, [], ◌∷◌, ◌++◌, append-nil}
use native.Mathlib.Omega.{arith}
use lib.ListN.{length, get_or, set, take, drop, length-set, length-drop, drop_of_length-le}
use lib.Seq.{take_all, append_snoc, drop-set-lt, length-take-le}
use borrow.Author.Tests.{lt-ltb, le-ltb, le-leb, lt-leb}
use Rattle.lemmas.specs.Every.{every}
use Rattle.lemmas.specs.Keep.{keep}
use Rattle.lemmas.specs.Parts.{mid, put_mid}
use Rattle.lemmas.specs.Times.{times, remove}
use Rattle.lemmas.specs.Zeros.{zeros, is_zero}
use Rattle.lemmas.proofs.Parts.{length-mid}
use Rattle.lemmas.proofs.Heads.{next_word, take_next, take_set_next, drop-set-next}
use Rattle.lemmas.proofs.Distinct.{remove-here, remove-there, remove-append, length-remove}
use Rattle.header.specs.Keys.{class_in}
use Rattle.header.specs.Slots.{legal_slots, pushed, shifted_in, closed_up}

-- ---- the test of slots, from index i on

module _ (limit c : ℕ) (w : List ℕ) (i : ℕ) where
  pub legal-end : length w ≤ i → true ≡ legal_slots limit c (drop i w)
  unfolding legal_slots
  legal-end h = rw (drop_of_length-le w h)

  -- From a zero on there are zeros only.
  pub legal-zero : i < length w → get_or w i 0 ≡ 0 → every is_zero (take (length w - i) (drop i w)) ≡ legal_slots limit c (drop i w)
  unfolding legal_slots every
  legal-zero h e =
      ap (every is_zero) (take_all (length w - i) _ (simp length-drop (omega arith)))
      ∙ (rw (next_word w i 0 h, e))

  next-entry : i < length w → (get_or w i 0 ≡ 0 → ⊥) → drop i w ≡ suc (get_or w i 0 - 1) ∷ drop (i + 1) w
  next-entry h n = next_word w i 0 h ∙ ap (λ x. x ∷ drop (i + 1) w) (let e : get_or w i 0 ≡ suc (get_or w i 0 - 1) = omega arith in e)

  pub legal-large : i < length w → (get_or w i 0 ≡ 0 → ⊥) → limit < get_or w i 0 → false ≡ legal_slots limit c (drop i w)
  unfolding legal_slots
  legal-large h n l = rw (next-entry h n, le-ltb (get_or w i 0 - 1) limit (omega arith))

  pub legal-falls : i < length w → (get_or w i 0 ≡ 0 → ⊥) → get_or w i 0 ≤ limit → class_in (get_or w i 0 - 1) < c → false ≡ legal_slots limit c (drop i w)
  unfolding legal_slots
  legal-falls h n l k = rw (next-entry h n, lt-ltb (get_or w i 0 - 1) limit (omega arith), lt-leb c _ k)

  pub legal-next : i < length w → (get_or w i 0 ≡ 0 → ⊥) → get_or w i 0 ≤ limit → c ≤ class_in (get_or w i 0 - 1)
      → legal_slots limit (class_in (get_or w i 0 - 1)) (drop (i + 1) w) ≡ legal_slots limit c (drop i w)
  unfolding legal_slots
  legal-next h n l k = rw (next-entry h n, lt-ltb (get_or w i 0 - 1) limit (omega arith), le-leb c _ k)

-- ---- shifting in

pub shift-more : (w : List ℕ) (i v : ℕ) → i < length w → shifted_in (i + 1) (get_or w i 0) (set w i v) ≡ shifted_in i v w
unfolding pushed
shift-more w i v h = rw (take_set_next w i v h, drop-set-next w i v, next_word w i 0 h) (append_snoc (take i w) v _)

pub shift-done : (w : List ℕ) (i v : ℕ) → length w ≤ i → shifted_in i v w ≡ w
unfolding pushed
shift-done w i v h = rw (drop_of_length-le w h) (append-nil (take i w) ∙ take_all i w h)

-- The slots from an index on, shifted by themselves, are put back.
pub shift-put : (w u : List ℕ) (k v : ℕ) → u ≡ shifted_in 0 v (mid k (length w - k) w) → put_mid k (length w - k) w u ≡ shifted_in k v w
shift-put w u k v e =
    let b : length (drop k w) ≤ length w - k = simp length-drop (omega arith) in
    let m : mid k (length w - k) w ≡ drop k w = take_all (length w - k) (drop k w) b in
    let d : drop (length w - k) (drop k w) ≡ [] = drop_of_length-le (drop k w) b in
    cc (append-nil u)

-- ---- gathering: the first e slots are those of the first i that are not v, and from i on all is as it was

pub record Gathered (v : ℕ) (w₀ w : List ℕ) (e i : ℕ) : Type 0 where
  pub size : length w ≡ length w₀
  pub here : i ≤ length w₀
  pub close : e ≤ i
  pub front : take e w ≡ remove v (take i w₀)
  pub behind : drop i w ≡ drop i w₀

gathered_none : (v : ℕ) (w : List ℕ) → take 0 w ≡ remove v (take 0 w)
unfolding remove keep
gathered_none v w = refl

module _ (v : ℕ) (w₀ : List ℕ) where
  pub gathered-start : Gathered v w₀ w₀ 0 0
  gathered-start = record { size = refl; here = omega arith; close = omega arith; front = gathered_none v w₀; behind = refl }

  module _ (w : List ℕ) (e i : ℕ) (g : Gathered v w₀ w e i) where
    module _ (h : i < length w) where
      there : i < length w₀
      there = let a = g.size in omega arith

      same_word : get_or w i 0 ∷ drop (i + 1) w ≡ get_or w₀ i 0 ∷ drop (i + 1) w₀
      same_word = cc (next_word w i 0 h, next_word w₀ i 0 there)

      removed-next : remove v (take (i + 1) w₀) ≡ take e w ++ remove v (get_or w i 0 ∷ [])
      removed-next =
          let s = same_word in
          let x : get_or w₀ i 0 ≡ get_or w i 0 = cc in
          cc (take_next w₀ i 0 there, remove-append v (take i w₀) (get_or w₀ i 0 ∷ []))

      pub gathered-skip : get_or w i 0 ≡ v → Gathered v w₀ w e (i + 1)
      unfolding remove keep
      gathered-skip q =
          let s = same_word in
          let t = there in
          let c = g.close in
          record {
            size = g.size;
            here = omega arith;
            close = omega arith;
            front = sym (cc (removed-next, remove-here v [] (sym q), append-nil (take e w)));
            behind = cc;
          }

      pub gathered-keep : (get_or w i 0 ≡ v → ⊥) → Gathered v w₀ (set w e (get_or w i 0)) (e + 1) (i + 1)
      unfolding remove keep
      gathered-keep n =
          let s = same_word in
          let t = there in
          let c = g.close in
          let z = g.size in
          let r : drop (i + 1) w ≡ drop (i + 1) w₀ = cc in
          record {
            size = length-set w e _ ∙ z;
            here = omega arith;
            close = omega arith;
            front = cc (take_set_next w e (get_or w i 0) (omega arith), removed-next, remove-there v [] (λ q. n (sym q)));
            behind = drop-set-lt (i + 1) w e _ (omega arith) ∙ r;
          }

    pub gathered-done : length w ≤ i → (e ≡ length (remove v w₀)) × (take e w ≡ remove v w₀)
    gathered-done h =
        let z = g.size in
        let c = g.close in
        let b = g.here in
        let f : take e w ≡ remove v w₀ = cc (take_all i w₀ (omega arith)) in
        (cc (length-take-le e w (omega arith)), f)

-- Zeros behind what was gathered.
pub closed-put : (v : ℕ) (w₀ w z : List ℕ) (e : ℕ) → length w ≡ length w₀ → e ≡ length (remove v w₀) → take e w ≡ remove v w₀
    → z ≡ zeros (length (mid e (length w - e) w)) → put_mid e (length w - e) w z ≡ closed_up v w₀
unfolding closed_up
closed-put v w₀ w z e s n f q =
    let t = length-remove v w₀ in
    let k : length (mid e (length w - e) w) ≡ times v w₀ = length-mid e (length w - e) w (omega arith) ∙ omega arith in
    let b : length (drop e w) ≤ length w - e = simp length-drop (omega arith) in
    let d : drop (length w - e) (drop e w) ≡ [] = drop_of_length-le (drop e w) b in
    cc (append-nil z)

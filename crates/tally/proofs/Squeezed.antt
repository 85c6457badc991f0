-- Squeezing slots to bytes by way of their states: the first i entries are made of i others, the rest as they were; and what is then
-- counted. Assumes nothing.
use Prim.Native.Nat.{ℕ, zero, suc, ◌+◌, ◌≤◌, ◌<◌}
use mathlib.Core.Path.{◌≡◌, refl, sym, ap, ◌∙◌, subst}
use mathlib.Core.Bool.{cond}
use mathlib.Core.List.{List, [], ◌∷◌, ◌++◌, map, map-append, map-map, append-nil, append_assoc}
use native.Mathlib.Nat.{not-suc-le-zero, le_of_suc-le-suc}
use native.Mathlib.Numerals.{add-one}
use native.Mathlib.Omega.{arith}
use lib.Dec.{eqb}
use lib.ListN.{length, get_or, set, take, drop, replicate, length-append, length-drop, length-map}
use lib.Seq.{get_or-drop, length-take-le, take-length, drop-length, take_at, drop_at, take-add, drop-drop}
use borrow.Author.Tests.{ne_eqb}
use Rattle.lemmas.specs.Parts.{mid, put_mid}
use Rattle.lemmas.specs.Times.{times}
use Rattle.lemmas.specs.Zeros.{zeros}
use Rattle.lemmas.proofs.Cases.{by-lt}
use Rattle.lemmas.proofs.Times.{times-cons, times-append, times-zeros}
use Rattle.lemmas.proofs.Zeros.{get_or-zeros}
use Rattle.model.specs.Numbers.{most_group}
use Rattle.zone.specs.Encoding.{position_base}
use Rattle.zone.specs.Decoding.{state_in, owner_in}
use Rattle.zone.proofs.Decoded.{owner-live, owner-none}
use Rattle.tally.specs.Figures.{owner_byte, slot_byte}

module _ (f : ℕ → ℕ) where
  squeezed-suc : (s d : List ℕ) (n : ℕ) → n < length s → n < length d → set (map f (take n s) ++ drop n d) n (f (get_or s n 0)) ≡ map f (take (suc n) s) ++ drop (suc n) d
  squeezed-suc [] d n h k = absurd (not-suc-le-zero h)
  squeezed-suc (x ∷ s) [] n h k = absurd (not-suc-le-zero k)
  squeezed-suc (x ∷ s) (y ∷ d) zero h k = refl
  squeezed-suc (x ∷ s) (y ∷ d) (suc n) h k = ap (λ (t : List ℕ). f x ∷ t) (squeezed-suc s d n (le_of_suc-le-suc h) (le_of_suc-le-suc k))

  pub squeezed-more : (s d b : List ℕ) (n v : ℕ) → n < length s → n < length d → v ≡ f (get_or s n 0) → b ≡ map f (take n s) ++ drop n d
      → set b n v ≡ map f (take (n + 1) s) ++ drop (n + 1) d
  squeezed-more s d b n v h k q e =
      subst (λ i. set b n v ≡ map f (take i s) ++ drop i d) (sym (add-one n)) (cc (squeezed-suc s d n h k))

  -- .. and of i + k where those of k more are put in.
  pub squeezed-part : (s d b l : List ℕ) (i k e : ℕ) → i + k ≡ e → e ≤ length s → b ≡ map f (take i s) ++ drop i d → l ≡ map f (mid i k s)
      → put_mid i k b l ≡ map f (take e s) ++ drop e d
  squeezed-part s d b l i k e sum h eq part =
      let x : List ℕ = map f (take i s) in
      let n : length x ≡ i = length-map (take i s) f ∙ length-take-le i s (omega arith) in
      ap (λ p. p ++ (l ++ drop k (drop i b))) (ap (take i) eq ∙ take_at x _ i n)
      ∙ ap (λ q. x ++ (l ++ drop k q)) (ap (drop i) eq ∙ drop_at x _ i n)
      ∙ ap (λ q. x ++ (q ++ drop k (drop i d))) part
      ∙ sym (append_assoc x (map f (mid i k s)) (drop k (drop i d)))
      ∙ ap (λ q. q ++ drop k (drop i d)) (sym (map-append f (take i s) (mid i k s)) ∙ ap (map f) (sym (take-add i k s)))
      ∙ ap (λ q. map f (take (i + k) s) ++ q) (drop-drop k i d)
      ∙ ap (λ j. map f (take j s) ++ drop j d) sum

  pub squeezed-length : (s d b : List ℕ) (i : ℕ) → i ≤ length s → length s ≤ length d → b ≡ map f (take i s) ++ drop i d → length b ≡ length d
  squeezed-length s d b i h k e =
      ap length e ∙ omega (arith, length-append (map f (take i s)) (drop i d), length-map (take i s) f, length-take-le i s h, length-drop i d)

  pub squeezed-done : (s d b : List ℕ) (n : ℕ) → n ≡ length s → b ≡ map f (take n s) ++ drop n d → b ≡ map f s ++ drop (length s) d
  squeezed-done s d b n h e = e ∙ ap (λ i. map f (take i s) ++ drop i d) h ∙ ap (λ l. map f l ++ drop (length s) d) (take-length s)

-- ---- a piece: the states t of slots s, with zeros behind, and the bytes c of the first k of those in the place of b

pub piece-squeezed : (s t b c : List ℕ) (k m : ℕ) → k ≡ length s → length s ≡ length b → t ≡ map state_in s ++ drop (length s) (replicate m 0)
    → c ≡ map owner_byte (mid 0 k t) ++ drop (length (mid 0 k t)) b → c ≡ map slot_byte s
piece-squeezed s t b c k m all same states bytes =
    let n : length (map state_in s) ≡ length s = length-map s state_in in
    bytes
    ∙ ap (λ l. map owner_byte l ++ drop (length l) b) (ap (take k) states ∙ take_at (map state_in s) _ k (n ∙ sym all))
    ∙ ap (λ i. map owner_byte (map state_in s) ++ drop i b) (n ∙ same)
    ∙ ap (λ l. map owner_byte (map state_in s) ++ l) (drop-length b)
    ∙ append-nil _
    ∙ map-map owner_byte state_in s

-- ---- what is counted: zeros behind are no group's, nor are the bytes of chunks that are not live

behind : (g : ℕ) (l : List ℕ) (k n : ℕ) → 0 < g → times g (l ++ drop k (replicate n 0)) ≡ times g l
unfolding zeros
behind g l k n p = times-append g l _ ∙ (let z = times-zeros g (drop k (replicate n 0)) p (λ i. get_or-drop k (replicate n 0) i 0 ∙ get_or-zeros n (k + i)) in omega arith)

module _ (g : ℕ) (p : 0 < g) (q : g ≤ most_group) where
  one_byte : (x : ℕ) → eqb g (slot_byte x) ≡ eqb g (owner_in x)
  one_byte x =
      by-lt (state_in x) position_base
      (λ h. ap (eqb g) (let e : slot_byte x ≡ state_in x = omega arith in e ∙ sym (owner-live x h)))
      (λ h. ne_eqb g (slot_byte x) (omega arith) ∙ sym (ne_eqb g (owner_in x) (λ e. let z = e ∙ owner-none x h in omega arith)))

  all-bytes : (s : List ℕ) → times g (map slot_byte s) ≡ times g (map owner_in s)
  all-bytes [] = refl
  all-bytes (x ∷ s) =
      times-cons g (slot_byte x) _
      ∙ ap (λ b. cond b 1 0 + times g (map slot_byte s)) (one_byte x)
      ∙ ap (λ n. cond (eqb g (owner_in x)) 1 0 + n) (all-bytes s)
      ∙ sym (times-cons g (owner_in x) _)

  pub times-squeezed : (s b : List ℕ) (n : ℕ) → b ≡ map slot_byte s ++ drop (length s) (replicate n 0) → times g b ≡ times g (map owner_in s)
  times-squeezed s b n e = ap (times g) e ∙ behind g (map slot_byte s) (length s) n p ∙ all-bytes s

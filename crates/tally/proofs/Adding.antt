-- Laws of adding to the figures: one group's blocks, one addition after another, and how far the figures have come. Assumes nothing.
use Prim.Native.Nat.{ℕ, zero, suc, ◌+◌, ◌-◌, ◌*◌, ◌≤◌, ◌<◌}
use mathlib.Core.Path.{◌≡◌, refl, sym, ap, ◌∙◌}
use mathlib.Core.Bool.{cond}
use mathlib.Core.List.{List, [], map, map-append}
use native.Mathlib.Nat.{not-suc-le-zero, le_of_suc-le-suc, mul-le-mul_left, mul-le-mul_right}
use native.Mathlib.Omega.{arith}
use lib.Dec.{eqb, ltb}
use lib.ListN.{length, get_or, set, take, drop, length-set, length-map}
use borrow.Author.Tests.{eq-eqb, ne_eqb, lt-ltb, le-ltb}
use lib.Seq.{get_or-set_same, get_or-set_other, length-take-le, take-add, take_all, drop-drop}
use Rattle.std.specs.Simd.{first_chunks}
use Rattle.lemmas.proofs.Cases.{by-eq, by-lt, either}
use Rattle.lemmas.specs.Times.{times}
use Rattle.lemmas.proofs.Times.{times-nil, times-append, times-most}
use Rattle.model.specs.Numbers.{zone_bytes, large_size, most_group}
use Rattle.tally.specs.Figures.{stretch, arenas, Added, Within}

-- ---- how far the figures have come

pub within_more : {k : ℕ} (l : ℕ) {t : List ℕ} → k ≤ l → Within k t → Within l t
within_more l h w = record { long = w.long; blocks = λ i b. omega (arith, w.blocks i b); held = λ i b. omega (arith, w.held i b) }

module _ {n : ℕ → ℕ} {r : ℕ} {t u : List ℕ} (a : Added n r t u) where
  pub added-within : (k l m : ℕ) → Within k t → k + l ≤ m → ((i : ℕ) → i < most_group → (n (suc i) ≤ arenas l) × (n (suc i) * r ≤ arenas l)) → Within m u
  added-within k l m w e h = record {
    long = a.long;
    blocks = λ i b. let p = (h i b).0 in let q = a.blocks i b in let s = w.blocks i b in omega arith;
    held = λ i b. let p = (h i b).1 in let q = a.held i b in let s = w.held i b in omega arith;
  }

  -- ---- one addition after another

  pub added_then : {m : ℕ → ℕ} {v : List ℕ} (k : ℕ → ℕ) → Added m r u v → ((i : ℕ) → i < most_group → n (suc i) + m (suc i) ≡ k (suc i)) → Added k r t v
  added_then {m} {v} k b e = record {
    long = b.long;
    blocks = λ i l. let x = a.blocks i l in let y = b.blocks i l in let z = e i l in omega arith;
    held = λ i l.
        let x = a.held i l in
        let y = b.held i l in
        let z : k (suc i) * r ≡ n (suc i) * r + m (suc i) * r = ap (λ c. c * r) (sym (e i l)) ∙ spread (n (suc i)) (m (suc i)) in
        omega arith;
  }
    where
      spread : (x y : ℕ) → (x + y) * r ≡ x * r + y * r
      spread x y = omega arith

  pub added-as : (k : ℕ → ℕ) → ((i : ℕ) → i < most_group → n (suc i) ≡ k (suc i)) → Added k r t u
  added-as k e = record {
    long = a.long;
    blocks = λ i l. a.blocks i l ∙ ap (λ c. get_or t i 0 + c) (e i l);
    held = λ i l. a.held i l ∙ ap (λ c. get_or t (most_group + i) 0 + c * r) (e i l);
  }

pub added_none : (n : ℕ → ℕ) (r : ℕ) (t : List ℕ) → length t ≡ most_group + most_group → ((i : ℕ) → i < most_group → n (suc i) ≡ 0) → Added n r t t
added_none n r t long e = record {
  long = long;
  blocks = λ i l. let z = e i l in omega arith;
  held = λ i l. let z : n (suc i) * r ≡ 0 = ap (λ c. c * r) (e i l) ∙ omega arith in omega arith;
}

-- ---- one group's blocks, as the code stores them

-- The figure at i with so much more.
abbrev pub increased : ℕ → ℕ → List ℕ → List ℕ
increased i n t = set t i (get_or t i 0 + n)

at-increased : (i j n : ℕ) (t : List ℕ) → i < length t → j ≡ i → get_or (increased i n t) j 0 ≡ get_or t j 0 + n
at-increased i j n t h e = cc (get_or-set_same t i (get_or t i 0 + n) 0 h)

pub off-increased : (i j n : ℕ) (t : List ℕ) → (j ≡ i → ⊥) → get_or (increased i n t) j 0 ≡ get_or t j 0
off-increased i j n t e = get_or-set_other t i j _ 0 e

pub blocks-added : (g n r : ℕ) (t : List ℕ) → length t ≡ most_group + most_group → 0 < g → g ≤ most_group
    → Added (λ x. cond (eqb g x) n 0) r t (increased (most_group + (g - 1)) (n * r) (increased (g - 1) n t))
blocks-added g n r t long p q =
    record { long = simp length-set long; blocks = λ i l. of_blocks i l; held = λ i l. of-held i l }
  where
    of_blocks : (i : ℕ) → i < most_group → get_or (increased (most_group + (g - 1)) (n * r) (increased (g - 1) n t)) i 0 ≡ get_or t i 0 + cond (eqb g (suc i)) n 0
    of_blocks i l =
        off-increased (most_group + (g - 1)) i (n * r) (increased (g - 1) n t) (omega arith)
        ∙ by-eq g (suc i)
        (λ e. rw (eq-eqb g (suc i) e) (at-increased (g - 1) i n t (omega arith) (omega arith)))
        (λ e. rw (ne_eqb g (suc i) e) (off-increased (g - 1) i n t (omega arith) ∙ omega arith))

    of-held : (i : ℕ) → i < most_group → get_or (increased (most_group + (g - 1)) (n * r) (increased (g - 1) n t)) (most_group + i) 0 ≡ get_or t (most_group + i) 0 + cond (eqb g (suc i)) n 0 * r
    of-held i l =
        let s : get_or (increased (g - 1) n t) (most_group + i) 0 ≡ get_or t (most_group + i) 0 = off-increased (g - 1) (most_group + i) n t (omega arith) in
        let k : length (increased (g - 1) n t) ≡ length t = simp length-set in
        by-eq g (suc i)
        (λ e. rw (eq-eqb g (suc i) e) (at-increased (most_group + (g - 1)) (most_group + i) (n * r) (increased (g - 1) n t) (omega arith) (omega arith) ∙ ap (λ x. x + n * r) s))
        (λ e. rw (ne_eqb g (suc i) e) (off-increased (most_group + (g - 1)) (most_group + i) (n * r) (increased (g - 1) n t) (omega arith) ∙ s ∙ omega arith))

-- ---- group after group

-- Those of the groups below k alone.
abbrev pub up_to : ℕ → (ℕ → ℕ) → ℕ → ℕ
up_to k n g = cond (ltb g k) (n g) 0

pub up_none : (n : ℕ → ℕ) (r : ℕ) (t : List ℕ) → length t ≡ most_group + most_group → Added (up_to 1 n) r t t
up_none n r t long = added_none (up_to 1 n) r t long (λ i l. rw (le-ltb (suc i) 1 (omega arith)))

pub up_more : (n : ℕ → ℕ) (r k c : ℕ) (t u v : List ℕ) → c ≡ n k → Added (up_to k n) r t u → Added (λ x. cond (eqb k x) c 0) r u v → Added (up_to (k + 1) n) r t v
up_more n r k c t u v e a b = added_then a (up_to (k + 1) n) b step
  where
    step : (i : ℕ) → i < most_group → up_to k n (suc i) + cond (eqb k (suc i)) c 0 ≡ up_to (k + 1) n (suc i)
    step i l =
        by-eq k (suc i)
        (λ q. rw (eq-eqb k (suc i) q, le-ltb (suc i) k (omega arith), lt-ltb (suc i) (k + 1) (omega arith)) (omega (arith, e, ap n q)))
        (λ q. rw (ne_eqb k (suc i) q) (by-lt (suc i) k
        (λ h. rw (lt-ltb (suc i) k h, lt-ltb (suc i) (k + 1) (omega arith)) (omega arith))
        (λ h. rw (le-ltb (suc i) k h, le-ltb (suc i) (k + 1) (omega arith)))))

pub up-all : (n : ℕ → ℕ) (r k : ℕ) (t u : List ℕ) → most_group < k → Added (up_to k n) r t u → Added n r t u
up-all n r k t u h a = added-as a n (λ i l. rw (lt-ltb (suc i) k (omega arith)))

-- ---- a stretch of slots

pub count_most : (n r : ℕ) → n ≤ stretch → r ≤ large_size → n * r ≤ arenas 2
count_most n r h k = omega (arith, mul-le-mul_right r h)

-- The figures while the chunks in a stretch of at most `stretch` slots are added.
pub stretch-within : (k r : ℕ) (l t u : List ℕ) → length l ≤ stretch → r ≤ large_size → Within 2 t → Added (up_to k (λ g. times g l)) r t u → Within 4 u
stretch-within k r l t u h q w a =
    added-within a 2 2 4 w (omega arith)
    (λ i b. let c = few (suc i) in (omega arith, count_most _ r c q))
  where
    few : (g : ℕ) → up_to k (λ g. times g l) g ≤ stretch
    few g = either (λ c. c ≤ stretch) (ltb g k) (times g l) 0 (λ e. omega (arith, times-most g l)) (λ e. omega arith)

-- ---- stretch after stretch

-- The chunks in slots.
abbrev pub chunks_in : (ℕ → ℕ) → List ℕ → ℕ → ℕ
chunks_in f s g = times g (map f s)

module _ (f : ℕ → ℕ) (s : List ℕ) (r : ℕ) where
  pub slots-none : (t : List ℕ) → length t ≡ most_group + most_group → Added (chunks_in f (take 0 s)) r t t
  slots-none t long = added_none _ r t long (λ i l. times-nil (suc i))

  pub slots-more : (i k e : ℕ) (t u v : List ℕ) → i + k ≡ e → Added (chunks_in f (take i s)) r t u → Added (chunks_in f (take k (drop i s))) r u v → Added (chunks_in f (take e s)) r t v
  slots-more i k e t u v q a b = added_then a (chunks_in f (take e s)) b (λ j l. joined (suc j))
    where
      joined : (g : ℕ) → chunks_in f (take i s) g + chunks_in f (take k (drop i s)) g ≡ chunks_in f (take e s) g
      joined g =
          sym (times-append g (map f (take i s)) _)
          ∙ ap (times g) (sym (map-append f (take i s) _) ∙ ap (map f) (sym (take-add i k s) ∙ ap (λ n. take n s) q))

  pub slots-done : (i k : ℕ) (t u v : List ℕ) → length s ≤ i + k → Added (chunks_in f (take i s)) r t u → Added (chunks_in f (take k (drop i s))) r u v → Added (chunks_in f s) r t v
  slots-done i k t u v h a b =
      added-as (slots-more i k (i + k) t u v refl a b) (chunks_in f s) (λ j l. ap (λ x. times (suc j) (map f x)) (take_all (i + k) s h))

  -- The figures while the chunks of one zone are added.
  pub slots-within : (i : ℕ) (t u : List ℕ) → length s * r ≤ zone_bytes → 0 < r → i ≤ length s → Within 1 t → Added (chunks_in f (take i s)) r t u → Within 2 u
  slots-within i t u h p l w a =
      added-within a 1 1 2 w (omega arith)
      (λ j b.
      let n : ℕ = chunks_in f (take i s) (suc j) in
      let m : n ≤ length s = omega (arith, times-most (suc j) (map f (take i s)), length-map (take i s) f, length-take-le i s l) in
      (omega (arith, mul-le-mul_left (length s) p), omega (arith, mul-le-mul_right r m)))

-- ---- a list cut into parts of one length, and the rest

module _ (m : ℕ) where
  pub part_at : (n : ℕ) (s : List ℕ) (k : ℕ) → k < n → get_or (first_chunks m n s) k [] ≡ take m (drop (k * m) s)
  part_at zero s k h = absurd (not-suc-le-zero h)
  part_at (suc n) s zero h = let e : 0 ≡ 0 * m = omega arith in ap (λ j. take m (drop j s)) e
  part_at (suc n) s (suc k) h =
      let e : m + k * m ≡ suc k * m = omega arith in
      part_at n (drop m s) k (le_of_suc-le-suc h) ∙ ap (take m) (drop-drop (k * m) m s) ∙ ap (λ j. take m (drop j s)) e

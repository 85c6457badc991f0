-- Laws of a list in slots: read back, tested, counted, with a number more and a number less. Assumes nothing.
use Prim.Native.Nat.{ℕ, zero, suc, ◌≤◌, ◌<◌}
use mathlib.Core.Path.{◌≡◌, refl, sym, ap, ◌∙◌}
use mathlib.Core.Bool.{Bool, true, ◌&&◌}
use mathlib.Core.List.Memᴰ
use mathlib.Core.List.{List, [], ◌∷◌, ◌++◌, append_assoc, Memᴰ}
use native.Mathlib.Nat.{not-suc-le-zero, le_of_suc-le-suc}
use native.Mathlib.Omega.{arith}
use lib.Dec.{ltb, leb}
use lib.ListN.{length}
use borrow.Author.Tests.{ltb-true, leb-true, lt-ltb, le-ltb, le-leb, lt-leb}
use Rattle.lemmas.specs.Every.{count}
use Rattle.lemmas.specs.Keep.{keep}
use Rattle.lemmas.specs.Times.{times, remove}
use Rattle.lemmas.specs.Zeros.{zeros}
use Rattle.lemmas.proofs.Cases.{by-ltb, by-leb, and_left, and_right, by-eq}
use Rattle.lemmas.proofs.Zeros.{every-zeros, zeros-every}
use Rattle.lemmas.proofs.Times.{times-here, times-there}
use Rattle.lemmas.proofs.Distinct.{remove-here, remove-there, length-remove}
use Rattle.header.specs.Keys.{class_in, put_at}
use Rattle.header.specs.Slots.{slots, entries_in, legal_slots, holds, pushed, shifted_in, closed_up}
use Rattle.header.proofs.Keys.{Below, below-cons, Rising}

-- ---- reading back

pub length-slots : (m : ℕ) (l : List ℕ) → length (slots m l) ≡ m
unfolding slots
length-slots zero l = refl
length-slots (suc m) [] = ap suc (length-slots m [])
length-slots (suc m) (q ∷ l) = ap suc (length-slots m l)

pub entries-slots : (m : ℕ) (l : List ℕ) → length l ≤ m → entries_in (slots m l) ≡ l
unfolding slots entries_in
entries-slots zero [] h = refl
entries-slots zero (q ∷ l) h = absurd (not-suc-le-zero h)
entries-slots (suc m) [] h = refl
entries-slots (suc m) (q ∷ l) h = cc (entries-slots m l (le_of_suc-le-suc h))

pub slots-none : (m : ℕ) → slots m [] ≡ zeros m
unfolding slots zeros
slots-none zero = refl
slots-none (suc m) = cc (slots-none m)

-- ---- the test

-- What legal slots hold: a list that they are the slots of.
pub record Legal (limit c : ℕ) (w : List ℕ) : Type 0 where
  pub again : w ≡ slots (length w) (entries_in w)
  pub short : length (entries_in w) ≤ length w
  pub rising : Rising c (entries_in w)
  pub below : (q : ℕ) → Memᴰ q (entries_in w) → q < limit

pub legal-of : (limit c : ℕ) (w : List ℕ) → legal_slots limit c w ≡ true → Legal limit c w
unfolding legal_slots slots entries_in
legal-of limit c [] e = record { again = refl; short = omega arith; rising = tt; below = λ q m. absurd (Memᴰ.not-nil m) }
legal-of limit c (zero ∷ w) e =
    record {
      again = cc (zeros-every w e, slots-none (length w));
      short = omega arith;
      rising = tt;
      below = λ q m. absurd (Memᴰ.not-nil m);
    }
legal-of limit c (suc x ∷ w) e =
    let rest = legal_slots limit (class_in x) w in
    let f = and_left _ rest e in
    let ih = legal-of limit (class_in x) w (and_right (ltb x limit && leb c (class_in x)) rest e) in
    let low = ltb-true x limit (and_left _ _ f) in
    let s = ih.short in
    record {
      again = cc;
      short = omega arith;
      rising = (leb-true c (class_in x) (and_right (ltb x limit) _ f), ih.rising);
      below = below-cons _ low ih.below;
    }

pub slots-legal : (limit c m : ℕ) (l : List ℕ) → length l ≤ m → Rising c l → Below limit l → legal_slots limit c (slots m l) ≡ true
unfolding legal_slots slots
slots-legal limit c zero l h r g = refl
slots-legal limit c (suc m) [] h r g = cc (slots-none m, every-zeros m)
slots-legal limit c (suc m) (q ∷ l) h r g =
    rw (lt-ltb q limit (g q (Memᴰ.head refl)), le-leb c (class_in q) r.0)
    (slots-legal limit (class_in q) m l (le_of_suc-le-suc h) r.1 (λ x k. g x (Memᴰ.tail k)))

-- ---- counting

-- A number from `low` on, below `high`.
abbrev pub between : ℕ → ℕ → ℕ → Bool
between low high q = leb low q && ltb q high

holds-suc : (low high q : ℕ) → holds low high (suc q) ≡ between low high q
holds-suc low high q =
    by-leb (λ t. (ltb low (suc q) && leb (suc q) high) ≡ (t && ltb q high)) low q
    (λ l. rw (lt-ltb low (suc q) (omega arith)) (by-ltb (λ t. leb (suc q) high ≡ t) q high (λ k. le-leb (suc q) high k) (λ k. lt-leb (suc q) high (omega arith))))
    (λ l. rw (le-ltb low (suc q) (omega arith)))

pub count-slots : (low high m : ℕ) (l : List ℕ) → length l ≤ m → count (holds low high) (slots m l) ≡ count (between low high) l
unfolding slots count
count-slots low high zero [] h = refl
count-slots low high zero (q ∷ l) h = absurd (not-suc-le-zero h)
count-slots low high (suc m) [] h = rw (le-ltb low 0 (omega arith)) (let a = count-slots low high m [] (omega arith) in omega arith)
count-slots low high (suc m) (q ∷ l) h =
    rw (holds-suc low high q) (cc (count-slots low high m l (le_of_suc-le-suc h)))

-- ---- a number more

pushed_none : (m : ℕ) → pushed 0 (slots m []) ≡ slots m []
unfolding pushed slots
pushed_none zero = refl
pushed_none (suc m) = cc (pushed_none m)

pushed-slots : (m q : ℕ) (l : List ℕ) → pushed (suc q) (slots m l) ≡ slots m (q ∷ l)
unfolding pushed slots
pushed-slots zero q l = refl
pushed-slots (suc m) q [] = cc (pushed_none m)
pushed-slots (suc m) q (x ∷ l) = cc (pushed-slots m x l)

pub shifted-slots : (k m q : ℕ) (l : List ℕ) → k ≤ length l → shifted_in k (suc q) (slots m l) ≡ slots m (put_at k q l)
unfolding slots pushed
shifted-slots zero m q l h = pushed-slots m q l
shifted-slots (suc k) m q [] h = absurd (not-suc-le-zero h)
shifted-slots (suc k) zero q (x ∷ l) h = refl
shifted-slots (suc k) (suc m) q (x ∷ l) h = cc (shifted-slots k m q l (le_of_suc-le-suc h))

-- ---- a number less

closed-nil : (v : ℕ) → closed_up v [] ≡ []
unfolding closed_up remove keep times count zeros
closed-nil v = refl

zeros-snoc : (n : ℕ) → zeros (suc n) ≡ zeros n ++ (0 ∷ [])
unfolding zeros
zeros-snoc zero = refl
zeros-snoc (suc n) = cc (zeros-snoc n)

closed-here : (v : ℕ) {x : ℕ} (w : List ℕ) → v ≡ x → closed_up v (x ∷ w) ≡ closed_up v w ++ (0 ∷ [])
unfolding closed_up
closed-here v w e =
    rw (remove-here v w e, times-here v w e, zeros-snoc (times v w)) (sym (append_assoc (remove v w) _ (0 ∷ [])))

closed-there : (v : ℕ) {x : ℕ} (w : List ℕ) → (v ≡ x → ⊥) → closed_up v (x ∷ w) ≡ x ∷ closed_up v w
unfolding closed_up
closed-there v w n = rw (remove-there v w n, times-there v w n)

slots-snoc : (m : ℕ) (l : List ℕ) → length l ≤ m → slots m l ++ (0 ∷ []) ≡ slots (suc m) l
unfolding slots
slots-snoc zero [] h = refl
slots-snoc zero (x ∷ l) h = absurd (not-suc-le-zero h)
slots-snoc (suc m) [] h = cc (slots-snoc m [] (omega arith))
slots-snoc (suc m) (x ∷ l) h = cc (slots-snoc m l (le_of_suc-le-suc h))

remove-nil : (q : ℕ) → remove q [] ≡ []
unfolding remove keep
remove-nil q = refl

pub closed-slots : (q m : ℕ) (l : List ℕ) → length l ≤ m → closed_up (suc q) (slots m l) ≡ slots m (remove q l)
unfolding slots
closed-slots q zero [] h = closed-nil (suc q)
closed-slots q zero (x ∷ l) h = absurd (not-suc-le-zero h)
closed-slots q (suc m) [] h =
    closed-there (suc q) _ (omega arith)
    ∙ ap (λ t. 0 ∷ t) (cc (closed-slots q m [] (omega arith), remove-nil q))
    ∙ ap (slots (suc m)) (sym (remove-nil q))
closed-slots q (suc m) (x ∷ l) h =
    by-eq q x
    (λ e.
    closed-here (suc q) (slots m l) (ap suc e)
    ∙ ap (λ t. t ++ (0 ∷ [])) (closed-slots q m l (le_of_suc-le-suc h))
    ∙ slots-snoc m _ (let a = length-remove q l in omega arith)
    ∙ ap (slots (suc m)) (sym (remove-here q l e)))
    (λ n.
    closed-there (suc q) (slots m l) (λ e. n (omega arith))
    ∙ ap (λ t. suc x ∷ t) (closed-slots q m l (le_of_suc-le-suc h))
    ∙ ap (slots (suc m)) (sym (remove-there q l n)))

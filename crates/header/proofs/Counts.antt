-- What the keys in a range are, counted: a class's list, one zone, the classes below one. Assumes nothing.
use Prim.Native.Nat.{ℕ, ◌+◌, ◌<◌}
use mathlib.Core.Path.{◌≡◌, refl, sym, ap, ◌∙◌}
use mathlib.Core.Bool.{Bool, false, ◌&&◌}
use mathlib.Core.List.{List, [], ◌∷◌, map}
use native.Mathlib.Omega.{arith}
use lib.Dec.{eqb, ltb, leb}
use lib.ListN.{length, get_or, length-map}
use borrow.Author.Tests.{eq-eqb, ne_eqb, lt-ltb, le-ltb, le-leb}
use Rattle.lemmas.specs.Every.{count}
use Rattle.lemmas.specs.Keep.{keep}
use Rattle.lemmas.specs.Times.{times}
use Rattle.lemmas.proofs.Cases.{by_eqb, by-ltb, by-leb, and_both}
use Rattle.lemmas.proofs.Every.{every-of-members, count-all}
use Rattle.lemmas.proofs.Keep.{length-keep}
use Rattle.lemmas.proofs.Times.{times-append, times-absent}
use Rattle.model.specs.Numbers.{most_pages}
use Rattle.header.specs.Keys.{key, class_in, page_in, keys_of, of_class, below_class, list_in, place_of}
use Rattle.header.proofs.Keys.{Below, Pages, class-list, keys_before, keys_behind, keys-parts, before-below, behind-above}
use Rattle.header.proofs.Entries.{between}

-- Two tests that agree count the same.
count_same : (p q : ℕ → Bool) (l : List ℕ) → ((x : ℕ) → p x ≡ q x) → count p l ≡ count q l
unfolding count
count_same p q [] h = refl
count_same p q (x ∷ l) h = cc (h x, count_same p q l h)

-- ---- ranges

-- All of a list are below a bound.
pub count-every : (high : ℕ) (l : List ℕ) → Below high l → count (between 0 high) l ≡ length l
count-every high l h =
    count-all _ l
    (every-of-members _ l (λ q m. and_both (leb 0 q) _ (le-leb 0 q (omega arith)) (lt-ltb q high (h q m))))

between-one : (v q : ℕ) → between v (v + 1) q ≡ eqb v q
between-one v q =
    by-leb (λ t. (t && ltb q (v + 1)) ≡ eqb v q) v q
    (λ l. by-ltb (λ t. t ≡ eqb v q) q (v + 1) (λ k. sym (eq-eqb v q (omega arith))) (λ k. sym (ne_eqb v q (omega arith))))
    (λ l. sym (ne_eqb v q (omega arith)))

-- One number.
pub count-one : (v : ℕ) (l : List ℕ) → count (between v (v + 1)) l ≡ times v l
unfolding times
count-one v l = count_same _ (λ x. eqb v x) l (between-one v)

between-class : (c q : ℕ) → between (key c 0) (key c most_pages) q ≡ of_class c q
between-class c q =
    by_eqb (λ t. between (key c 0) (key c most_pages) q ≡ t) (class_in q) c
    (λ e. and_both _ _ (le-leb (key c 0) q (omega arith)) (lt-ltb q _ (omega arith)))
    (λ n.
    by-leb (λ t. (t && ltb q (key c most_pages)) ≡ false) (key c 0) q
    (λ l. le-ltb q _ (omega arith)) (λ l. refl))

between-below : (c q : ℕ) → between 0 (key c 0) q ≡ below_class c q
between-below c q =
    rw (le-leb 0 q (omega arith))
    (by-ltb (λ t. t ≡ below_class c q) q (key c 0) (λ l. sym (lt-ltb (class_in q) c (omega arith))) (λ l. sym (le-ltb (class_in q) c (omega arith))))

-- ---- the keys of the class lists

-- Where the keys of class c begin.
pub count-place : (c : ℕ) (ls : List (List ℕ)) → count (between 0 (key c 0)) (keys_of ls) ≡ place_of c (keys_of ls)
count-place c ls = count_same _ _ (keys_of ls) (between-below c)

module _ (c : ℕ) (ls : List (List ℕ)) (there : c < length ls) (pages : Pages ls) where
  pub count-class : count (between (key c 0) (key c most_pages)) (keys_of ls) ≡ length (get_or ls c [])
  unfolding list_in
  count-class =
      count_same _ (of_class c) (keys_of ls) (between-class c)
      ∙ sym (length-keep (of_class c) (keys_of ls))
      ∙ sym (length-map (keep (of_class c) (keys_of ls)) page_in)
      ∙ ap length (class-list c ls pages there)

  times-keys : (p : ℕ) (l : List ℕ) → times (key c p) (map (key c) l) ≡ times p l
  unfolding times count
  times-keys p [] = refl
  times-keys p (x ∷ l) =
      cc (same_key x, times-keys p l)
    where
      same_key : (x : ℕ) → eqb (key c p) (key c x) ≡ eqb p x
      same_key x = by_eqb (λ t. eqb (key c p) (key c x) ≡ t) p x (λ e. eq-eqb (key c p) (key c x) (omega arith)) (λ n. ne_eqb (key c p) (key c x) (λ e. n (omega arith)))

  -- How often a zone stands on its class's list.
  pub times-class : (p : ℕ) → p < most_pages → times (key c p) (keys_of ls) ≡ times p (get_or ls c [])
  times-class p h =
      let l : List ℕ = map (key c) (get_or ls c []) in
      ap (times (key c p)) (keys-parts c ls there)
      ∙ times-append (key c p) (keys_before c ls) _
      ∙ (let a = times-absent (key c p) _ (λ m. let x = before-below c ls there pages m in omega arith) in
      let b = times-append (key c p) l (keys_behind c ls) in
      let d = times-absent (key c p) _ (λ m. let x = behind-above c ls there m in omega arith) in
      let e = times-keys p (get_or ls c []) in
      omega arith)

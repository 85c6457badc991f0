-- The entries of all lists, and what it means that they are the open zones, each once. Assumes nothing.
use Prim.Native.Nat.{ℕ, zero, suc, ◌+◌}
use mathlib.Core.Path.{◌≡◌, refl, sym, ap, ◌∙◌}
use mathlib.Core.Logic.{◌⊎◌, inl, inr}
use mathlib.Core.List.Memᴰ
use mathlib.Core.List.{List, [], ◌∷◌, ◌++◌, map, Memᴰ}
use native.Mathlib.Omega.{arith}
use lib.ListN.{length, get_or, length-append, length-map}
use Rattle.lemmas.specs.Times.{Distinct}
use Rattle.lemmas.proofs.Distinct.{distinct_append, distinct-left, distinct-right, distinct_apart}
use Rattle.header.specs.Keys.{key, keys_from, keys_of}

-- The entries of these lists, one list behind another.
pub entries : List (List ℕ) → List ℕ
entries [] = []
entries (l ∷ ls) = l ++ entries ls

keys-entries : (c : ℕ) (ls : List (List ℕ)) → length (keys_from c ls) ≡ length (entries ls)
unfolding keys_from entries
keys-entries c [] = refl
keys-entries c (l ∷ ls) = length-append (map (key c) l) _ ∙ (λ i. length-map l (key c) i + keys-entries (suc c) ls i) ∙ sym (length-append l _)

pub length-entries : (ls : List (List ℕ)) → length (keys_of ls) ≡ length (entries ls)
unfolding keys_of
length-entries ls = keys-entries 0 ls

-- An entry stands on some list; what stands on a list is an entry.
pub on_list : (ls : List (List ℕ)) (p : ℕ) → Memᴰ p (entries ls) → (c : ℕ) × Memᴰ p (get_or ls c [])
unfolding entries
on_list [] p i = absurd (Memᴰ.not-nil i)
on_list (l ∷ ls) p i = go (Memᴰ.append_cases l i) (on_list ls p)
  where
    go : Memᴰ p l ⊎ Memᴰ p (entries ls) → (Memᴰ p (entries ls) → (c : ℕ) × Memᴰ p (get_or ls c [])) → (c : ℕ) × Memᴰ p (get_or (l ∷ ls) c [])
    go (inl a) k = (0, a)
    go (inr a) k = (suc (k a).0, (k a).1)

pub list_on : (ls : List (List ℕ)) (c p : ℕ) → Memᴰ p (get_or ls c []) → Memᴰ p (entries ls)
unfolding entries
list_on [] c p i = absurd (Memᴰ.not-nil i)
list_on (l ∷ ls) zero p i = Memᴰ.append_left _ i
list_on (l ∷ ls) (suc c) p i = Memᴰ.append_right l (list_on ls c p i)

-- Lists that hold no entry twice, alone and with each other.
pub record Single (ls : List (List ℕ)) : Type 0 where
  pub once : (c : ℕ) → Distinct (get_or ls c [])
  pub apart : (c k p : ℕ) → (c ≡ k → ⊥) → Memᴰ p (get_or ls c []) → Memᴰ p (get_or ls k []) → ⊥

pub single-entries : (ls : List (List ℕ)) → Single ls → Distinct (entries ls)
unfolding entries
single-entries [] s = tt
single-entries (l ∷ ls) s = distinct_append l _ (s.once 0)
    (single-entries ls (record { once = λ c. s.once (suc c); apart = λ c k p ne i j. s.apart (suc c) (suc k) p (λ e. ne (omega arith)) i j }))
    (λ p i j. let f = on_list ls p j in s.apart 0 (suc f.0) p (omega arith) i f.1)

pub entries-single : (ls : List (List ℕ)) → Distinct (entries ls) → Single ls
unfolding entries
entries-single [] d = record { once = λ c. tt; apart = λ c k p ne i j. Memᴰ.not-nil i }
entries-single (l ∷ ls) d = both (entries-single ls (distinct-right l _ d))
  where
    both : Single ls → Single (l ∷ ls)
    both rest = record { once = once; apart = apart }
      where
        once : (c : ℕ) → Distinct (get_or (l ∷ ls) c [])
        once zero = distinct-left l _ d
        once (suc c) = rest.once c

        apart : (c k p : ℕ) → (c ≡ k → ⊥) → Memᴰ p (get_or (l ∷ ls) c []) → Memᴰ p (get_or (l ∷ ls) k []) → ⊥
        apart zero zero p ne i j = ne refl
        apart zero (suc k) p ne i j = distinct_apart l _ d i (list_on ls k p j)
        apart (suc c) zero p ne i j = distinct_apart l _ d j (list_on ls c p i)
        apart (suc c) (suc k) p ne i j = rest.apart c k p (λ e. ne (ap suc e)) i j

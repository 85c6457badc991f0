-- Laws of the keys of the class lists: their classes, what each class's list is, and the keys after a list has changed.
-- Assumes nothing.
use Prim.Native.Nat.{ℕ, zero, suc, ◌+◌, ◌≤◌, ◌<◌}
use mathlib.Core.Path.{◌≡◌, refl, sym, ap, ◌∙◌, subst}
use mathlib.Core.Bool.{Bool, not}
use mathlib.Core.Logic.{⊎_elim}
use mathlib.Core.List.Memᴰ
use mathlib.Core.List.{List, [], ◌∷◌, ◌++◌, map, map-append, append_assoc, append-nil, Memᴰ}
use native.Mathlib.Nat.{zero-add, not-suc-le-zero, le_of_suc-le-suc}
use native.Mathlib.Omega.{arith}
use lib.Dec.{leb}
use lib.ListN.{length, get_or, set, take, drop, get_or-eq_default}
use lib.Seq.{set-get_or, take_all, take_at, drop_at}
use borrow.Author.Tests.{eq-eqb, ne_eqb, eqb-true, lt-ltb, le-ltb, le-leb, lt-leb}
use Rattle.lemmas.specs.Every.{count}
use Rattle.lemmas.specs.Keep.{keep}
use Rattle.lemmas.specs.ListFrom.{list_from}
use Rattle.lemmas.specs.Times.{remove}
use Rattle.lemmas.proofs.Cases.{by-eq, by-lt}
use Rattle.lemmas.proofs.Every.{every-of-members, count-append, count-all, count_none}
use Rattle.lemmas.proofs.Keep.{keep_append, keep-in, keep_all, keep-none}
use Rattle.lemmas.proofs.ListFrom.{is-list_from, length-list_from, get_or-list_from}
use Rattle.lemmas.proofs.Distinct.{remove-here, remove-there, remove-append, remove_absent}
use Rattle.model.specs.Numbers.{class_count, most_pages}
use Rattle.header.specs.Keys.{key, class_in, page_in, keys_from, keys_of, of_class, below_class, list_in, lists_of, put_at, place_of, key_limit}

-- Every number of a list is below n.
abbrev pub Below : ℕ → List ℕ → Type 0
Below n l = (q : ℕ) → Memᴰ q l → q < n

pub below-cons : {n x : ℕ} (l : List ℕ) → x < n → Below n l → Below n (x ∷ l)
below-cons l h g q (Memᴰ.head e) = omega arith
below-cons l h g q (Memᴰ.tail m) = g q m

-- ---- one key

pub key-class : (c p : ℕ) → p < most_pages → class_in (key c p) ≡ c
key-class c p h = omega arith

pub key-page : (c p : ℕ) → p < most_pages → page_in (key c p) ≡ p
key-page c p h = omega arith

-- ---- the classes of keys

-- Every page of these lists is below 256.
abbrev pub Pages : List (List ℕ) → Type 0
Pages ls = (c p : ℕ) → Memᴰ p (get_or ls c []) → p < most_pages

-- A key of the class lists from c on is of one of these classes.
pub keys-least : (c : ℕ) (ls : List (List ℕ)) {q : ℕ} → Memᴰ q (keys_from c ls) → c ≤ class_in q
unfolding keys_from
keys-least c [] m = absurd (Memᴰ.not-nil m)
keys-least c (l ∷ ls) {q} m =
    ⊎_elim (λ k. let r = Memᴰ.of_map (key c) l k in let e : key c r.0 ≡ q = r.2 in omega arith)
    (λ k. let a = keys-least (suc c) ls k in omega arith) (Memᴰ.append_cases _ m)

pub keys-most : (c i : ℕ) (ls : List (List ℕ)) → Pages ls → {q : ℕ} → Memᴰ q (keys_from c (take i ls)) → class_in q < c + i
unfolding keys_from
keys-most c zero ls h m = absurd (Memᴰ.not-nil m)
keys-most c (suc i) [] h m = absurd (Memᴰ.not-nil m)
keys-most c (suc i) (l ∷ ls) h {q} m =
    ⊎_elim (λ k. let r = Memᴰ.of_map (key c) l k in let e : key c r.0 ≡ q = r.2 in let b = h 0 r.0 r.1 in omega arith)
    (λ k. let a = keys-most (suc c) i ls (λ j. h (suc j)) k in omega arith) (Memᴰ.append_cases _ m)

-- Classes that never fall, the first not below c.
abbrev pub Rising : ℕ → List ℕ → Type 0
Rising c [] = Unit {0}
Rising c (q ∷ l) = (c ≤ class_in q) × Rising (class_in q) l

pub rising-from : {b c : ℕ} (l : List ℕ) → b ≤ c → Rising c l → Rising b l
rising-from [] h r = tt
rising-from (q ∷ l) h r = let a = r.0 in (omega arith, r.1)

pub rising-least : {c : ℕ} (l : List ℕ) → Rising c l → {q : ℕ} → Memᴰ q l → c ≤ class_in q
rising-least {c = c} (x ∷ l) r {q} (Memᴰ.head e) = let a = r.0 in omega arith
rising-least {c = c} (x ∷ l) r {q = q} (Memᴰ.tail m) = let a = r.0 in let b = rising-least {c = class_in x} l r.1 m in omega arith
rising-least {c = c} [] r {q = q} x'' = elim x'' [ ]

rising-own : {b c : ℕ} (l ks : List ℕ) → b ≤ c → Below most_pages l → Rising c ks → Rising b (map (key c) l ++ ks)
rising-own [] ks h g r = rising-from ks h r
rising-own {b} {c} (p ∷ l) ks h g r =
    let e = key-class c p (g p (Memᴰ.head refl)) in
    (omega arith, rising-own {b = class_in (key c p)} {c = c} l ks (omega arith) (λ x m. g x (Memᴰ.tail m)) r)

rising-keys : (c : ℕ) (ls : List (List ℕ)) → Pages ls → Rising c (keys_from c ls)
unfolding keys_from
rising-keys c [] h = tt
rising-keys c (l ∷ ls) h =
    rising-own l _ (omega arith) (h 0) (rising-from (keys_from (suc c) ls) (omega arith) (rising-keys (suc c) ls (λ j. h (suc j))))

pub keys-rising : (ls : List (List ℕ)) → Pages ls → Rising 0 (keys_of ls)
unfolding keys_of
keys-rising ls h = rising-keys 0 ls h

pub keys_below : (ls : List (List ℕ)) → length ls ≡ class_count → Pages ls → (q : ℕ) → Memᴰ q (keys_of ls) → q < key_limit
unfolding keys_of
keys_below ls e h q m =
    let a = keys-most 0 class_count ls h (subst (λ t. Memᴰ q (keys_from 0 t)) (sym (take_all class_count ls (omega arith))) m) in
    omega arith

-- Pages by themselves are keys of class 0.
pub rising-pages : (l : List ℕ) → Below most_pages l → Rising 0 l
rising-pages [] h = tt
rising-pages (p ∷ l) h =
    let a = h p (Memᴰ.head refl) in
    (omega arith, rising-from l (omega arith) (rising-pages l (λ x m. h x (Memᴰ.tail m))))

-- ---- a class's list, in terms of the keys

list-append : (c : ℕ) (a b : List ℕ) → list_in c (a ++ b) ≡ list_in c a ++ list_in c b
unfolding list_in
list-append c a b = ap (map page_in) (keep_append (of_class c) a b) ∙ map-append page_in (keep (of_class c) a) _

-- No key is of the class.
list-none : (c : ℕ) (ks : List ℕ) → ((q : ℕ) → Memᴰ q ks → class_in q ≡ c → ⊥) → list_in c ks ≡ []
unfolding list_in
list-none c ks h =
    ap (map page_in) (keep-none (of_class c) ks (every-of-members (λ q. not (of_class c q)) ks (λ q m. rw (ne_eqb (class_in q) c (h q m)))))

list-own : (c : ℕ) (l : List ℕ) → Below most_pages l → list_in c (map (key c) l) ≡ l
unfolding list_in keep
list-own c [] h = refl
list-own c (p ∷ l) h =
    let b = h p (Memᴰ.head refl) in
    rw (eq-eqb _ c (key-class c p b), key-page c p b) (cc (list-own c l (λ x m. h x (Memᴰ.tail m))))

list-from : (c i : ℕ) (ls : List (List ℕ)) → Pages ls → i < length ls → list_in (c + i) (keys_from c ls) ≡ get_or ls i []
unfolding keys_from
list-from c i [] h k = absurd (not-suc-le-zero k)
list-from c zero (l ∷ ls) h k =
    ap (λ n. list_in n (map (key c) l ++ keys_from (suc c) ls)) (let e : c + 0 ≡ c = omega arith in e)
    ∙ list-append c _ _
    ∙ ap (λ t. t ++ list_in c (keys_from (suc c) ls)) (list-own c l (h 0))
    ∙ ap (λ t. l ++ t) (list-none c _ (λ q m e. let a = keys-least (suc c) ls m in omega arith))
    ∙ append-nil l
list-from c (suc i) (l ∷ ls) h k =
    list-append (c + suc i) _ _
    ∙ ap (λ t. t ++ list_in (c + suc i) (keys_from (suc c) ls)) (list-none (c + suc i) _ other)
    ∙ ap (λ n. list_in n (keys_from (suc c) ls)) (let e : c + suc i ≡ suc c + i = omega arith in e)
    ∙ list-from (suc c) i ls (λ j. h (suc j)) (le_of_suc-le-suc k)
  where
    other : (q : ℕ) → Memᴰ q (map (key c) l) → class_in q ≡ c + suc i → ⊥
    other q m e =
        let r = Memᴰ.of_map (key c) l m in
        let b = h 0 r.0 r.1 in
        let a : key c r.0 ≡ q = r.2 in
        omega arith

-- What the list of class c is.
pub class-list : (c : ℕ) (ls : List (List ℕ)) → Pages ls → c < length ls → list_in c (keys_of ls) ≡ get_or ls c []
unfolding keys_of
class-list c ls h k = ap (λ n. list_in n (keys_from 0 ls)) (let e : c ≡ 0 + c = omega arith in e) ∙ list-from 0 c ls h k

-- The lists of their keys.
pub lists-keys : (ls : List (List ℕ)) → length ls ≡ class_count → Pages ls → lists_of (keys_of ls) ≡ ls
unfolding lists_of keys_of
lists-keys ls e h = sym (is-list_from (λ c. list_in c (keys_from 0 ls)) 0 class_count ls [] e (λ i k. sym (list-from 0 i ls h (omega arith))))

-- ---- the keys of the lists of keys

-- A key of class c or of a later one.
from_class : ℕ → ℕ → Bool
from_class c q = leb c (class_in q)

from-split : (b c : ℕ) (ks : List ℕ) → Rising b ks → keep (from_class c) ks ≡ keep (of_class c) ks ++ keep (from_class (suc c)) ks
unfolding keep from_class
from-split b c [] h = refl
from-split b c (q ∷ ks) h =
    let ih = from-split (class_in q) c ks h.1 in
    by-eq (class_in q) c
    (λ e.
    rw (le-leb c (class_in q) (omega arith), eq-eqb (class_in q) c e, lt-leb (suc c) (class_in q) (omega arith))
    (cc))
    (λ n.
    by-lt (class_in q) c
    (λ l. rw (lt-leb c (class_in q) l, ne_eqb (class_in q) c n, lt-leb (suc c) (class_in q) (omega arith)) ih)
    (λ l.
    let none : keep (of_class c) ks ≡ [] = none_after l n in
    rw (le-leb c (class_in q) l, ne_eqb (class_in q) c n, le-leb (suc c) (class_in q) (omega arith), none)
    (cc)))
  where
    none_after : c ≤ class_in q → (class_in q ≡ c → ⊥) → keep (of_class c) ks ≡ []
    none_after l n =
        keep-none (of_class c) ks
        (every-of-members (λ x. not (of_class c x)) ks
        (λ x m. let a = rising-least ks h.1 m in rw (ne_eqb (class_in x) c (λ e. n (omega arith)))))

keys-own : (c : ℕ) (l : List ℕ) → ((q : ℕ) → Memᴰ q l → class_in q ≡ c) → map (key c) (map page_in l) ≡ l
keys-own c [] h = refl
keys-own c (q ∷ l) h =
    let e : key c (page_in q) ≡ q = let a = h q (Memᴰ.head refl) in omega arith in
    rw e (cc (keys-own c l (λ x m. h x (Memᴰ.tail m))))

keys-class-list : (c : ℕ) (ks : List ℕ) → map (key c) (list_in c ks) ≡ keep (of_class c) ks
unfolding list_in
keys-class-list c ks = keys-own c _ (λ q m. eqb-true (class_in q) c (keep-in (of_class c) ks m).0)

keys_from_lem : (b n c : ℕ) (ks : List ℕ) → Rising b ks → ((q : ℕ) → Memᴰ q ks → class_in q < c + n)
    → keys_from c (list_from (λ d. list_in d ks) c n) ≡ keep (from_class c) ks
unfolding keys_from list_from from_class
keys_from_lem b zero c ks r h =
    sym
    (keep-none _ ks (every-of-members (λ q. not (from_class c q)) ks (λ q m. rw (lt-leb c (class_in q) (let a = h q m in omega arith)))))
keys_from_lem b (suc n) c ks r h =
    cc (keys-class-list c ks, keys_from_lem b n (suc c) ks r (λ q m. let a = h q m in omega arith), from-split b c ks r)

-- Keys whose classes never fall are the keys of their lists.
pub keys-lists : (ks : List ℕ) → Rising 0 ks → Below key_limit ks → keys_of (lists_of ks) ≡ ks
unfolding keys_of lists_of from_class
keys-lists ks r h =
    keys_from_lem 0 class_count 0 ks r (λ q m. let a = h q m in omega arith)
    ∙ keep_all _ ks (every-of-members _ ks (λ q m. le-leb 0 (class_in q) (omega arith)))

-- Whatever the keys, there are 64 lists, and their pages are below 256.
pub length-lists : (ks : List ℕ) → length (lists_of ks) ≡ class_count
unfolding lists_of
length-lists ks = length-list_from (λ c. list_in c ks) 0 class_count

pub lists-pages : (ks : List ℕ) → Pages (lists_of ks)
unfolding lists_of list_in
lists-pages ks c p m =
    by-lt c class_count
    (λ l.
    let r = Memᴰ.of_map page_in (keep (of_class c) ks) (subst (Memᴰ p) (cc (get_or-list_from (λ c. list_in c ks) 0 class_count c [] l, zero-add c)) m) in
    let e : page_in r.0 ≡ p = r.2 in omega arith)
    (λ l. absurd (Memᴰ.not-nil (subst (Memᴰ p) (get_or-eq_default (lists_of ks) [] (omega (arith, length-lists ks))) m)))

-- ---- the keys after the list of one class has changed

-- The keys of the classes before c and behind it.
abbrev pub keys_before : ℕ → List (List ℕ) → List ℕ
keys_before c ls = keys_from 0 (take c ls)

abbrev pub keys_behind : ℕ → List (List ℕ) → List ℕ
keys_behind c ls = keys_from (suc c) (drop (suc c) ls)

set-from : (c i k : ℕ) (ls : List (List ℕ)) (l : List ℕ) → c + i ≡ k → i < length ls
    → keys_from c (set ls i l) ≡ keys_from c (take i ls) ++ (map (key k) l ++ keys_from (suc k) (drop (suc i) ls))
unfolding keys_from
set-from c i k [] l e h = absurd (not-suc-le-zero h)
set-from c zero k (x ∷ ls) l e h = ap (λ n. map (key n) l ++ keys_from (suc n) ls) (let q : c ≡ k = omega arith in q)
set-from c (suc i) k (x ∷ ls) l e h =
    ap (λ t. map (key c) x ++ t) (set-from (suc c) i k ls l (omega arith) (le_of_suc-le-suc h))
    ∙ sym (append_assoc (map (key c) x) _ _)

remove-keys : (c p : ℕ) (l : List ℕ) → remove (key c p) (map (key c) l) ≡ map (key c) (remove p l)
unfolding remove keep
remove-keys c p [] = refl
remove-keys c p (x ∷ l) =
    by-eq p x
    (λ e. cc (remove-here (key c p) (map (key c) l) (ap (key c) e), remove-keys c p l, remove-here p l e))
    (λ n.
    remove-there (key c p) (map (key c) l) (λ e. n (omega arith))
    ∙ ap (λ t. key c x ∷ t) (remove-keys c p l)
    ∙ ap (map (key c)) (sym (remove-there p l n)))

module _ (c : ℕ) (ls : List (List ℕ)) (there : c < length ls) where
  pub keys-set : (l : List ℕ) → keys_of (set ls c l) ≡ keys_before c ls ++ (map (key c) l ++ keys_behind c ls)
  unfolding keys_of
  keys-set l = set-from 0 c c ls l (omega arith) there

  pub keys-parts : keys_of ls ≡ keys_before c ls ++ (map (key c) (get_or ls c []) ++ keys_behind c ls)
  keys-parts = cc (set-get_or ls c [], keys-set (get_or ls c []))

  pub behind-above : {q : ℕ} → Memᴰ q (keys_behind c ls) → c < class_in q
  behind-above m = keys-least (suc c) _ m

  module _ (pages : Pages ls) where
    pub before-below : {q : ℕ} → Memᴰ q (keys_before c ls) → class_in q < c
    before-below m = let a = keys-most 0 c ls pages m in omega arith

    -- The class's keys begin behind those of the classes before it.
    pub place_is : place_of c (keys_of ls) ≡ length (keys_before c ls)
    place_is =
        ap (count (below_class c)) keys-parts
        ∙ count-append _ (keys_before c ls) _
        ∙ (let a = count-all _ _ (every-of-members _ _ (λ q m. lt-ltb (class_in q) c (before-below m))) in
        let b =
        count_none (below_class c) _
        (every-of-members (λ q. not (below_class c q)) _ (λ q m. rw (le-ltb (class_in q) c (rest m)))) in
        omega arith)
      where
        rest : {q : ℕ} → Memᴰ q (map (key c) (get_or ls c []) ++ keys_behind c ls) → c ≤ class_in q
        rest {q} m =
            ⊎_elim (λ k. let r = Memᴰ.of_map (key c) (get_or ls c []) k in let e : key c r.0 ≡ q = r.2 in omega arith)
            (λ k. let a = behind-above k in omega arith) (Memᴰ.append_cases _ m)

    -- A page more at the front of the class's list: its key in front of those of the class.
    pub keys_push : (p : ℕ) → keys_of (set ls c (p ∷ get_or ls c [])) ≡ put_at (place_of c (keys_of ls)) (key c p) (keys_of ls)
    keys_push p =
        let b : List ℕ = keys_before c ls in
        let r : List ℕ = map (key c) (get_or ls c []) ++ keys_behind c ls in
        cc (keys-set (p ∷ get_or ls c []), place_is, keys-parts, take_at b r (length b) refl, drop_at b r (length b) refl)

    -- A page less on the class's list: its key less.
    pub keys-remove : (p : ℕ) → p < most_pages → keys_of (set ls c (remove p (get_or ls c []))) ≡ remove (key c p) (keys_of ls)
    keys-remove p h =
        let b : List ℕ = keys_before c ls in
        let l : List ℕ = map (key c) (get_or ls c []) in
        let a : List ℕ = keys_behind c ls in
        keys-set _
        ∙ sym
        (ap (remove (key c p)) keys-parts
        ∙ remove-append (key c p) b (l ++ a)
        ∙ ap (λ t. t ++ remove (key c p) (l ++ a)) (remove_absent (key c p) b (λ m. let x = before-below m in omega arith))
        ∙ ap (λ t. b ++ t)
        (cc (remove-append (key c p) l a, remove_absent (key c p) a (λ m. let x = behind-above m in omega arith), remove-keys c p (get_or ls c []))))

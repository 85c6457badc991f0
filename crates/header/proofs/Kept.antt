-- What a header can hold, it can still hold after each step; so a step leaves a header (`encodes-header`). Assumes nothing.
use Prim.Native.Nat.{ℕ, ◌+◌, ◌≤◌, ◌<◌}
use mathlib.Core.Path.{◌≡◌, ap}
use mathlib.Core.Bool.{cond}
use mathlib.Core.List.Memᴰ
use mathlib.Core.List.{List, [], ◌∷◌, ◌++◌, map, Memᴰ}
use native.Mathlib.Omega.{arith}
use lib.ListN.{length, get_or, set, drop, length-append, length-map, length-set, length-drop}
use Rattle.lemmas.specs.Times.{remove}
use Rattle.lemmas.proofs.Cases.{by_eqb}
use Rattle.lemmas.proofs.Distinct.{remove-in, length-remove}
use Rattle.lemmas.proofs.Sets.{get_d_set}
use Rattle.model.specs.Numbers.{class_count, most_pages}
use Rattle.header.specs.Keys.{key, keys_of}
use Rattle.header.specs.Encoding.{Fits, spare_slots, list_slots}
use Rattle.header.proofs.Keys.{Below, keys_before, keys_behind, keys-set, keys-parts}

-- ---- how many keys there are once a class has another list

pub length-keys-set : (c : ℕ) (ls : List (List ℕ)) (l : List ℕ) → c < length ls → length (keys_of (set ls c l)) + length (get_or ls c []) ≡ length (keys_of ls) + length l
length-keys-set c ls l h =
    let own : List ℕ = map (key c) (get_or ls c []) in
    omega (
      arith,
      ap length (keys-set c ls h l),
      ap length (keys-parts c ls h),
      length-append (keys_before c ls) (map (key c) l ++ keys_behind c ls),
      length-append (map (key c) l) (keys_behind c ls),
      length-append (keys_before c ls) (own ++ keys_behind c ls),
      length-append own (keys_behind c ls),
      length-map l (key c),
      length-map (get_or ls c []) (key c),
    )

module _ {n : ℕ} {spare : List ℕ} {lists : List (List ℕ)} (h : Fits n spare lists) where
  -- ---- the class lists

  pub fits-set : (c : ℕ) (l : List ℕ) → c < class_count → Below most_pages l → length (keys_of (set lists c l)) ≤ list_slots → Fits n spare (set lists c l)
  fits-set c l b g r =
      record {
        least = h.least;
        most = h.most;
        few = h.few;
        classes = cc (length-set lists c l);
        room = r;
        spare-pages = h.spare-pages;
        list-pages = λ d p m. by_eqb (λ t. (Memᴰ p (cond t l (get_or lists d [])) → p < most_pages)) d c (λ e. g p) (λ e. h.list-pages d p)
            (rw (get_d_set lists c d l [] (let a = h.classes in omega arith)) at m);
      }

  pub fits-remove : (c p : ℕ) → c < class_count → Fits n spare (set lists c (remove p (get_or lists c [])))
  fits-remove c p b =
      fits-set c _ b (λ q m. h.list-pages c q (remove-in p _ m).1)
      (let a = h.classes in
      let r = h.room in
      let k = length-remove p (get_or lists c []) in
      let e = length-keys-set c lists (remove p (get_or lists c [])) (omega arith) in
      omega arith)

  -- ---- the empty list

  pub fits-spare : (l : List ℕ) → length l ≤ spare_slots → Below most_pages l → Fits n l lists
  fits-spare l k g =
      record {
        least = h.least;
        most = h.most;
        few = k;
        classes = h.classes;
        room = h.room;
        spare-pages = g;
        list-pages = h.list-pages;
      }

  pub fits-spare-clear : Fits n [] lists
  fits-spare-clear = fits-spare [] (omega arith) (λ p m. absurd (Memᴰ.not-nil m))

  pub fits-spare-pop : Fits n (drop 1 spare) lists
  fits-spare-pop = fits-spare _ (let a = h.few in simp length-drop (omega arith)) (behind spare h.spare-pages)
    where
      behind : (l : List ℕ) → Below most_pages l → Below most_pages (drop 1 l)
      behind [] g q m = g q m
      behind (x ∷ l) g q m = g q (Memᴰ.tail m)

-- The class lists as one list of keys. A key holds a zone's class and its start page; the lists stand one after another in
-- class order, each front first. So the keys tell every class's list (`lists-keys`). Assumes nothing.
use Rattle.std.specs.Prelude.{ℕ, suc, ◌+◌, ◌*◌, ◌/◌, ◌%◌, Bool, List, [], ◌∷◌, ◌++◌, map, eqb, ltb, take, drop}
use Rattle.lemmas.specs.Every.{count}
use Rattle.lemmas.specs.Keep.{keep}
use Rattle.lemmas.specs.ListFrom.{list_from}
use Rattle.model.specs.Numbers.{most_pages, class_count}

-- Every key of a class is below.
abbrev pub key_limit : ℕ
key_limit = most_pages * class_count

-- The key of the zone of class c that starts at page p.
abbrev pub key : ℕ → ℕ → ℕ
key c p = most_pages * c + p

-- The class and the page in a key.
abbrev pub class_in : ℕ → ℕ
class_in q = q / most_pages

abbrev pub page_in : ℕ → ℕ
page_in q = q % most_pages

-- The keys of these lists, the first of which is that of class c.
unfoldable pub keys_from : ℕ → List (List ℕ) → List ℕ
keys_from c [] = []
keys_from c (l ∷ ls) = map (key c) l ++ keys_from (suc c) ls

-- The keys of all class lists.
unfoldable pub keys_of : List (List ℕ) → List ℕ
keys_of ls = keys_from 0 ls

-- Whether a key is of class c, or of a class below it.
abbrev pub of_class : ℕ → ℕ → Bool
of_class c q = eqb (class_in q) c

abbrev pub below_class : ℕ → ℕ → Bool
below_class c q = ltb (class_in q) c

-- The list of class c, of any keys.
unfoldable pub list_in : ℕ → List ℕ → List ℕ
list_in c ks = map page_in (keep (of_class c) ks)

-- One list for each class, of any keys.
unfoldable pub lists_of : List ℕ → List (List ℕ)
lists_of ks = list_from (λ c. list_in c ks) 0 class_count

-- A list with q at index k.
abbrev pub put_at : ℕ → ℕ → List ℕ → List ℕ
put_at k q l = take k l ++ q ∷ drop k l

-- Where the keys of class c begin: behind those of the classes below it.
abbrev pub place_of : ℕ → List ℕ → ℕ
place_of c ks = count (below_class c) ks

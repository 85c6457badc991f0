-- The lists as trim changes them, one idle zone after another in ascending page order; in a valid state they end as the model's rule
-- says. Assumes nothing.
use Prim.Native.Nat.{ℕ, ◌+◌, ◌-◌, ◌*◌, ◌≤◌, ◌<◌}
use mathlib.Core.Path.{◌≡◌, refl, sym, ap, ◌∙◌, subst}
use mathlib.Core.Bool.{Bool, true, false, cond, not, ◌&&◌}
use mathlib.Core.List.{List, [], ◌∷◌, map, Memᴰ}
use native.Mathlib.Omega.{arith}
use lib.Dec.{ltb, eqb}
use lib.ListN.{length, get_or, set, length-set, length-map, get_or-map}
use lib.Seq.{ext_get_or, get_or-set_same, get_or-set_other}
use borrow.Author.Tests.{ltb-false, eq-eqb, ne_eqb, eqb-true, eqb-false}
use Rattle.lemmas.specs.Keep.{keep}
use Rattle.lemmas.specs.Times.{remove}
use Rattle.lemmas.proofs.Cases.{bool, and_both, cond_same, some_inj, none-some}
use Rattle.lemmas.proofs.Every.{every-of-members}
use Rattle.lemmas.proofs.Keep.{keep_all, keep-keep, keep_same}
use Rattle.model.specs.Numbers.{zone_pages, page_bytes}
use Rattle.model.specs.Arena.{Segment, run, direct, zone, pages, bytes, locate}
use Rattle.model.specs.Zone.{Zone}
use Rattle.model.specs.State.{State, list_of, ZoneAt, zone_at}
use Rattle.model.specs.PageMap.{idle_zone}
use Rattle.model.specs.Valid.{Valid}
use Rattle.model.specs.Trim.{busy}

-- The lists once the segment at page p was met; once those from page p on were.
abbrev pub swept_by : ℕ → Segment Zone → List (List ℕ) → List (List ℕ)
swept_by p (run n) ls = ls
swept_by p (direct n g) ls = ls
swept_by p (zone z) ls = cond (idle_zone z) (set ls z.class (remove p (get_or ls z.class []))) ls

abbrev pub swept_lists : ℕ → List (Segment Zone) → List (List ℕ) → List (List ℕ)
swept_lists p [] ls = ls
swept_lists p (x ∷ r) ls = swept_lists (p + pages x) r (swept_by p x ls)

-- A test that all pass.
keep-any : (f : ℕ → Bool) (l : List ℕ) → ((x : ℕ) → f x ≡ true) → l ≡ keep f l
keep-any f l h = sym (keep_all f l (every-of-members f l (λ x _. h x)))

-- ---- what stays on a class's list

-- Whether page q stays on the list of class c when the segment at page p is met; when those from page p on are.
abbrev stays_by : ℕ → ℕ → Segment Zone → ℕ → Bool
stays_by c p (run n) q = true
stays_by c p (direct n g) q = true
stays_by c p (zone z) q = cond (idle_zone z) (cond (eqb c z.class) (not (eqb p q)) true) true

abbrev stays : ℕ → ℕ → List (Segment Zone) → ℕ → Bool
stays c p [] q = true
stays c p (x ∷ r) q = stays_by c p x q && stays c (p + pages x) r q

length-by : (p : ℕ) (x : Segment Zone) (ls : List (List ℕ)) → length (swept_by p x ls) ≡ length ls
length-by p (run n) ls = refl
length-by p (direct n g) ls = refl
length-by p (zone z) ls = bool (idle_zone z) (λ t. rw t (length-set ls z.class _)) (λ t. rw t)

length-swept : (p : ℕ) (m : List (Segment Zone)) (ls : List (List ℕ)) → length (swept_lists p m ls) ≡ length ls
length-swept p [] ls = refl
length-swept p (x ∷ r) ls = length-swept (p + pages x) r (swept_by p x ls) ∙ length-by p x ls

remove-is : (p : ℕ) (l : List ℕ) → remove p l ≡ keep (λ q. not (eqb p q)) l
unfolding remove
remove-is p l = refl

list-by : (c p : ℕ) (x : Segment Zone) (ls : List (List ℕ)) → c < length ls → get_or (swept_by p x ls) c [] ≡ keep (stays_by c p x) (get_or ls c [])
list-by c p (run n) ls h = keep-any (λ _. true) _ (λ _. refl)
list-by c p (direct n g) ls h = keep-any (λ _. true) _ (λ _. refl)
list-by c p (zone z) ls h = go (idle_zone z) _ (eqb-true c z.class) (eqb-false c z.class)
  where
    same : c ≡ z.class → get_or (set ls z.class (remove p (get_or ls z.class []))) c [] ≡ remove p (get_or ls c [])
    same e = subst (λ k. get_or (set ls k (remove p (get_or ls k []))) c [] ≡ remove p (get_or ls c [])) e (get_or-set_same ls c _ [] h)

    go : (i k : Bool) → (k ≡ true → c ≡ z.class) → (k ≡ false → c ≡ z.class → ⊥)
        → get_or (cond i (set ls z.class (remove p (get_or ls z.class []))) ls) c [] ≡ keep (λ q. cond i (cond k (not (eqb p q)) true) true) (get_or ls c [])
    go true true e n = same (e refl) ∙ remove-is p _
    go true false e n = get_or-set_other ls z.class c _ [] (n refl) ∙ keep-any (λ _. true) _ (λ _. refl)
    go false k e n = keep-any (λ _. true) _ (λ _. refl)

list-swept : (c p : ℕ) (m : List (Segment Zone)) (ls : List (List ℕ)) → c < length ls → get_or (swept_lists p m ls) c [] ≡ keep (stays c p m) (get_or ls c [])
list-swept c p [] ls h = keep-any (λ _. true) _ (λ _. refl)
list-swept c p (x ∷ r) ls h =
    list-swept c (p + pages x) r (swept_by p x ls) (omega (arith, length-by p x ls))
    ∙ ap (λ l. keep (stays c (p + pages x) r) l) (list-by c p x ls h)
    ∙ keep-keep _ _ _

-- ---- against the zone that stands at a page

-- A page at which no zone is met stays; so does one in front of all segments.
by-past : (c p q : ℕ) (x : Segment Zone) → (pages x ≡ zone_pages → p ≡ q → ⊥) → stays_by c p x q ≡ true
by-past c p q (run n) h = refl
by-past c p q (direct n g) h = refl
by-past c p q (zone z) h = rw (ne_eqb p q (h refl)) (rw (cond_same _ true) (cond_same (idle_zone z) true))

stays-past : (c p q : ℕ) (m : List (Segment Zone)) → q < p → stays c p m q ≡ true
stays-past c p q [] h = refl
stays-past c p q (x ∷ r) h = and_both _ _ (by-past c p q x (omega arith)) (stays-past c (p + pages x) q r (omega arith))

-- A page at which a zone of the class begins stays just if the zone is not idle.
stays-zone : (c p q : ℕ) (m : List (Segment Zone)) (z : Zone) → ZoneAt m q z → z.class ≡ c → stays c p m (p + q) ≡ not (idle_zone z)
stays-zone c p q [] z b e = none-some b
stays-zone c p q (x ∷ r) z b e = bool (ltb (q * page_bytes) (bytes x))
    (λ t. let k = some_inj (rw t at b) in here (omega (arith, ap (λ a. a.away) k)) (ap (λ a. a.segment) k))
    (λ t.
    let a = ltb-false (q * page_bytes) (bytes x) t in
    there a (stays-zone c (p + pages x) (q - pages x) r z (ap (λ o. locate o r) (let u : (q - pages x) * page_bytes ≡ q * page_bytes - bytes x = omega arith in u) ∙ (rw t at b)) e))
  where
    here : q ≡ 0 → x ≡ zone z → stays c p (x ∷ r) (p + q) ≡ not (idle_zone z)
    here a k = rw k (rw (eq-eqb c z.class (sym e), eq-eqb p (p + q) (omega arith), stays-past c (p + zone_pages) (p + q) r (omega arith)) (go (idle_zone z)))
      where
        go : (i : Bool) → (cond i false true && true) ≡ not i
        go true = refl
        go false = refl

    there : bytes x ≤ q * page_bytes → stays c (p + pages x) r (p + pages x + (q - pages x)) ≡ not (idle_zone z) → stays c p (x ∷ r) (p + q) ≡ not (idle_zone z)
    there a k =
        ap (λ t. t && stays c (p + pages x) r (p + q)) (by-past c p (p + q) x (omega arith))
        ∙ ap (stays c _ r) (let u : p + q ≡ p + pages x + (q - pages x) = omega arith in u)
        ∙ k

-- The lists of a valid state.
pub lists-swept : (s : State) → Valid s → swept_lists 0 s.segments s.lists ≡ map (busy s.segments) s.lists
unfolding keep
lists-swept s v =
    ext_get_or [] _ _ (length-swept 0 s.segments s.lists ∙ sym (length-map s.lists _))
    (λ c h.
    list-swept c 0 s.segments s.lists (omega (arith, length-swept 0 s.segments s.lists))
    ∙ keep_same _ (λ q. not (idle_zone (zone_at q s.segments))) _ (λ q i. same c q i)
    ∙ sym (get_or-map _ s.lists c []))
  where
    same : (c q : ℕ) → Memᴰ q (list_of s c) → stays c 0 s.segments q ≡ not (idle_zone (zone_at q s.segments))
    same c q i =
        let o = v.listed c q i in
        ap (stays c 0 s.segments) (let u : q ≡ 0 + q = omega arith in u) ∙ stays-zone c 0 q s.segments o.0 o.1 o.2 ∙ sym (cc)

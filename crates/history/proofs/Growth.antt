-- How a ledger came from an earlier one: new entries before a part of the old ones. If no entry is new and all old ones are still
-- there, nothing changed. Assumes nothing.
use Prim.Native.Nat.{ℕ, ◌≤◌, ◌<◌}
use mathlib.Core.Path.{◌≡◌, refl, sym, ◌∙◌, ap, subst}
use mathlib.Core.Logic.{◌⊎◌, inl, inr}
use mathlib.Core.List.{List, [], ◌∷◌, ◌++◌, map, Memᴰ}
use mathlib.Core.Bool.{Bool, true, ◌&&◌}
use native.Mathlib.Omega.{arith}
use Rattle.lemmas.specs.Keep.{keep}
use Rattle.lemmas.proofs.Keep.{keep_append, keep-in, keep-keep}
use Rattle.history.specs.Ledger.{Held}
use Rattle.history.proofs.Ledger.{Entry, told, kept, keep-told, Change, more, fewer, equal}

-- l came from M by calls whose numbers are t or later.
pub record Grew (t : ℕ) (M l : List Entry) : Type 0 where
  pub new : List Entry
  pub part : Held → Bool
  pub is : l ≡ new ++ kept part M
  pub late : (e : Entry) → Memᴰ e new → t ≤ e.serial

kept-all : (f : Held → Bool) (l : List Entry) → ((h : Held) → Memᴰ h (map told l) → f h ≡ true) → kept f l ≡ l
unfolding keep
kept-all f [] h = refl
kept-all f (e ∷ r) h = rw (h (told e) (mathlib.Core.List.Memᴰ.head refl)) (cc (kept-all f r (λ x i. h x (mathlib.Core.List.Memᴰ.tail i))))

-- Nothing has happened yet.
pub grew_none : (t : ℕ) (M : List Entry) → Grew t M M
grew_none t M = record { new = []; part = λ _. true; is = sym (kept-all (λ _. true) M (λ h i. refl)); late = λ e i. absurd (mathlib.Core.List.Memᴰ.not-nil i) }

-- One call more.
pub grew-more : (t n : ℕ) (M l l' : List Entry) → t ≤ n → Grew t M l → Change n l l' → Grew t M l'
grew-more t n M l l' h g (more e s q) = record {
  new = e ∷ g.new;
  part = g.part;
  is = cc;
  late = λ x i. go x (mathlib.Core.List.Memᴰ.cases_cons i);
}
  where
    go : (x : Entry) → (x ≡ e) ⊎ Memᴰ x g.new → t ≤ x.serial
    go x (inl p) = omega (arith, ap (λ k. k.serial) p)
    go x (inr p) = g.late x p
grew-more t n M l l' h g (fewer f q) = record {
  new = kept f g.new;
  part = λ x. g.part x && f x;
  is = cc (keep_append (λ e. f (told e)) g.new (kept g.part M), keep-keep (λ e. g.part (told e)) (λ e. f (told e)) M);
  late = λ x i. g.late x (keep-in (λ e. f (told e)) g.new i).1;
}
grew-more t n M l l' h g (equal q) = record { new = g.new; part = g.part; is = q ∙ g.is; late = g.late }

-- If what is there is all early, and all that was there still is, nothing changed.
pub grew_same : (t : ℕ) (M l : List Entry) → Grew t M l → ((h : Held) → Memᴰ h (map told l) → h.serial < t) → ((h : Held) → Memᴰ h (map told M) → Memᴰ h (map told l)) → l ≡ M
grew_same t M l g early all = go g.new refl
  where
    go : (a : List Entry) → g.new ≡ a → l ≡ M
    go [] e =
        let is : l ≡ kept g.part M = cc in
        is ∙ kept-all g.part M (λ h i. (keep-in g.part (map told M) (subst (Memᴰ h) (cc (keep-told g.part M)) (all h i))).0)
    go (x ∷ a) e = absurd (
        let here : Memᴰ x g.new = rw e (mathlib.Core.List.Memᴰ.head refl) in
        let there : Memᴰ x l = subst (Memᴰ x) (sym g.is) (mathlib.Core.List.Memᴰ.append_left _ here) in
        omega (arith, g.late x here, early (told x) (mathlib.Core.List.Memᴰ.map told there)))

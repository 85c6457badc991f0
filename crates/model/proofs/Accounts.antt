-- Every call keeps the account valid, and a refused call leaves everything as it was. Assumes nothing.
use Prim.Native.Nat.{ℕ, suc, ◌+◌, ◌≤◌, ◌<◌}
use mathlib.Core.Path.{◌≡◌, refl, sym, ◌∙◌, ap}
use mathlib.Core.Option.{Option, none, some}
use mathlib.Core.Bool.{true, ◌&&◌}
use native.Mathlib.Omega.{arith}
use lib.Dec.{leb}
use lib.ListN.{length, get_or, length-replicate, get_or-replicate}
use lib.Seq.{ext_get_or}
use borrow.Author.Tests.{leb-true}
use Rattle.lemmas.proofs.ListFrom.{length-list_from, get_or-list_from}
use Rattle.lemmas.proofs.Cases.{bool, true-false, and_left, and_right}
use Rattle.model.specs.Numbers.{most_group, most_bytes, most_pages}
use Rattle.model.specs.Arena.{total}
use Rattle.model.specs.State.{State}
use Rattle.model.specs.Holdings.{Account, raised, accounted, fresh_account}
use Rattle.model.specs.Valid.{Valid, ValidAccount}
use Rattle.model.specs.Calls.{Action, group, trim, query, listing, holdings, ceiling, Command, init, act, is_refused, group_ok}
use Rattle.model.specs.Perform.{serve, Metadata, all_words, initialise, on_account, perform}
use Rattle.model.proofs.Held.{held-most}
use Rattle.model.proofs.Ceilings.{setting-valid, setting-leaves}
use Rattle.model.proofs.Totals.{serve-total}
use Rattle.model.proofs.Validity.{fresh-valid, serve-valid, Leaves, guarded, state-leaves}

-- A group's greatest figure in the next account.
pub greatest-next : (a : Account) (s : State) (i : ℕ) → i < most_group → get_or (accounted a s).greatest i 0 ≡ raised a s i
greatest-next a s i h = get_or-list_from (raised a s) 0 most_group i 0 h ∙ ap (raised a s) (let e : 0 + i ≡ i = omega arith in e)

-- The next account of a valid one is valid, if the state that it is to have is, and has as many pages.
pub accounted-valid : (a : Account) → ValidAccount a → (s : State) → Valid s → total s.segments ≡ total a.state.segments → ValidAccount (accounted a s)
accounted-valid a v s u e = record {
  state = u;
  groups = length-list_from (raised a s) 0 most_group;
  least = λ i h. let n = greatest-next a s i h in omega arith;
  most = λ i h. let n = greatest-next a s i h in let o = v.most i h in let m = held-most (suc i) s.segments u.sound in omega arith;
  limits = v.limits;
  ceiling = v.ceiling;
}

-- Where the state stays, so does the account.
pub accounted-same : (a : Account) → ValidAccount a → accounted a a.state ≡ a
accounted-same a v = λ i. record { state = a.state; greatest = same i; ceilings = a.ceilings }
  where
    long : length (accounted a a.state).greatest ≡ most_group
    long = length-list_from (raised a a.state) 0 most_group

    same : (accounted a a.state).greatest ≡ a.greatest
    same = ext_get_or 0 (accounted a a.state).greatest a.greatest (long ∙ sym v.groups) (λ i h.
        let b : i < most_group = omega (arith, long) in
        omega (arith, greatest-next a a.state i b, v.least i b))

pub fresh-account : (n : ℕ) → 0 < n → n ≤ most_pages → ValidAccount (fresh_account n)
fresh-account n least most = record {
  state = fresh-valid n least most;
  groups = length-replicate {A = ℕ} most_group 0;
  least = λ i h. omega arith;
  most = λ i h. omega (arith, get_or-replicate {A = ℕ} most_group i 0 0 h);
  limits = length-replicate {A = ℕ} most_group most_bytes;
  ceiling = λ i h. omega (arith, get_or-replicate {A = ℕ} most_group i most_bytes 0 h);
}

module _ (a : Account) (v : ValidAccount a) where
  -- A call on the state alone: the state that it leaves is valid, and has as many pages.
  state-served : (c : Action) → ValidAccount (accounted a (serve a c).after.state)
  state-served c = accounted-valid a v _ (serve-valid a v.state c) (serve-total a v.state c)

  pub serve-account : (c : Action) → ValidAccount (serve a c).after
  serve-account (group c) = state-served (group c)
  serve-account trim = state-served trim
  serve-account (query o) = state-served (query o)
  serve-account (listing n) = state-served (listing n)
  serve-account (holdings n) = state-served (holdings n)
  serve-account (ceiling g c) = setting-valid g c a v

  -- The greatest figures that it leaves.
  raises : (i : ℕ) → i < most_group → get_or a.greatest i 0 ≡ raised a a.state i
  raises i h = omega (arith, v.least i h)

  pub greatest-served : (c : Action) (i : ℕ) → i < most_group → get_or (serve a c).after.greatest i 0 ≡ raised a (serve a c).after.state i
  greatest-served (group c) = greatest-next a (serve a (group c)).after.state
  greatest-served trim = greatest-next a (serve a trim).after.state
  greatest-served (query o) = greatest-next a (serve a (query o)).after.state
  greatest-served (listing n) = greatest-next a (serve a (listing n)).after.state
  greatest-served (holdings n) = greatest-next a (serve a (holdings n)).after.state
  greatest-served (ceiling g c) = bool (group_ok g) (λ t. bool (leb c most_bytes) (λ u. rw (t, u) raises) (λ u. rw (t, u) raises)) (λ t. rw t raises)

-- A call on lent words: whatever they held before, an account that they hold after is valid if the account before was.
abbrev pub Holds : Option Account → Type 0
Holds none = Unit {0}
Holds (some a) = ValidAccount a

init-valid : (m : Metadata) (n : ℕ) → Holds m.account → Holds (initialise m n).after.account
init-valid m n h = bool (leb 1 n && leb n most_pages)
    (λ t. rw t (bool (leb (all_words n) m.words) (λ u. rw u (fresh-account n (leb-true 1 n (and_left (leb 1 n) _ t)) (leb-true n most_pages (and_right (leb 1 n) _ t)))) (λ u. rw u h)))
    (λ t. rw t h)

pub perform-valid : (m : Metadata) (c : Command) → Holds m.account → Holds (perform m c).after.account
perform-valid m (init n) h = init-valid m n h
perform-valid m (act a) h = go m.account refl h
  where
    go : (x : Option Account) → m.account ≡ x → Holds x → Holds (on_account m a x).after.account
    go none e k = rw e k
    go (some b) e k = serve-account b k a

-- A refused call leaves the account; so the lent words' number and account.
module _ (a : Account) (v : ValidAccount a) where
  state-same : (c : Action) → is_refused (serve a c).answer ≡ true → accounted a (serve a c).after.state ≡ a
  state-same c t = ap (accounted a) (state-leaves a v.state c t) ∙ accounted-same a v

  pub serve-same : (c : Action) → is_refused (serve a c).answer ≡ true → (serve a c).after ≡ a
  serve-same (group c) = state-same (group c)
  serve-same trim = state-same trim
  serve-same (query o) = state-same (query o)
  serve-same (listing n) = state-same (listing n)
  serve-same (holdings n) = state-same (holdings n)
  serve-same (ceiling g c) = setting-leaves g c a

pub perform-leaves : (m : Metadata) (c : Command) → Holds m.account → is_refused (perform m c).answer ≡ true → (perform m c).after ≡ m
perform-leaves m (init n) h = guarded (leb 1 n && leb n most_pages) _ m _ (guarded (leb (all_words n) m.words) _ m _ (λ t. true-false t refl))
perform-leaves m (act a) h = go m.account refl h
  where
    go : (x : Option Account) → m.account ≡ x → Holds x → Leaves m (on_account m a x)
    go none e k = λ _. refl
    go (some b) e k = λ t. λ i. record { words = m.words; account = (ap some (serve-same b k a t) ∙ sym e) i }

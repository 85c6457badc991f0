-- The ledger of a list of calls agrees with the live blocks of the states that the calls leave: one call after another. Assumes
-- nothing.
use Prim.Native.Nat.{ℕ}
use mathlib.Core.Path.{◌≡◌, refl, sym, ◌∙◌, ap}
use mathlib.Core.Logic.{◌⊎◌, inl, inr}
use mathlib.Core.List.Memᴰ
use mathlib.Core.List.{List, [], ◌∷◌, map, Memᴰ}
use mathlib.Core.Option.{Option, none, some}
use mathlib.Core.Bool.{Bool, cond, not}
use lib.Dec.{eqb}
use borrow.Author.Tests.{eqb-true, eqb-false, eq-eqb, ne_eqb}
use Rattle.lemmas.specs.Keep.{keep}
use Rattle.lemmas.proofs.Cases.{bool, some_inj, none-some}
use Rattle.model.specs.declared.Operation.{Operation}
use Rattle.model.specs.declared.Operation.TheVariants.{Allocate, Free, Reset}
use Rattle.model.specs.Sizes.{room_for}
use Rattle.model.specs.Arena.{total}
use Rattle.model.specs.State.{State}
use Rattle.model.specs.PageMap.{PageMap, page_map, Block, group_of, room_of, block_at}
use Rattle.model.specs.Holdings.{Account, ceiling_of}
use Rattle.model.specs.Valid.{Valid}
use Rattle.model.specs.Calls.{Action, group, trim, query, listing, holdings, ceiling, Outcome, grant_of, group_ok}
use Rattle.model.specs.Free.{free_block, free, reset}
use Rattle.model.specs.Trim.{trimmed}
use Rattle.model.specs.Perform.{asked, serve}
use Rattle.model.proofs.Trimmed.{trimmed-still}
use Rattle.model.proofs.Ceilings.{setting_same}
use Rattle.model.proofs.Validity.{list_same, fetch-same}
use Rattle.model.proofs.Allocated.{Allocated, gives, denies, allocated, group-least}
use Rattle.model.proofs.Freed.{freed-only}
use Rattle.model.proofs.Reset.{is_of, without, reset-blocks}
use Rattle.model.proofs.Disjoint.{sized-map}
use Rattle.history.specs.Ledger.{Held, Effect, nothing, of_grant, of_operation, of_action, applied, Agrees}

-- An entry of a ledger that knows what block it is; what the public ledger tells of it is `told`.
pub record Entry : Type 0 where
  pub serial : ℕ
  pub offset : ℕ
  pub block : Block

abbrev pub told : Entry → Held
told e = record { serial = e.serial; offset = e.offset; group = group_of e.block; room = room_of e.block }

-- The block at an offset.
abbrev pub find : ℕ → List Entry → Option Block
find o [] = none
find o (e ∷ r) = cond (eqb e.offset o) (some e.block) (find o r)

-- No two entries have one offset.
abbrev pub Single : List Entry → Type 0
Single [] = Unit {0}
Single (e ∷ r) = (find e.offset r ≡ none) × Single r

-- An entry is found at its offset, what is found is an entry, and two entries with one offset are one.
entry_found : (l : List Entry) → Single l → (e : Entry) → Memᴰ e l → find e.offset l ≡ some e.block
entry_found [] s e i = absurd (Memᴰ.not-nil i)
entry_found (x ∷ r) s e i = go (entry_found r s.1 e) (Memᴰ.cases_cons i)
  where
    go : (Memᴰ e r → find e.offset r ≡ some e.block) → (e ≡ x) ⊎ Memᴰ e r → find e.offset (x ∷ r) ≡ some e.block
    go later (inl p) = rw (eq-eqb x.offset e.offset (cc)) (cc)
    go later (inr j) = bool (eqb x.offset e.offset)
        (λ t. none-some (sym s.0 ∙ ap (λ k. find k r) (eqb-true x.offset e.offset t) ∙ later j))
        (λ t. rw t (later j))

found-entry : (o : ℕ) (l : List Entry) (b : Block) → find o l ≡ some b → (e : Entry) × Memᴰ e l × (e.offset ≡ o) × (e.block ≡ b)
found-entry o [] b h = none-some h
found-entry o (x ∷ r) b h = bool (eqb x.offset o)
    (λ t. (x, Memᴰ.head refl, eqb-true x.offset o t, some_inj (rw t at h)))
    (λ t. let k = found-entry o r b (rw t at h) in (k.0, Memᴰ.tail k.1, k.2, k.3))

one_entry : (l : List Entry) → Single l → (e d : Entry) → Memᴰ e l → Memᴰ d l → e.offset ≡ d.offset → e ≡ d
one_entry [] s e d i j q = absurd (Memᴰ.not-nil i)
one_entry (x ∷ r) s e d i j q = go (one_entry r s.1 e d) (Memᴰ.cases_cons i) (Memᴰ.cases_cons j)
  where
    other : (k : Entry) → x.offset ≡ k.offset → Memᴰ k r → ⊥
    other k p n = none-some (sym s.0 ∙ ap (λ o. find o r) p ∙ entry_found r s.1 k n)

    go : (Memᴰ e r → Memᴰ d r → e.offset ≡ d.offset → e ≡ d) → (e ≡ x) ⊎ Memᴰ e r → (d ≡ x) ⊎ Memᴰ d r → e ≡ d
    go later (inl p) (inl t) = p ∙ sym t
    go later (inl p) (inr n) = absurd (other d (cc) n)
    go later (inr m) (inl t) = absurd (other e (cc) m)
    go later (inr m) (inr n) = later m n q

-- A ledger whose entries are the live blocks of a page map, told.
pub entries-agree : (l : List Entry) (m : PageMap) → Single l → ((o : ℕ) → block_at m o ≡ find o l) → Agrees (map told l) m
entries-agree l m s agree = record {
  blocks = λ o g r. (
    λ h. let x = Memᴰ.of_map told l h.1 in let e = x.0 in
        (e.block, cc (agree o, entry_found l s e x.1), cc, cc),
    λ b. let x = found-entry o l b.0 (cc (agree o)) in
        (told x.0, Memᴰ.map told x.1, x.2, cc, cc),
  );
  single = λ h k i j q. let x = Memᴰ.of_map told l i in let y = Memᴰ.of_map told l j in
      sym x.2 ∙ ap told (one_entry l s x.0 y.0 x.1 y.1 (cc)) ∙ y.2;
}

abbrev pub kept : (Held → Bool) → List Entry → List Entry
kept f l = keep (λ e. f (told e)) l

pub keep-told : (f : Held → Bool) (l : List Entry) → keep f (map told l) ≡ map told (kept f l)
unfolding keep
keep-told f [] = refl
keep-told f (e ∷ r) = bool (f (told e)) (λ t. rw t (cc (keep-told f r))) (λ t. rw t (keep-told f r))

kept-none : (f : Held → Bool) (o : ℕ) (l : List Entry) → find o l ≡ none → find o (kept f l) ≡ none
unfolding keep
kept-none f o [] h = refl
kept-none f o (e ∷ r) h = bool (eqb e.offset o)
    (λ t. none-some (sym (rw t at h)))
    (λ t. bool (f (told e)) (λ u. rw (u, t) (kept-none f o r (rw t at h))) (λ u. rw u (kept-none f o r (rw t at h))))

kept-single : (f : Held → Bool) (l : List Entry) → Single l → Single (kept f l)
unfolding keep
kept-single f [] h = tt
kept-single f (e ∷ r) h = bool (f (told e)) (λ u. rw u (kept-none f e.offset r h.0, kept-single f r h.1)) (λ u. rw u (kept-single f r h.1))

-- The entries at other offsets; the entries of other groups.
abbrev elsewhere : ℕ → Held → Bool
elsewhere o h = not (eqb h.offset o)

abbrev other_group : ℕ → Held → Bool
other_group g h = not (eqb h.group g)

ended_here : (o : ℕ) (l : List Entry) → find o (kept (elsewhere o) l) ≡ none
unfolding keep
ended_here o [] = refl
ended_here o (e ∷ r) = bool (eqb e.offset o) (λ t. rw t (ended_here o r)) (λ t. rw (t, t) (ended_here o r))

ended-other : (o q : ℕ) → (q ≡ o → ⊥) → (l : List Entry) → find q (kept (elsewhere o) l) ≡ find q l
unfolding keep
ended-other o q ne [] = refl
ended-other o q ne (e ∷ r) = bool (eqb e.offset o)
    (λ t. rw (t, ne_eqb e.offset q (λ z. ne (sym z ∙ eqb-true e.offset o t))) (ended-other o q ne r))
    (λ t. rw t (ap (cond (eqb e.offset q) (some e.block)) (ended-other o q ne r)))

ended-group : (g q : ℕ) (l : List Entry) → Single l → find q (kept (other_group g) l) ≡ without (is_of g (find q l)) (find q l)
unfolding keep
ended-group g q [] h = refl
ended-group g q (e ∷ r) h = bool (eqb (group_of e.block) g)
    (λ t. bool (eqb e.offset q)
    (λ u. rw (t, u) (rw t (kept-none (other_group g) q r (cc (eqb-true e.offset q u)))))
    (λ u. rw (t, u) (ended-group g q r h.1)))
    (λ t. bool (eqb e.offset q)
    (λ u. rw (t, u) (rw t))
    (λ u. rw (t, u) (ended-group g q r h.1)))

-- How one call changes the ledger: a block more, of this serial, or some blocks fewer, or not at all.
pub data Change (n : ℕ) (l l' : List Entry) : Type 0 where
  more : (e : Entry) → e.serial ≡ n → l' ≡ e ∷ l → Change n l l'
  fewer : (f : Held → Bool) → l' ≡ kept f l → Change n l l'
  equal : l' ≡ l → Change n l l'

-- What holds after call number n, whose effect is x and which leaves the state s': the ledger has entries that agree with its blocks.
pub record After (n : ℕ) (s : State) (l : List Entry) (x : Effect) (s' : State) : Type 0 where
  pub entries : List Entry
  pub live : applied n x (map told l) ≡ map told entries
  pub agree : (o : ℕ) → block_at (page_map s') o ≡ find o entries
  pub single : Single entries
  pub size : total (page_map s') ≡ total (page_map s)
  pub change : Change n l entries

module _ (n : ℕ) (s : State) (l : List Entry) (v : Valid s) (agree : (o : ℕ) → block_at (page_map s) o ≡ find o l) (single : Single l) where
  -- A call without an effect that leaves the state.
  pub unchanged : (x : Effect) (s' : State) → x ≡ nothing → s' ≡ s → After n s l x s'
  unchanged x s' e f = record {
    entries = l;
    live = cc;
    agree = λ o. cc (agree o);
    single = single;
    size = cc;
    change = equal refl;
  }

  after-allocate : (g k : ℕ) (r : Outcome State) → Allocated s g (room_for k) r → After n s l (of_grant g k (grant_of r.answer)) r.after
  after-allocate g k r (gives o j b ans fresh grp room only) = let e : Entry = record { serial = n; offset = o; block = b } in record {
    entries = e ∷ l;
    live = rw ans (λ i. record { serial = n; offset = o; group = sym grp i; room = sym room i } ∷ map told l);
    agree = λ q. bool (eqb o q) (λ t. rw t (cc (eqb-true o q t))) (λ t. rw t (only.1 q (λ z. eqb-false o q t (sym z)) ∙ agree q));
    single = (cc (agree o), single);
    size = only.2;
    change = more e refl refl;
  }
  after-allocate g k r (denies i j ans st) = unchanged _ r.after (cc) st

  after_free : (g o : ℕ) → After n s l (of_operation g (Free o) (free g o s).answer) (free g o s).after
  after_free g o = bool (group_ok g) (λ t. rw t (go (block_at (page_map s) o) refl)) (λ t. rw t (unchanged nothing s refl refl))
    where
      go : (b : Option Block) → block_at (page_map s) o ≡ b → After n s l (of_operation g (Free o) (free_block g o s b).answer) (free_block g o s b).after
      go none e = unchanged nothing s refl refl
      go (some b) e = bool (eqb (group_of b) g)
          (λ t. rw t (let only = freed-only s o b e in record {
            entries = kept (elsewhere o) l;
            live = keep-told _ l;
            agree = λ q. bool (eqb q o)
                (λ u. cc (eqb-true q o u, ended_here o l))
                (λ u. only.1 q (eqb-false q o u) ∙ agree q ∙ sym (ended-other o q (eqb-false q o u) l));
            single = kept-single (elsewhere o) l single;
            size = only.2;
            change = fewer (elsewhere o) refl;
          }))
          (λ t. rw t (unchanged nothing s refl refl))

  after-reset : (g : ℕ) → After n s l (of_operation g Reset (reset g s).answer) (reset g s).after
  after-reset g = bool (group_ok g)
      (λ t. rw t (let r = reset-blocks g s (group-least g t) (sized-map s v) in record {
        entries = kept (other_group g) l;
        live = keep-told _ l;
        agree = λ q. cc (r.0 q, agree q, ended-group g q l single);
        single = kept-single (other_group g) l single;
        size = r.1;
        change = fewer (other_group g) refl;
      }))
      (λ t. rw t (unchanged nothing s refl refl))

  after-trim : After n s l nothing (trimmed s)
  after-trim = record {
    entries = l;
    live = refl;
    agree = λ o. (trimmed-still s).0 o ∙ agree o;
    single = single;
    size = (trimmed-still s).1;
    change = equal refl;
  }

  after-operation : (c g : ℕ) (q : Operation) → After n s l (of_operation g q (asked c g q s).answer) (asked c g q s).after
  after-operation c g (Allocate k) = after-allocate g k _ (allocated s v c g k)
  after-operation c g (Free o) = after_free g o
  after-operation c g Reset = after-reset g

-- Every call on a valid account.
module _ (n : ℕ) (x : Account) (l : List Entry) (v : Valid x.state) (agree : (o : ℕ) → block_at (page_map x.state) o ≡ find o l) (single : Single l) where
  stays : (s' : State) → s' ≡ x.state → After n x.state l nothing s'
  stays s' e = unchanged n x.state l v agree single nothing s' refl e

  pub after-action : (a : Action) → After n x.state l (of_action a (serve x a).answer) (serve x a).after.state
  after-action (group c) = after-operation n x.state l v agree single (ceiling_of x c.group) c.group c.operation
  after-action trim = after-trim n x.state l v agree single
  after-action (query o) = stays _ refl
  after-action (listing k) = stays _ (list_same k x.state)
  after-action (holdings k) = stays _ (fetch-same k x.state)
  after-action (ceiling g c) = stays _ (setting_same g c x)

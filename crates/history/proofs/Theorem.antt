-- Demand 3, proved for any lent words on which every call leaves and answers what the rules say: two equations, `does` and `tells`.
-- And the live blocks that it speaks of are those of the page map, and the stored figures those of such a list of calls. Assumes nothing.
use Prim.Native.Nat.{ℕ, suc, ◌-◌, ◌*◌, ◌≤◌, ◌<◌, max}
use mathlib.Core.Path.{◌≡◌, refl, sym, ◌∙◌, ap, subst}
use mathlib.Core.Logic.{◌⊎◌, inl, inr}
use mathlib.Core.List.{List, [], ◌∷◌, ◌++◌, map, Memᴰ}
use mathlib.Core.Option.{some}
use mathlib.Core.Bool.{true, false, ◌&&◌}
use native.Mathlib.Omega.{arith}
use lib.Dec.{ltb, leb}
use lib.ListN.{get_or, set, get_or-replicate}
use lib.Seq.{ext_get_or}
use borrow.Author.Tests.{leb-true, le-leb}
use Rattle.lemmas.proofs.Cases.{bool, true-false, and_left, and_right, and_both}
use Rattle.model.specs.Numbers.{most_group, most_bytes, most_pages, page_bytes}
use Rattle.model.specs.declared.Operation.{Operation}
use Rattle.model.specs.declared.Operation.TheVariants.{Allocate, Free, Reset}
use Rattle.model.specs.declared.Answer.{Answer}
use Rattle.model.specs.Arena.{total, Each}
use Rattle.model.specs.PageMap.{page_map, block_at}
use Rattle.model.specs.Holdings.{blocks_of, held_of, Account, raised, accounted, fresh_account, ceiling_at, ceiling_of}
use Rattle.model.specs.Valid.{Valid, ValidAccount}
use Rattle.model.specs.Calls.{Action, group, trim, query, listing, holdings, ceiling, Command, init, act, is_refused, DeniedBy, GrantedAt, group_ok}
use Rattle.model.specs.Trim.{trimmed}
use Rattle.model.specs.Perform.{serve, Metadata, all_words, keeping, perform}
use Rattle.model.proofs.NoRoom.{no_room, granted-else}
use Rattle.model.proofs.Trimmed.{trimmed-map}
use Rattle.model.proofs.Validity.{serve-valid}
use Rattle.model.proofs.Accounts.{greatest-served, fresh-account, serve-account, perform-leaves}
use Rattle.model.proofs.Blocks.{Sized}
use Rattle.model.proofs.Disjoint.{sized-map}
use Rattle.history.specs.Ledger.{begins, effect, ceiling_by, Agrees}
use Rattle.history.specs.Demand.{map_of, map_at, History, after, after_all, begun, NoStart, SameCeilings, AllowedAsked, Allowed, Sequence, answers_to, ExactAsked, ExactCall, Exact, Alike, Demand3, LedgerAgrees}
use Rattle.history.specs.Holdings.{blocks_held, bytes_held, most_held, HoldingsTold}
use Rattle.history.proofs.Determined.{same-trimmed}
use Rattle.history.proofs.Neat.{Neat, trimmed-neat}
use Rattle.history.proofs.Sequence.{map_after, say_at, AllowedOn, call-map, call-says, allowed_same, call-neat}
use Rattle.history.proofs.Second.{no_row}
use Rattle.history.proofs.Ledger.{Entry, told, find, Single, entries-agree, After, unchanged, after-action}
use Rattle.history.proofs.Ceilings.{ceilings-served, no_start}
use Rattle.history.proofs.Summed.{blocks-told, held-told}
use Rattle.history.proofs.Growth.{Grew, grew_none, grew-more, grew_same}

-- A start that is not refused.
record Started (m : Metadata) (n : ℕ) : Type 0 where
  least : 0 < n
  most : n ≤ most_pages
  leaves : (perform m (init n)).after ≡ keeping m (fresh_account n)

started : (m : Metadata) (n : ℕ) → is_refused (perform m (init n)).answer ≡ false → Started m n
started m n h = bool (leb 1 n && leb n most_pages)
    (λ t. bool (leb (all_words n) m.words)
    (λ u. record { least = leb-true 1 n (and_left (leb 1 n) _ t); most = leb-true n most_pages (and_right (leb 1 n) _ t); leaves = rw (t, u) })
    (λ u. true-false refl (rw (t, u) at h)))
    (λ t. true-false refl (rw t at h))

module _ (B : Type 0) (view : B → Metadata) (next : B → Command → B) (says : B → Command → Answer)
    (does : (b : B) (c : Command) → view (next b c) ≡ (perform (view b) c).after)
    (tells : (b : B) (c : Command) → says b c ≡ (perform (view b) c).answer) where
  -- The words b, k of them, encode the account x; and what a call then leaves and answers.
  abbrev Keeps : ℕ → B → Account → Type 0
  Keeps k b x = view b ≡ record { words = k; account = some x }

  keeps-next : (k : ℕ) (b : B) (x : Account) (a : Action) → Keeps k b x → Keeps k (next b (act a)) (serve x a).after
  keeps-next k b x a e = does b (act a) ∙ ap (λ m. (perform m (act a)).after) e

  pub keeps-says : (k : ℕ) (b : B) (x : Account) (a : Action) → Keeps k b x → says b (act a) ≡ (serve x a).answer
  keeps-says k b x a e = tells b (act a) ∙ ap (λ m. (perform m (act a)).answer) e

  keeps-map : (k : ℕ) (b : B) (x : Account) → Keeps k b x → map_at B view next says b ≡ some (page_map x.state)
  keeps-map k b x e = ap (λ m. map_of m.account) e

  -- The sequence -----------------------------------------------------------------------------------------------------------------

  allowed-on : (k : ℕ) (b : B) (x : Account) (g : ℕ) (q : Operation) → Keeps k b x → AllowedAsked B view next says b g q → AllowedOn x.state g q
  allowed-on k b x g (Allocate n) e a = a
  allowed-on k b x g (Free o) e a = λ c i h w. ap is_refused (sym (keeps-says k b x _ e)) ∙ a (page_map x.state) (keeps-map k b x e) c i h w
  allowed-on k b x g Reset e a = a

  -- Two accounts that a sequence cannot tell from each other: one trimmed page map, and the same ceilings.
  record Twins (x y : Account) : Type 0 where
    neat : Neat false (page_map x.state)
    maps : page_map x.state ≡ page_map y.state
    ceilings : x.ceilings ≡ y.ceilings

  -- One call on both.
  record Both (x y : Account) (a : Action) : Type 0 where
    said : (serve x a).answer ≡ (serve y a).answer
    twins : Twins (serve x a).after (serve y a).after

  both-asked : (x y : Account) (g : ℕ) (q : Operation) → Twins x y → AllowedOn x.state g q → Both x y (group (record { group = g; operation = q }))
  both-asked x y g q w al =
      let c = ceiling_of x g in
      let d = ceiling_of y g in
      let e : c ≡ d = ap (λ l. get_or l (g - 1) 0) w.ceilings in
      let bl = allowed_same x.state y.state g q w.maps al in
      let i = subst (Neat false) w.maps w.neat in
      record {
        said = call-says x.state c g q w.neat al ∙ (λ j. say_at (e j) (w.maps j) g q) ∙ sym (call-says y.state d g q i bl);
        twins = record {
          neat = call-neat x.state c g q w.neat al;
          maps = call-map x.state c g q w.neat al ∙ (λ j. map_after (e j) (w.maps j) g q) ∙ sym (call-map y.state d g q i bl);
          ceilings = w.ceilings;
        };
      }

  both-set : (x y : Account) (g c : ℕ) → Twins x y → Both x y (ceiling g c)
  both-set x y g c w = bool (group_ok g)
      (λ t. bool (leb c most_bytes)
      (λ u. record { said = rw (t, u); twins = rw (t, u) (record { neat = w.neat; maps = w.maps; ceilings = ap (λ l. set l (g - 1) c) w.ceilings }) })
      (λ u. record { said = rw (t, u); twins = rw (t, u) w }))
      (λ t. record { said = rw t; twins = rw t w })

  both : (k : ℕ) (b : B) (x y : Account) (a : Action) → Keeps k b x → Twins x y → Allowed B view next says b a → Both x y a
  both k b x y (group c) e w al = both-asked x y c.group c.operation w (allowed-on k b x c.group c.operation e al)
  both k b x y trim e w al = absurd al
  both k b x y (query o) e w al = absurd al
  both k b x y (listing n) e w al = absurd al
  both k b x y (holdings n) e w al = absurd al
  both k b x y (ceiling g c) e w al = both-set x y g c w

  same-answers : (q : List Action) (j k : ℕ) (b d : B) (x y : Account) → Keeps j b x → Keeps k d y → Twins x y → Sequence B view next says b q → answers_to B view next says b q ≡ answers_to B view next says d q
  same-answers [] j k b d x y e f w a = refl
  same-answers (c ∷ q) j k b d x y e f w a =
      let one = both j b x y c e w a.0 in
      let said : says b (act c) ≡ says d (act c) = keeps-says j b x c e ∙ one.said ∙ sym (keeps-says k d y c f) in
      let rest = same-answers q j k _ _ _ _ (keeps-next j b x c e) (keeps-next k d y c f) one.twins a.1 in
      λ i. said i ∷ rest i

  exact-asked : (k : ℕ) (b : B) (x : Account) (g : ℕ) (q : Operation) → Keeps k b x → Valid x.state → AllowedOn x.state g q → ExactAsked B view next says b x g q
  exact-asked k b x g (Allocate n) e v a = λ t u r.
      let s = x.state in
      let c = ceiling_of x g in
      let row = no_row s v c g n a t u r in
      let said = keeps-says k b x _ e in
      record {
        refused = λ w. subst (DeniedBy 6) (sym said) (row.1 w);
        granted = λ w. let y = granted-else s c g n t u r (λ h. row.0 ((no_room s c g n).1 h) w) in (y.0, subst (GrantedAt y.0) (sym said) y.1);
      }
  exact-asked k b x g (Free o) e v a = tt
  exact-asked k b x g Reset e v a = tt

  exact-call : (k : ℕ) (b : B) (x : Account) (a : Action) → Keeps k b x → Valid x.state → Allowed B view next says b a → ExactCall B view next says b x a
  exact-call k b x (group c) e v al = exact-asked k b x c.group c.operation e v (allowed-on k b x c.group c.operation e al)
  exact-call k b x trim e v al = tt
  exact-call k b x (query o) e v al = tt
  exact-call k b x (listing n) e v al = tt
  exact-call k b x (holdings n) e v al = tt
  exact-call k b x (ceiling g c) e v al = tt

  all-exact : (q : List Action) (k : ℕ) (b : B) (x : Account) → Keeps k b x → Valid x.state → Sequence B view next says b q → Exact B view next says b q
  all-exact [] k b x e v a = tt
  all-exact (c ∷ q) k b x e v a =
      ((x, ap (λ m. m.account) e, exact-call k b x c e v a.0), all-exact q k _ _ (keeps-next k b x c e) (serve-valid x v c) a.1)

  -- Two accounts with the same pages and the same live blocks. The ceilings count only for the answers.
  module _ (j k : ℕ) (b d : B) (x y : Account) (kx : Keeps j b x) (ky : Keeps k d y) (vx : Valid x.state) (vy : Valid y.state) where
    alike : (same : Type 0) → (same → x.ceilings ≡ y.ceilings) → ((o : ℕ) → block_at (page_map y.state) o ≡ block_at (page_map x.state) o) → total (page_map y.state) ≡ total (page_map x.state) →
        Alike B view next says same (next b (act trim)) (next d (act trim))
    alike same cs h t =
        let m = x.state in
        let e = y.state in
        let tx = keeps-next j b x trim kx in
        let ty = keeps-next k d y trim ky in
        let maps : page_map (trimmed m) ≡ page_map (trimmed e) = trimmed-map m ∙ same-trimmed (page_map m) (page_map e) (sized-map m vx) (sized-map e vy) (λ o. sym (h o)) (sym t) ∙ sym (trimmed-map e) in
        record {
          map = (page_map (trimmed m), keeps-map j _ (accounted x (trimmed m)) tx, keeps-map k _ (accounted y (trimmed e)) ty ∙ ap some (sym maps));
          answers = λ c q. go (cs c) q tx ty maps;
          exact-split = λ q. all-exact q j _ _ tx (serve-valid x vx trim);
          exact-end = λ q. all-exact q k _ _ ty (serve-valid y vy trim);
        }
      where
        x' : Account
        x' = accounted x (trimmed x.state)

        y' : Account
        y' = accounted y (trimmed y.state)

        go : x.ceilings ≡ y.ceilings → (q : List Action) → Keeps j (next b (act trim)) x' → Keeps k (next d (act trim)) y' → page_map (trimmed x.state) ≡ page_map (trimmed y.state) →
            Sequence B view next says (next b (act trim)) q ⊎ Sequence B view next says (next d (act trim)) q → answers_to B view next says (next b (act trim)) q ≡ answers_to B view next says (next d (act trim)) q
        go c q tx ty maps (inl a) = same-answers q j k _ _ x' y' tx ty (record { neat = trimmed-neat x.state vx; maps = maps; ceilings = c }) a
        go c q tx ty maps (inr a) = sym (same-answers q k j _ _ y' x' ty tx (record { neat = trimmed-neat y.state vy; maps = sym maps; ceilings = sym c }) a)

  -- Histories --------------------------------------------------------------------------------------------------------------------

  -- A history that calls have reached: its words encode a valid account of N pages, whose live blocks are the ledger's, and in which each
  -- group's greatest figure is as f says, and its ceiling as the history tells. M was its ledger at call number t.
  pub record Reached (N t : ℕ) (M : List Entry) (f : ℕ → ℕ) (w : History B view next says) : Type 0 where
    pub words : ℕ
    pub account : Account
    pub entries : List Entry
    pub keeps : Keeps words w.lent account
    pub live : w.live ≡ map told entries
    pub agree : (o : ℕ) → block_at (page_map account.state) o ≡ find o entries
    pub single : Single entries
    pub size : total (page_map account.state) ≡ N
    pub valid : ValidAccount account
    pub grew : Grew t M entries
    pub later : t ≤ w.calls
    pub greatest : (i : ℕ) → i < most_group → get_or account.greatest i 0 ≡ f i
    pub ceilings : (i : ℕ) → i < most_group → ceiling_at account i ≡ w.ceiling (suc i)

  -- The greatest figures, one call later.
  abbrev pub peaks : (ℕ → ℕ) → History B view next says → ℕ → ℕ
  peaks f v i = max (f i) (bytes_held (suc i) v.live)

  -- What a group holds, by the ledger.
  module _ (N t : ℕ) (M : List Entry) (f : ℕ → ℕ) (w : History B view next says) (r : Reached N t M f w) (i : ℕ) where
    sized : Each Sized (page_map r.account.state)
    sized = sized-map r.account.state r.valid.state

    blocks-are : blocks_of (suc i) (page_map r.account.state) ≡ blocks_held (suc i) w.live
    blocks-are = blocks-told (suc i) (omega arith) (page_map r.account.state) sized r.entries r.single r.agree ∙ ap (λ l. blocks_held (suc i) l) (sym r.live)

    pub held-are : held_of (suc i) (page_map r.account.state) ≡ bytes_held (suc i) w.live
    held-are = held-told (suc i) (omega arith) (page_map r.account.state) sized r.entries r.single r.agree ∙ ap (λ l. bytes_held (suc i) l) (sym r.live)

  -- One call more, with what is known after it.
  reach-by : (N t : ℕ) (M : List Entry) (f : ℕ → ℕ) (w : History B view next says) (c : Command) (r : Reached N t M f w) (x : Account) → Keeps r.words (next w.lent c) x → ValidAccount x →
      After w.calls r.account.state r.entries (effect c (says w.lent c)) x.state →
      ((i : ℕ) → i < most_group → get_or x.greatest i 0 ≡ raised r.account x.state i) →
      ((i : ℕ) → i < most_group → ceiling_at x i ≡ ceiling_by c (says w.lent c) w.ceiling (suc i)) →
      Reached N t M (peaks f (after B view next says w c)) (after B view next says w c)
  reach-by N t M f w c r x on v a up tops = record {
    words = r.words;
    account = x;
    entries = a.entries;
    keeps = on;
    live = live;
    agree = a.agree;
    single = a.single;
    size = a.size ∙ r.size;
    valid = v;
    grew = grew-more t w.calls M _ _ r.later r.grew a.change;
    later = omega arith;
    greatest = λ i h. up i h ∙ (λ j. max (r.greatest i h j) (held i j));
    ceilings = tops;
  }
    where
      live : (after B view next says w c).live ≡ map told a.entries
      live = cc

      held : (i : ℕ) → held_of (suc i) (page_map x.state) ≡ bytes_held (suc i) (after B view next says w c).live
      held i = held-told (suc i) (omega arith) (page_map x.state) (sized-map x.state v.state) a.entries a.single a.agree ∙ ap (λ l. bytes_held (suc i) l) (sym live)

  pub reach : (N t : ℕ) (M : List Entry) (f : ℕ → ℕ) (w : History B view next says) (c : Command) → Reached N t M f w → (effect c (says w.lent c) ≡ begins → ⊥) →
      Reached N t M (peaks f (after B view next says w c)) (after B view next says w c)
  reach N t M f w (init n) r h =
      let x = r.account in
      let here : Metadata = record { words = r.words; account = some x } in
      let no : is_refused (says w.lent (init n)) ≡ true = no_start (says w.lent (init n)) h in
      let same : (perform here (init n)).after ≡ here = perform-leaves here (init n) r.valid (ap (λ m. is_refused (perform m (init n)).answer) (sym r.keeps) ∙ ap is_refused (sym (tells w.lent (init n))) ∙ no) in
      reach-by N t M f w (init n) r x (does w.lent (init n) ∙ ap (λ m. (perform m (init n)).after) r.keeps ∙ same) r.valid
      (unchanged w.calls x.state _ r.valid.state r.agree r.single _ x.state (rw no) refl)
      (λ i l. omega (arith, r.valid.least i l))
      (λ i l. rw no (r.ceilings i l))
  reach N t M f w (act a) r h =
      let x = r.account in
      reach-by N t M f w (act a) r _ (keeps-next r.words w.lent x a r.keeps) (serve-account x r.valid a)
      (rw (keeps-says r.words w.lent x a r.keeps) (after-action w.calls x r.entries r.valid.state r.agree r.single a))
      (greatest-served x r.valid a)
      (λ i l. rw (keeps-says r.words w.lent x a r.keeps) (ceilings-served x r.valid w.ceiling r.ceilings a i l))

  -- The greatest figures after some calls.
  pub peaks-all : (ℕ → ℕ) → History B view next says → List Command → ℕ → ℕ
  peaks-all f w [] = f
  peaks-all f w (c ∷ l) = peaks-all (peaks f (after B view next says w c)) (after B view next says w c) l

  peaks-held : (l : List Command) (f : ℕ → ℕ) (w : History B view next says) (i : ℕ) → peaks-all f w l i ≡ most_held B view next says (suc i) (f i) w l
  unfolding peaks-all
  peaks-held [] f w i = refl
  peaks-held (c ∷ l) f w i = peaks-held l _ _ i

  pub reach-all : (N t : ℕ) (M : List Entry) (f : ℕ → ℕ) (l : List Command) (w : History B view next says) → Reached N t M f w → NoStart B view next says w l → Reached N t M (peaks-all f w l) (after_all B view next says w l)
  unfolding peaks-all
  reach-all N t M f [] w r h = r
  reach-all N t M f (c ∷ l) w r h = reach-all N t M (peaks f (after B view next says w c)) l (after B view next says w c) (reach N t M f w c r h.0) h.1

  -- Count anew from here.
  rebased : (N t : ℕ) (M : List Entry) (f : ℕ → ℕ) (w : History B view next says) (r : Reached N t M f w) → Reached N w.calls r.entries f w
  rebased N t M f w r = record {
    words = r.words;
    account = r.account;
    entries = r.entries;
    keeps = r.keeps;
    live = r.live;
    agree = r.agree;
    single = r.single;
    size = r.size;
    valid = r.valid;
    grew = grew_none w.calls _;
    later = omega arith;
    greatest = r.greatest;
    ceilings = r.ceilings;
  }

  pub first-reached : (b : B) (n : ℕ) → is_refused (says b (init n)) ≡ false → Reached n 0 [] (λ _. 0) (begun B view next says b n)
  first-reached b n h =
      let S = started (view b) n (cc (tells b (init n))) in
      record {
        words = (view b).words;
        account = fresh_account n;
        entries = [];
        keeps = does b (init n) ∙ S.leaves;
        live = rw h;
        agree = λ o. bool (ltb o (n * page_bytes)) (λ t. rw t) (λ t. rw t);
        single = tt;
        size = omega arith;
        valid = fresh-account n S.least S.most;
        grew = grew_none 0 [];
        later = omega arith;
        greatest = λ i l. get_or-replicate {A = ℕ} most_group i 0 0 l;
        ceilings = λ i l. rw h (get_or-replicate {A = ℕ} most_group i most_bytes 0 l);
      }

  pub split-starts : (a l : List Command) (w : History B view next says) → NoStart B view next says w (a ++ l) → NoStart B view next says w a × NoStart B view next says (after_all B view next says w a) l
  split-starts [] l w h = (tt, h)
  split-starts (c ∷ a) l w h = let k = split-starts a l _ h.1 in ((h.0, k.0), k.1)

  -- DEMAND 3.
  pub demand-3 : Demand3 B view next says
  unfolding Demand3
  demand-3 b n first stretch h starts early all =
      let start : History B view next says = begun B view next says b n in
      let split : History B view next says = after_all B view next says start first in
      let end : History B view next says = after_all B view next says split stretch in
      let parts = split-starts first stretch start starts in
      let rs = reach-all n 0 [] _ first start (first-reached b n h) parts.0 in
      let re = reach-all n _ _ _ stretch split (rebased n 0 [] _ split rs) parts.1 in
      let same : re.entries ≡ rs.entries = grew_same _ _ _ re.grew
      (λ x i. early x (subst (Memᴰ x) (sym re.live) i))
      (λ x i. subst (Memᴰ x) re.live (all x (subst (Memᴰ x) (sym rs.live) i))) in
      let tops : SameCeilings B view next says split end → rs.account.ceilings ≡ re.account.ceilings =
      λ c. ext_get_or 0 rs.account.ceilings re.account.ceilings (rs.valid.limits ∙ sym re.valid.limits) (λ i l.
      let k : i < most_group = omega (arith, rs.valid.limits) in
      rs.ceilings i k ∙ sym (c (suc i) (and_both (leb 1 (suc i)) (leb (suc i) most_group) (le-leb 1 (suc i) (omega arith)) (le-leb (suc i) most_group (omega arith)))) ∙ sym (re.ceilings i k)) in
      alike rs.words re.words _ _ rs.account re.account rs.keeps re.keeps rs.valid.state re.valid.state _ tops
      (λ o. cc (re.agree o, rs.agree o)) (cc)

  -- The live blocks that it speaks of are those of the page map.
  pub ledger-agrees : LedgerAgrees B view next says
  unfolding LedgerAgrees
  ledger-agrees b n calls h starts =
      let start : History B view next says = begun B view next says b n in
      let end : History B view next says = after_all B view next says start calls in
      let r = reach-all n 0 [] _ calls start (first-reached b n h) starts in
      let m = page_map r.account.state in
      (m, keeps-map r.words end.lent r.account r.keeps, subst (λ l. Agrees l m) (sym r.live) (entries-agree r.entries m r.single r.agree))

  -- The stored figures are those of the list of calls.
  pub holdings-told : HoldingsTold B view next says
  unfolding HoldingsTold
  holdings-told b n calls h starts =
      let start : History B view next says = begun B view next says b n in
      let end : History B view next says = after_all B view next says start calls in
      let r = reach-all n 0 [] _ calls start (first-reached b n h) starts in (
        r.account,
        ap (λ m. m.account) r.keeps,
        λ i l j. record {
          blocks = blocks-are n 0 [] _ end r i j;
          held = held-are n 0 [] _ end r i j;
          greatest = (r.greatest i l ∙ peaks-held calls (λ _. 0) start i) j;
        },
      )

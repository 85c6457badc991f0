-- What the public calls promise, as theorems about lent words. `answer_of` and `meta_after` (specs/Calls.antt) are what the contracts in
-- src/lib.rt say of each call: its answer and the words after it. That the code does that is demand 2, and is proved with the code;
-- here are the promises that follow from it. w stands for any lent words, c for any call. Assumes nothing.
use Prim.Native.Nat.{ℕ, ◌+◌, ◌*◌, ◌%◌, ◌≤◌, ◌<◌}
use mathlib.Core.Path.{◌≡◌, refl, sym, ap, ◌∙◌, subst}
use mathlib.Core.Logic.{◌⊎◌, inl, inr, ◌↔◌}
use mathlib.Core.List.{List, ◌++◌}
use mathlib.Core.Option.{Option, none, some}
use native.Mathlib.Omega.{arith}
use lib.ListN.{length, take, drop}
use lib.Seq.{take_all}
use Rattle.std.specs.Prelude.{unwrap_or}
use Rattle.model.specs.Numbers.{page_bytes, most_bytes, most_group, large_size, most_pages}
use Rattle.model.specs.declared.Refusal.TheVariants.{NoState, NoRoom, ShortBuffer}
use Rattle.model.specs.declared.Holding.{Holding}
use Rattle.model.specs.declared.Answer.TheVariants.{Denied, Done, Counted}
use mathlib.Core.Bool.{true, false, cond, ◌&&◌}
use Rattle.model.specs.declared.Operation.TheVariants.{Allocate}
use lib.Dec.{eqb}
use borrow.Author.Tests.{leb-false, le-leb, lt-leb, eq-eqb, ne_eqb}
use Rattle.model.specs.Sizes.{pages_for, room_for}
use Rattle.model.specs.Arena.{total}
use Rattle.model.specs.State.{State}
use Rattle.model.specs.Holdings.{held_of, Account, accounted, fresh_account, ceiling_of, holdings_of}
use Rattle.model.specs.Ceilings.{within, limited}
use Rattle.model.specs.PageMap.{page_map, Block, room_of, block_at}
use Rattle.model.specs.Valid.{ValidAccount}
use Rattle.model.specs.Calls.{Action, trim, query, listing, holdings, ceiling, Command, init, act, reading, is_refused, looked_of, RefusedBy, DeniedBy, GrantedAt, refusal_of, group, group_ok, size_ok}
use Rattle.model.specs.Pages.{most_looked}
use Rattle.model.specs.Allocate.{searched, needed, looks_for}
use Rattle.model.specs.Trim.{trimmed}
use Rattle.model.specs.Perform.{serve, all_words, on_account}
use Rattle.model.specs.Listing.{listing_text, list_into}
use Rattle.lemmas.proofs.Cases.{bool, some_inj, none-some}
use Rattle.model.proofs.Accounts.{accounted-valid, fresh-account}
use Rattle.model.proofs.Ceilings.{setting_same}
use Rattle.model.proofs.Disjoint as model
use Rattle.model.proofs.NoRoom as rules
use Rattle.model.proofs.Looked as looked
use Rattle.model.proofs.ReadOff.{ReadOff, read_off}
use Rattle.model.proofs.BoundMet as met
use Rattle.model.proofs.NoRoom.{Short}
use Rattle.history.specs.Demand.{Demand3, LedgerAgrees}
use Rattle.history.specs.Holdings.{HoldingsTold}
use Rattle.history.specs.Ceilings.{CeilingsTold, CeilingKept, Demand3Asked, StretchCovered}
use Rattle.history.specs.Rows.{Row}
use Rattle.model.proofs.Answers.{refused-number, refusal-refused, refusal-told, grant-told}
use Rattle.history.proofs.Theorem.{demand-3, ledger-agrees, holdings-told}
use Rattle.history.proofs.Ceilings.{stretch-covered}
use Rattle.history.proofs.Within.{ceilings-told, ceiling-kept, demand-3-asked}
use Rattle.history.proofs.Second as second
use Rattle.account.specs.Encoding.{account_encoding, BeginsWith}
use Rattle.account.specs.Decoding.{account_of}
use Rattle.account.proofs.Accounts.{account_of-some}
use Rattle.calls.specs.Arena.{pages_of}
use Rattle.calls.specs.Calls.{view_of, state_in, state_of, written, answer_of, meta_after, listed_of, text_after, held_in, fetched_if, list_after, extent}
use Rattle.calls.proofs.Words.{following, encodes-of, by-account, standing, by_state, written-later, view-after, after_is, same_length, refused-same}
use Rattle.calls.proofs.Words.{query-same, listing-same, unserved-answer, served-long, served-answer, served-words, answered, holdings-same}
use Rattle.calls.proofs.Fresh.{no-pages, many-pages, short-answer, fresh-done, fresh-words}
use Rattle.calls.proofs.Fetching.{fetched-answer}
use Rattle.calls.proofs.Front.{front-account, front-alone}
use Rattle.model.proofs.Aligned as aligned
use Rattle.model.proofs.Aligned.{Aligned}
use Rattle.metadata.proofs.States.{all-writable}
use Rattle.listing.specs.Longest.{longest}
use Rattle.listing.proofs.Lengths as lengths

-- Demand 1: a refused call, which is one whose answer has a number, changes no word.
pub refused-unchanged : (w : List ℕ) (c : Command) → 0 < (reading (answer_of w c)).refusal → meta_after w c ≡ w
refused-unchanged w c r = refused-same w c ((refused-number (answer_of w c)).1 r)

-- Nor do query, listing and holdings, whatever they answer.
pub query-unchanged : (w : List ℕ) (o : ℕ) → meta_after w (act (query o)) ≡ w
query-unchanged w o = query-same w o

pub listing-unchanged : (w : List ℕ) (n : ℕ) → meta_after w (act (listing n)) ≡ w
listing-unchanged w n = listing-same w n

pub holdings-unchanged : (w : List ℕ) (n : ℕ) → meta_after w (act (holdings n)) ≡ w
holdings-unchanged w n = holdings-same w n

-- Demand 1: words behind those of the arena are as they were after every call, ..
pub later-unchanged : (w : List ℕ) (c : Command) (s : State) → state_of (meta_after w c) ≡ some s → (k : ℕ) → all_words (total s.segments) ≤ k → drop k (meta_after w c) ≡ drop k w
later-unchanged w c s e k h =
    let t = standing (meta_after w c) s e in
    let v = (encodes-of (meta_after w c) t.account t.encoded).valid in
    ap (drop k) (after_is w c ∙ ap (λ y. written w y) t.encoded) ∙ written-later w t.account v k (omega (arith, ap (λ r. total r.segments) t.state))

-- .. there are as many words as before, ..
pub length-unchanged : (w : List ℕ) (c : Command) → length (meta_after w c) ≡ length w
length-unchanged w c = same_length w c

-- .. and no call reads words behind those that it can need, or asks how many there are, whatever the words hold: it answers what it
-- answers on the first k words alone, k as far as `extent` or further, and leaves what it leaves there, with the others as they were.
pub later-unread : (w : List ℕ) (c : Command) (k : ℕ) → extent w c ≤ k →
    (answer_of w c ≡ answer_of (take k w) c) × (meta_after w c ≡ meta_after (take k w) c ++ drop k w)
later-unread w c k h = front-alone w c k h

pub later-unread-text : (w b : List ℕ) (k : ℕ) → extent w (act (listing (length b))) ≤ k → text_after w b ≡ text_after (take k w) b
unfolding text_after
later-unread-text w b k h = ap (λ x. listed_of x b) (sym (front-account w k h))

pub later-unread-list : (w : List ℕ) (l : List Holding) (k : ℕ) → extent w (act (holdings (length l))) ≤ k → list_after w l ≡ list_after (take k w) l
unfolding list_after
later-unread-list w l k h = ap (λ y. held_in y l) (sym (front-account w k h))

-- An init reads no word at all: it is refused by 1 for a number of pages that no arena has, by 2 if there are fewer words than the
-- arena needs, and else sets them up, whatever they held.
pub init-bad-pages : (w : List ℕ) (n : ℕ) → (n ≡ 0) ⊎ (most_pages < n) → RefusedBy 1 (answer_of w (init n))
init-bad-pages w n (inl z) = ap reading (sym (no-pages w n z).0)
init-bad-pages w n (inr h) = ap reading (sym (many-pages w n h).0)

pub init-few-words : (w : List ℕ) (n : ℕ) → 1 ≤ n → n ≤ most_pages → length w < all_words n → RefusedBy 2 (answer_of w (init n))
init-few-words w n a b h = ap reading (sym (short-answer w n (λ z. omega arith) b (all_words n) refl h))

pub init-fresh : (w : List ℕ) (n : ℕ) → 1 ≤ n → n ≤ most_pages → all_words n ≤ length w →
    (answer_of w (init n) ≡ Done) × (meta_after w (init n) ≡ account_encoding (fresh_account n) ++ drop (all_words n) w)
init-fresh w n a b h =
    let there : (n ≡ 0 → ⊥) = λ z. omega arith in
    let f = fresh-done w n there b (all_words n) refl h in
    (sym f.0, sym f.1 ∙ ap (λ k. account_encoding (fresh_account n) ++ drop k w) (fresh-words w n there b (all_words n) refl))

-- Any other call is refused by 3 on words that begin with no valid account's, a request with the count 0 (`refusal_of`), ..
pub no-state-refused : (w : List ℕ) → ((x : Account) → ValidAccount x → BeginsWith w x → ⊥) → (a : Action) →
    (answer_of w (act a) ≡ refusal_of a NoState) × (meta_after w (act a) ≡ w)
no-state-refused w f a = (no, refused-same w (act a) (ap is_refused no ∙ refusal-refused a NoState))
  where
    no : answer_of w (act a) ≡ refusal_of a NoState
    no = unserved-answer w (by-account (λ y. y ≡ none) w (λ _. refl) (λ x _ h. absurd (f x h.valid h.begins))) a

-- .. and served on words that do: the answer is that of the rules on that account, and the words are those of the account that they leave.
pub state-served : (w : List ℕ) (x : Account) → ValidAccount x → BeginsWith w x → (a : Action) →
    (answer_of w (act a) ≡ (serve x a).answer) × (meta_after w (act a) ≡ account_encoding (serve x a).after ++ drop (length (account_encoding x)) w)
state-served w x v b a = (served-answer w x v b a, served-words w x v b a ∙ ap (λ k. account_encoding (following x a) ++ drop k w) (served-long x v a))

-- Demand 3, for any list of calls on lent words: see specs/Demand.antt of the crate history.
pub words-demand-3 : Demand3 (List ℕ) view_of meta_after answer_of
unfolding answer_of
words-demand-3 = demand-3 (List ℕ) view_of meta_after answer_of view-after (λ w c. refl)

-- With document 02's own hypothesis, that no ceiling changed in the stretch: settings are refused, or set what the ceiling is.
pub words-demand-3-asked : Demand3Asked (List ℕ) view_of meta_after answer_of
unfolding answer_of
words-demand-3-asked = demand-3-asked (List ℕ) view_of meta_after answer_of view-after (λ w c. refl)

-- The live blocks that it speaks of, told from calls and answers alone, are those of the page map that the words encode.
pub words-ledger-agrees : LedgerAgrees (List ℕ) view_of meta_after answer_of
unfolding answer_of
words-ledger-agrees = ledger-agrees (List ℕ) view_of meta_after answer_of view-after (λ w c. refl)

-- What each group holds (document 02, c). Of words that encode an account the list of twelve is filled with the account's records, ..
pub holdings-fetched : (w : List ℕ) (x : Account) → account_of w ≡ some x → (l : List Holding) → length l ≡ most_group →
    (answer_of w (act (holdings (length l))) ≡ Done) × (list_after w l ≡ holdings_of x)
unfolding list_after
holdings-fetched w x e l h =
    let twelve = eq-eqb (length l) most_group h in
    (fetched-answer w x e (length l) ∙ ap fetched_if twelve, ap (λ y. held_in y l) e ∙ ap (λ t. cond t (holdings_of x) l) twelve)

-- .. a list of another length is refused by 9, where the words encode an account, ..
pub holdings-bad-list : (w : List ℕ) (x : Account) → account_of w ≡ some x → (l : List Holding) → (length l ≡ most_group → ⊥) → RefusedBy 9 (answer_of w (act (holdings (length l))))
holdings-bad-list w x e l h = ap reading (fetched-answer w x e (length l) ∙ ap fetched_if (ne_eqb (length l) most_group h))

-- .. and a refused call leaves the list as it was, whatever the words. ..
pub refused-list : (w : List ℕ) (l : List Holding) → 0 < (reading (answer_of w (act (holdings (length l))))).refusal → list_after w l ≡ l
unfolding list_after
refused-list w l r = by-account (λ y. held_in y l ≡ l) w (λ _. refl) (λ x e k. bool (eqb (length l) most_group)
    (λ t. absurd (omega (arith, ap (λ a. (reading a).refusal) (fetched-answer w x e (length l) ∙ ap fetched_if t))))
    (λ t. ap (λ b. cond b (holdings_of x) l) t))

-- .. "Since the start": after a start that is not refused, and any calls on the words without a further start that is not, the account that
-- they encode has of every group the blocks and bytes of the ledger, and the greatest of the bytes held at all moments since.
pub words-holdings-told : HoldingsTold (List ℕ) view_of meta_after answer_of
unfolding answer_of
words-holdings-told = holdings-told (List ℕ) view_of meta_after answer_of view-after (λ w c. refl)

-- Live blocks lie inside the arena, ..
pub inside-arena : (w : List ℕ) (s : State) → state_of w ≡ some s → (o : ℕ) (b : Block) → block_at (page_map s) o ≡ some b → o + room_of b ≤ total s.segments * page_bytes
inside-arena w s e o b f = model.inside-arena s (standing w s e).valid o b f

-- .. and never share a byte: two blocks that hold the byte x are one.
pub never-share : (w : List ℕ) (s : State) → state_of w ≡ some s → (o q : ℕ) (b c : Block) → block_at (page_map s) o ≡ some b → block_at (page_map s) q ≡ some c →
    (x : ℕ) → o ≤ x → x < o + room_of b → q ≤ x → x < q + room_of c → (o ≡ q) × (b ≡ c)
never-share w s e o q b c f g x i j k l = model.never-share s (standing w s e).valid o q b c f g x i j k l

-- A group's request of n bytes.
abbrev pub request : ℕ → ℕ → Action
request g n = group (record { group = g; operation = Allocate n })

-- On words that encode no account a request is refused by 3, and so by no other number.
without : (k : ℕ) (w : List ℕ) (g n : ℕ) → (3 ≡ k → ⊥) → account_of w ≡ none → DeniedBy k (answer_of w (act (request g n))) → ⊥
without k w g n other e r = other (ap (λ q. q.refusal) (ap reading (sym (unserved-answer w e (request g n))) ∙ r.1))

-- A claim about the account of words, by which a request's refusal with a number other than 3 is told.
denied-exactly : (k : ℕ) → (3 ≡ k → ⊥) → (P : Account → Type 0) (w : List ℕ) (g n : ℕ) →
    ((x : Account) → account_of w ≡ some x → DeniedBy k (answer_of w (act (request g n))) ↔ P x) →
    DeniedBy k (answer_of w (act (request g n))) ↔ ((x : Account) × (account_of w ≡ some x) × P x)
denied-exactly k other P w g n on = by-account (λ y. DeniedBy k (answer_of w (act (request g n))) ↔ ((x : Account) × (y ≡ some x) × P x)) w
    (λ e. (λ r. absurd (without k w g n other e r), λ h. none-some h.1))
    (λ x e _. (λ r. (x, refl, (on x e).0 r), λ h. (on x e).1 (subst P (sym (some_inj h.1)) h.2)))

-- A request is refused by 6 exactly if the words begin with those of a valid account, its group and size are legal, it is within the
-- group's ceiling, it needs pages, and no run of the page map that trim would leave has as many (`Short`), ..
no-room-on : (w : List ℕ) (x : Account) → account_of w ≡ some x → (g n : ℕ) → DeniedBy 6 (answer_of w (act (request g n))) ↔ Short x.state (ceiling_of x g) g n
no-room-on w x e g n =
    let told = answered w x e (request g n) in
    let rule = rules.no_room x.state (ceiling_of x g) g n in
    (λ r. rule.0 (subst (DeniedBy 6) told r), λ k. subst (DeniedBy 6) (sym told) (rule.1 k))

pub no_room : (w : List ℕ) (g n : ℕ) → DeniedBy 6 (answer_of w (act (request g n))) ↔ ((x : Account) × (account_of w ≡ some x) × Short x.state (ceiling_of x g) g n)
no_room w g n = denied-exactly 6 (λ q. omega arith) (λ x. Short x.state (ceiling_of x g) g n) w g n (λ x e. no-room-on w x e g n)

-- .. so a trim before it does not help, nor does it harm: it is refused by 6 after a trim just if it is without one, ..
pub trim-needless : (w : List ℕ) (g n : ℕ) → DeniedBy 6 (answer_of w (act (request g n))) ↔ DeniedBy 6 (answer_of (meta_after w (act trim)) (act (request g n)))
trim-needless w g n = go (account_of w) refl
  where
    after : (y : Option Account) → account_of w ≡ y → account_of (meta_after w (act trim)) ≡ (on_account (view_of w) trim y).after.account
    after y e = ap (λ m. m.account) (view-after w (act trim)) ∙ ap (λ y. (on_account (view_of w) trim y).after.account) e

    go : (y : Option Account) → account_of w ≡ y → DeniedBy 6 (answer_of w (act (request g n))) ↔ DeniedBy 6 (answer_of (meta_after w (act trim)) (act (request g n)))
    go none e = (λ r. absurd (without 6 w g n (λ q. omega arith) e r), λ r. absurd (without 6 (meta_after w (act trim)) g n (λ q. omega arith) (after none e ∙ e) r))
    go (some x) e =
        let here = no-room-on w x e g n in
        let there = no-room-on (meta_after w (act trim)) (accounted x (trimmed x.state)) (after (some x) e) g n in
        let same = second.short-trimmed x.state (encodes-of w x e).valid.state (ceiling_of x g) g n in
        (λ r. there.1 (same.0 (here.0 r)), λ r. here.1 (same.1 (there.0 r)))

-- .. and the empty board does not say no: where no block is live, it is granted if its room is within the group's ceiling and the arena
-- has the pages that it needs.
pub empty-board : (w : List ℕ) (x : Account) → account_of w ≡ some x → ((o : ℕ) → block_at (page_map x.state) o ≡ none) → (g n : ℕ) → group_ok g ≡ true → size_ok n ≡ true →
    room_for n ≤ ceiling_of x g → ((k : ℕ) → needed n x.state ≡ some k → k ≤ total x.state.segments) → (o : ℕ) × GrantedAt o (answer_of w (act (request g n)))
empty-board w x e bare g n t u most enough =
    let k = second.empty-board x.state (encodes-of w x e).valid.state bare (ceiling_of x g) g n t u most enough in
    (k.0, subst (GrantedAt k.0) (sym (answered w x e (request g n))) k.1)

-- Demand 3's rule on refusals, of words that encode any valid account: a request from 8,192 bytes up, of a legal group and size and within
-- the ceiling, is refused by 6 exactly when no row of as many pages as it needs is clear.
pub no_row : (w : List ℕ) (x : Account) → account_of w ≡ some x → (g n : ℕ) → large_size ≤ n → group_ok g ≡ true → size_ok n ≡ true →
    within (ceiling_of x g) g n (page_map x.state) ≡ true → DeniedBy 6 (answer_of w (act (request g n))) ↔ (Row (pages_for n) (page_map x.state) → ⊥)
no_row w x e g n h t u r =
    let told = answered w x e (request g n) in
    let rows = second.no_row x.state (encodes-of w x e).valid.state (ceiling_of x g) g n h t u r in
    (λ d. rows.0 (subst (DeniedBy 6) told d), λ f. subst (DeniedBy 6) (sym told) (rows.1 f))

-- Ceilings (document 02, e). A request is refused by 10 exactly if the words begin with those of a valid account, its group and size are
-- legal, and what the group holds and the new block's room are more than the group's ceiling. ..
pub over-ceiling : (w : List ℕ) (g n : ℕ) → DeniedBy 10 (answer_of w (act (request g n))) ↔
    ((x : Account) × (account_of w ≡ some x) × ((group_ok g ≡ true) × (size_ok n ≡ true) × (ceiling_of x g < held_of g (page_map x.state) + room_for n)))
over-ceiling w g n = denied-exactly 10 (λ q. omega arith) (λ x. (group_ok g ≡ true) × (size_ok n ≡ true) × (ceiling_of x g < held_of g (page_map x.state) + room_for n)) w g n (λ x e.
    let told = answered w x e (request g n) in
    let rule = rules.over-ceiling x.state (ceiling_of x g) g n in
    let sum = held_of g (page_map x.state) + room_for n in (
      λ r. let k = rule.0 (subst (DeniedBy 10) told r) in (k.0, k.1, leb-false sum (ceiling_of x g) k.2),
      λ k. subst (DeniedBy 10) (sym told) (rule.1 (k.0, k.1, lt-leb sum (ceiling_of x g) k.2)),
    ))

-- .. A setting that the tests let pass sets the ceiling of its group, and changes nothing else of the account, ..
pub ceiling-set : (w : List ℕ) (x : Account) → account_of w ≡ some x → (g c : ℕ) → group_ok g ≡ true → c ≤ most_bytes →
    (answer_of w (act (ceiling g c)) ≡ Done) × (account_of (meta_after w (act (ceiling g c))) ≡ some (limited g c x))
ceiling-set w x e g c t h =
    let u = le-leb c most_bytes h in (
      answered w x e (ceiling g c) ∙ rw (t, u),
      ap (λ m. m.account) (view-after w (act (ceiling g c))) ∙ ap (λ y. (on_account (view_of w) (ceiling g c) y).after.account) e ∙ rw (t, u),
    )

-- .. so no setting takes anything away, refused or not, whatever the words and the ceiling: the state stays. ..
pub nothing-taken : (w : List ℕ) (g c : ℕ) → state_of (meta_after w (act (ceiling g c))) ≡ state_of w
nothing-taken w g c = ap (λ m. state_in m.account) (view-after w (act (ceiling g c))) ∙ by-account (λ y. state_in (on_account (view_of w) (ceiling g c) y).after.account ≡ state_in y) w
    (λ e. ap state_in e)
    (λ x e _. ap some (setting_same g c x))

-- .. Over a list of calls: the words have the ceilings that the calls and their answers tell, ..
pub words-ceilings-told : CeilingsTold (List ℕ) view_of meta_after answer_of
unfolding answer_of
words-ceilings-told = ceilings-told (List ℕ) view_of meta_after answer_of view-after (λ w c. refl)

-- .. as long as a group's ceiling is not lowered below what the group holds, its held bytes are never above it, ..
pub words-ceiling-kept : CeilingKept (List ℕ) view_of meta_after answer_of
unfolding answer_of
words-ceiling-kept = ceiling-kept (List ℕ) view_of meta_after answer_of view-after (λ w c. refl)

-- .. and calls by which no ceiling changes, with refused settings or settings to what the ceiling is, leave all as demand 3 supposes.
pub words-stretch-covered : StretchCovered (List ℕ) view_of meta_after answer_of
words-stretch-covered = stretch-covered (List ℕ) view_of meta_after answer_of

-- How far a request looks (document 02, b). Its answer has a count, whatever the words: that of the searches for the pages that it needs,
-- where the words encode an account, its group and size are legal and it is within the ceiling; else 0. ..
pub request-looks : (w : List ℕ) (x : Account) → account_of w ≡ some x → (g n : ℕ) →
    looked_of (answer_of w (act (request g n))) ≡ some (cond (group_ok g && size_ok n && within (ceiling_of x g) g n (page_map x.state)) (looks_for (needed n x.state) x.state) 0)
request-looks w x e g n = ap looked_of (answered w x e (request g n)) ∙ looked.counted x.state (ceiling_of x g) g n

-- .. Where it needs pages, the count can be read off the listings as they are and as trim would leave them: it is the number of the line
-- that tells the run which is taken, or that of all lines. ..
pub request-read-off : (w : List ℕ) (x : Account) → account_of w ≡ some x → (g n k : ℕ) → group_ok g ≡ true → size_ok n ≡ true →
    within (ceiling_of x g) g n (page_map x.state) ≡ true → needed n x.state ≡ some k → ReadOff x.state k (answer_of w (act (request g n)))
request-read-off w x e g n k t u r f =
    subst (ReadOff x.state k) (sym (answered w x e (request g n))) (read_off x.state (ceiling_of x g) g n k t u r f)

-- .. No other call's answer has a count of runs, refused or not. ..
pub others-uncounted : (w : List ℕ) (c : Command) → ((g n : ℕ) → c ≡ act (request g n) → ⊥) → looked_of (answer_of w c) ≡ none
unfolding answer_of
others-uncounted w c f = looked.uncounted (view_of w) c f

-- .. One search looks at no more runs than half of the pages, rounded up, in the state as it is or as trim would leave it, ..
pub search-bounded : (w : List ℕ) (s : State) → state_of w ≡ some s → (n : ℕ) →
    ((searched n s).looked ≤ most_looked (total s.segments)) × ((searched n (trimmed s)).looked ≤ most_looked (total s.segments))
search-bounded w s e n = let v = (standing w s e).valid in (looked.search-bounded s v n, looked.second-bounded s v n)

-- .. and a request at no more than twice that: at none, where the words encode no state. ..
pub request-bounded : (w : List ℕ) (g n : ℕ) → (k : ℕ) × (looked_of (answer_of w (act (request g n))) ≡ some k) × (k ≤ 2 * most_looked (unwrap_or (pages_of (state_of w)) 0))
request-bounded w g n = by-account (λ y. (k : ℕ) × (looked_of (answer_of w (act (request g n))) ≡ some k) × (k ≤ 2 * most_looked (unwrap_or (pages_of (state_in y)) 0))) w
    (λ e. (0, ap looked_of (unserved-answer w e (request g n)), omega arith))
    (λ x e h. let b = looked.request-bounded x.state h.valid.state (ceiling_of x g) g n in (b.0, ap looked_of (answered w x e (request g n)) ∙ b.1, b.2))

-- .. Both bounds are met, in arenas of any number of pages, odd or even.
pub bounds-met : (n : ℕ) → 1 ≤ n → n ≤ most_pages → (w : List ℕ) × (s : State) × (state_of w ≡ some s) × (total s.segments ≡ n)
    × ((searched 2 s).looked ≡ most_looked n) × (answer_of w (act (request 2 8192)) ≡ Denied NoRoom (2 * most_looked n))
bounds-met n a b =
    let s = met.combed n in
    let x : Account = accounted (fresh_account n) s in
    let v = accounted-valid (fresh_account n) (fresh-account n a b) s (met.comb-valid n a b) (met.comb-total n ∙ omega arith) in
    let w = account_encoding x in
    let here : BeginsWith w x = take_all (length w) w (omega arith) in
    (w, s, ap state_in (account_of-some w x v here), met.comb-total n, met.search-met n, served-answer w x v here (request 2 8192) ∙ met.request-met n)

-- A live block begins at a multiple of every number that divides a page's bytes and the block's room, ..
pub block-aligned : (w : List ℕ) (s : State) → state_of w ≡ some s → (o : ℕ) (b : Block) → block_at (page_map s) o ≡ some b → (d : ℕ) → page_bytes % d ≡ 0 → room_of b % d ≡ 0 → o % d ≡ 0
block-aligned w s e o b f d p h = aligned.block-aligned (page_map s) o b f d p h

-- .. so an offset that is granted is a multiple of 8, of the step of its size, and from 8,192 bytes up of a page's bytes (`Aligned`).
pub grant-aligned : (w : List ℕ) (g n o : ℕ) → GrantedAt o (answer_of w (act (request g n))) → Aligned n o
grant-aligned w g n o h =
    let e = (grant-told o (answer_of w (act (request g n)))).0 h in
    by-account (λ _. Aligned n o) w
    (λ f. absurd (let u = sym (unserved-answer w f (request g n)) ∙ e.1 in let z : ◌≡◌ {A = ℕ} 0 1 = cc in omega arith))
    (λ x f h. aligned.grant-aligned x.state h.valid.state (ceiling_of x g) g n o e.0 (sym (answered w x f (request g n)) ∙ e.1))

-- A listing has at most as many bytes as that of as many direct blocks of one page, of group 12, as the arena has pages, ..
pub listing-longest : (w : List ℕ) (s : State) → state_of w ≡ some s → length (listing_text (page_map s)) ≤ longest (total s.segments)
listing-longest w s e = let v = (standing w s e).valid in lengths.listing-longest s.segments (all-writable false s.segments v.apart v.sound)

-- .. which are 2,220 at most, and no more than those of p pages where there are no more words than p pages need.
pub longest-any : (w : List ℕ) (s : State) → state_of w ≡ some s → longest (total s.segments) ≤ 2220
longest-any w s e = omega (arith, lengths.longest-grows (total s.segments) most_pages (standing w s e).valid.most, (lengths.longest-figures).1)

pub longest-few : (w : List ℕ) (s : State) → state_of w ≡ some s → (p : ℕ) → length w ≤ all_words p → longest (total s.segments) ≤ longest p
longest-few w s e p h = lengths.longest-grows (total s.segments) p (omega (arith, (standing w s e).long))

-- A buffer of so many bytes is answered with the listing's length, ..
pub listing-answered : (w : List ℕ) (s : State) → state_of w ≡ some s → (n : ℕ) → longest (total s.segments) ≤ n → answer_of w (act (listing n)) ≡ Counted (length (listing_text (page_map s)))
listing-answered w s e n h =
    let t = standing w s e in
    answered w t.account t.encoded (listing n)
    ∙ ap (λ r. (list_into n r).answer) t.state
    ∙ rw (le-leb (length (listing_text (page_map s))) n (omega (arith, listing-longest w s e)))

-- .. so 2,220 bytes are never too few, whatever the words, nor are those of p such blocks where there are no more words than p pages need.
enough : (w : List ℕ) (n : ℕ) → ((s : State) → state_of w ≡ some s → longest (total s.segments) ≤ n) → RefusedBy 12 (answer_of w (act (listing n))) → ⊥
enough w n h k =
    let r = (refusal-told ShortBuffer (answer_of w (act (listing n)))).0 k in
    by_state (λ _. ⊥) w
    (λ e. let u = sym (unserved-answer w e (listing n)) ∙ r in let z : ◌≡◌ {A = ℕ} 0 1 = cc in omega arith)
    (λ s e _. let u = sym (listing-answered w s e n (h s e)) ∙ r in let z : ◌≡◌ {A = ℕ} 0 1 = cc in omega arith)

pub never-short : (w : List ℕ) (n : ℕ) → 2220 ≤ n → RefusedBy 12 (answer_of w (act (listing n))) → ⊥
never-short w n h = enough w n (λ s e. omega (arith, longest-any w s e))

pub never-short-few : (w : List ℕ) (n p : ℕ) → length w ≤ all_words p → longest p ≤ n → RefusedBy 12 (answer_of w (act (listing n))) → ⊥
never-short-few w n p few h = enough w n (λ s e. omega (arith, longest-few w s e p few))

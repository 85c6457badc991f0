-- The lent words before and after a call, as the rules see them: a call leaves in the words the account that the rules leave, and
-- the words behind that account's own as they were. Assumes nothing.
use Prim.Native.Nat.{ℕ, ◌+◌, ◌-◌, ◌≤◌}
use mathlib.Core.Path.{◌≡◌, refl, sym, ap, ◌∙◌, subst}
use mathlib.Core.List.{List, ◌++◌}
use mathlib.Core.Option.{Option, none, some, none-ne-some}
use mathlib.Core.Bool.{true, ◌&&◌}
use native.Mathlib.Omega.{arith}
use lib.Dec.{leb}
use lib.ListN.{length, take, drop, length-append, length-drop, take-append-drop}
use lib.Seq.{take-append_seam, drop-append_seam, drop-drop}
use borrow.Author.Tests.{leb-true}
use Rattle.lemmas.proofs.Cases.{bool, and_left, and_right, some_inj, none-some}
use Rattle.model.specs.Numbers.{most_pages}
use Rattle.model.specs.declared.Refusal.TheVariants.{NoState}
use Rattle.model.specs.Arena.{total}
use Rattle.model.specs.State.{State}
use Rattle.model.specs.Holdings.{Account, accounted}
use Rattle.model.specs.Valid.{Valid, ValidAccount}
use Rattle.model.specs.Calls.{Action, query, listing, holdings, Command, init, act, is_refused, refusal_of}
use Rattle.model.specs.Perform.{serve, Metadata, all_words, on_account, perform}
use Rattle.model.proofs.Accounts as model
use Rattle.model.proofs.Accounts.{accounted-same, fresh-account, serve-account, perform-leaves}
use Rattle.model.proofs.Totals.{serve-total}
use Rattle.model.proofs.Validity.{list_same, fetch-same}
use Rattle.account.specs.Encoding.{account_encoding, BeginsWith}
use Rattle.account.specs.Decoding.{is_account, account_of}
use Rattle.account.proofs.Accounts.{account-valid, account-begins, account-long, account_of-some, front_fits}
use Rattle.calls.specs.Calls.{view_of, state_in, state_of, written, answer_of, meta_after}

-- Words in front of others --------------------------------------------------------------------------------------------------------

module _ {A : Type 0} (e w : List A) where
  -- Words that begin with e are e and what stands behind it.
  pub front_same : take (length e) w ≡ e → e ++ drop (length e) w ≡ w
  front_same b = ap (λ l. l ++ drop (length e) w) (sym b) ∙ take-append-drop (length e) w

  pub front_long : length e ≤ length w → length (e ++ drop (length e) w) ≡ length w
  front_long h = simp (length-append, length-drop) (omega arith)

  pub front-later : (k : ℕ) → drop (length e + k) (e ++ drop (length e) w) ≡ drop (length e + k) w
  front-later k = sym (drop-drop k (length e) (e ++ drop (length e) w)) ∙ ap (drop k) (drop-append_seam e (drop (length e) w)) ∙ drop-drop k (length e) w

-- The account that words encode ---------------------------------------------------------------------------------------------------

pub record Encodes (w : List ℕ) (x : Account) : Type 0 where
  pub valid : ValidAccount x
  pub begins : BeginsWith w x

pub encodes-of : (w : List ℕ) (x : Account) → account_of w ≡ some x → Encodes w x
unfolding account_of
encodes-of w x e = bool (is_account w)
    (λ t. subst (Encodes w) (some_inj (rw t at e)) (record { valid = account-valid w t; begins = account-begins w t }))
    (λ t. absurd (none-ne-some x (rw t at e)))

-- There are as many words as the arena's pages need.
pub encodes-long : (w : List ℕ) (x : Account) → Encodes w x → all_words (total x.state.segments) ≤ length w
encodes-long w x h = omega (arith, front_fits (account_encoding x) w h.begins, account-long x h.valid)

-- A claim about what words encode, by whether they encode an account.
pub by-account {ℓ} : (P : Option Account → Type ℓ) (w : List ℕ) → (account_of w ≡ none → P none) → ((x : Account) → account_of w ≡ some x → Encodes w x → P (some x)) → P (account_of w)
by-account P w f g = go (account_of w) refl
  where
    go : (y : Option Account) → account_of w ≡ y → P y
    go none e = f e
    go (some x) e = g x e (encodes-of w x e)

pub written-own : (w : List ℕ) → written w (account_of w) ≡ w
written-own w = by-account (λ y. written w y ≡ w) w (λ _. refl) (λ x _ h. front_same (account_encoding x) w h.begins)

-- What can be written into words: a valid account that has room. None is written only where there was none.
abbrev Writes : List ℕ → Option Account → Type 0
Writes w none = account_of w ≡ none
Writes w (some x) = ValidAccount x × (all_words (total x.state.segments) ≤ length w)

view-written : (w : List ℕ) (y : Option Account) → Writes w y → view_of (written w y) ≡ record { words = length w; account = y }
view-written w none h = λ i. record { words = length w; account = h i }
view-written w (some x) h = λ i. record {
  words = front_long (account_encoding x) w (omega (arith, h.1, account-long x h.0)) i;
  account = account_of-some (written w (some x)) x h.0 (take-append_seam (account_encoding x) (drop (length (account_encoding x)) w)) i;
}

-- What a call leaves --------------------------------------------------------------------------------------------------------------

-- The account that a call leaves of the account x.
abbrev pub following : Account → Action → Account
following x a = (serve x a).after

own-writes : (w : List ℕ) → Writes w (account_of w)
own-writes w = by-account (Writes w) w (λ e. e) (λ x _ h. (h.valid, encodes-long w x h))

-- What is claimed of the rules' outcome on the words w.
abbrev Lands : List ℕ → Metadata → Type 0
Lands w m = (m.words ≡ length w) × Writes w m.account

own-lands : (w : List ℕ) → Lands w (view_of w)
own-lands w = (refl, own-writes w)

perform-lands : (w : List ℕ) (c : Command) → Lands w (perform (view_of w) c).after
perform-lands w (init n) = bool (leb 1 n && leb n most_pages)
    (λ t. rw t (bool (leb (all_words n) (length w))
    (λ u. rw u (refl, (fresh-account n (leb-true 1 n (and_left (leb 1 n) (leb n most_pages) t)) (leb-true n most_pages (and_right (leb 1 n) (leb n most_pages) t)), omega (arith, leb-true (all_words n) (length w) u))))
    (λ u. rw u (own-lands w))))
    (λ t. rw t (own-lands w))
perform-lands w (act a) = by-account (λ y. Lands w (on_account (view_of w) a y).after) w
    (λ e. own-lands w)
    (λ x e h. (refl, (serve-account x h.valid a, omega (arith, serve-total x h.valid.state a, encodes-long w x h))))

meta_after-is : (w : List ℕ) (c : Command) → meta_after w c ≡ written w (perform (view_of w) c).after.account
unfolding meta_after
meta_after-is w c = refl

-- The words after a call are, to the rules, what the rules leave.
pub view-after : (w : List ℕ) (c : Command) → view_of (meta_after w c) ≡ (perform (view_of w) c).after
view-after w c =
    let m = (perform (view_of w) c).after in
    let h = perform-lands w c in
    ap view_of (meta_after-is w c) ∙ view-written w m.account h.1 ∙ (λ i. record { words = sym h.0 i; account = m.account })

-- No word is gained or lost.
pub same_length : (w : List ℕ) (c : Command) → length (meta_after w c) ≡ length w
same_length w c = ap (λ m. m.words) (view-after w c) ∙ (perform-lands w c).0

-- The words after a call are those before with the account written into them that they then encode.
pub after_is : (w : List ℕ) (c : Command) → meta_after w c ≡ written w (account_of (meta_after w c))
after_is w c = meta_after-is w c ∙ ap (λ m. written w m.account) (sym (view-after w c))

-- The words behind an account that was written.
pub written-later : (w : List ℕ) (x : Account) → ValidAccount x → (k : ℕ) → all_words (total x.state.segments) ≤ k → drop k (written w (some x)) ≡ drop k w
written-later w x v k h =
    let e : k ≡ length (account_encoding x) + (k - length (account_encoding x)) = omega (arith, account-long x v) in
    ap (λ j. drop j (written w (some x))) e ∙ front-later (account_encoding x) w (k - length (account_encoding x)) ∙ ap (λ j. drop j w) (sym e)

-- A refusal leaves every word; so do query, listing and holdings.
account-holds : (w : List ℕ) → model.Holds (account_of w)
account-holds w = by-account (λ y. model.Holds y) w (λ _. tt) (λ x _ h. h.valid)

pub refused-same : (w : List ℕ) (c : Command) → is_refused (answer_of w c) ≡ true → meta_after w c ≡ w
unfolding answer_of
refused-same w c r = meta_after-is w c ∙ ap (λ m. written w m.account) (perform-leaves (view_of w) c (account-holds w) r) ∙ written-own w

still-same : (w : List ℕ) (a : Action) → ((x : Account) → ValidAccount x → (serve x a).after ≡ x) → meta_after w (act a) ≡ w
still-same w a f = meta_after-is w (act a) ∙ by-account (λ y. written w (on_account (view_of w) a y).after.account ≡ w) w
    (λ e. written-own w)
    (λ x e h. ap (λ t. written w (some t)) (f x h.valid) ∙ front_same (account_encoding x) w h.begins)

pub query-same : (w : List ℕ) (o : ℕ) → meta_after w (act (query o)) ≡ w
query-same w o = still-same w (query o) accounted-same

pub listing-same : (w : List ℕ) (n : ℕ) → meta_after w (act (listing n)) ≡ w
listing-same w n = still-same w (listing n) (λ x v. ap (accounted x) (list_same n x.state) ∙ accounted-same x v)

pub holdings-same : (w : List ℕ) (n : ℕ) → meta_after w (act (holdings n)) ≡ w
holdings-same w n = still-same w (holdings n) (λ x v. ap (accounted x) (fetch-same n x.state) ∙ accounted-same x v)

-- A call on words that encode no account is refused.
pub unserved-answer : (w : List ℕ) → account_of w ≡ none → (a : Action) → answer_of w (act a) ≡ refusal_of a NoState
unfolding answer_of
unserved-answer w e a = ap (λ y. (on_account (view_of w) a y).answer) e

-- The account that a call leaves has as many words as the one before.
pub served-long : (x : Account) → ValidAccount x → (a : Action) → length (account_encoding (following x a)) ≡ length (account_encoding x)
served-long x v a = account-long (following x a) (serve-account x v a) ∙ ap (λ n. all_words n) (serve-total x v.state a) ∙ sym (account-long x v)

-- A call on words that begin with those of a valid account.
module _ (w : List ℕ) (x : Account) (v : ValidAccount x) (b : BeginsWith w x) (a : Action) where
  pub served-answer : answer_of w (act a) ≡ (serve x a).answer
  unfolding answer_of
  served-answer = ap (λ y. (on_account (view_of w) a y).answer) (account_of-some w x v b)

  pub served-words : meta_after w (act a) ≡ written w (some (following x a))
  served-words = meta_after-is w (act a) ∙ ap (λ y. written w (on_account (view_of w) a y).after.account) (account_of-some w x v b)

-- So on words of which it is known that they encode the account.
pub answered : (w : List ℕ) (x : Account) → account_of w ≡ some x → (a : Action) → answer_of w (act a) ≡ (serve x a).answer
answered w x e a = let h = encodes-of w x e in served-answer w x h.valid h.begins a

-- The state of the account that words encode ----------------------------------------------------------------------------------------

-- What is known of words whose account has the state s.
pub record Standing (w : List ℕ) (s : State) : Type 0 where
  pub account : Account
  pub encoded : account_of w ≡ some account
  pub state : account.state ≡ s
  pub valid : Valid s
  pub long : all_words (total s.segments) ≤ length w

standing-at : (w : List ℕ) (x : Account) → account_of w ≡ some x → Standing w x.state
standing-at w x e =
    let h = encodes-of w x e in
    record { account = x; encoded = e; state = refl; valid = h.valid.state; long = encodes-long w x h }

pub standing : (w : List ℕ) (s : State) → state_of w ≡ some s → Standing w s
standing w s = by-account (λ y. state_in y ≡ some s → Standing w s) w
    (λ _ n. none-some n)
    (λ x e _ n. subst (Standing w) (some_inj n) (standing-at w x e))

-- A claim about the state of words, by whether they encode an account.
pub by_state {ℓ} : (P : Option State → Type ℓ) (w : List ℕ) → (account_of w ≡ none → P none) → ((s : State) → state_of w ≡ some s → Standing w s → P (some s)) → P (state_of w)
by_state P w f g = by-account (λ y. P (state_in y)) w f (λ x e _. g x.state (ap state_in e) (standing-at w x e))

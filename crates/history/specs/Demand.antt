-- Demand 3 of the customer's letter, with what document 02's e) supposes, as one claim about a whole list of calls on the same lent
-- words. It is stated over any kind B of lent words: `view` says how many words there are and which account they encode, `next` what a
-- call leaves, `says` what it answers. `Demand3`, and `LedgerAgrees` about the live blocks that it speaks of, are proved for every B on
-- which a call leaves and answers what the rules say (proofs/Theorem.antt). Assumes nothing.
use Rattle.std.specs.Prelude.{ℕ, suc, ◌≤◌, ◌<◌, ◌≡◌, ◌⊎◌, true, false}
use mathlib.Core.List.{List, [], ◌∷◌, ◌++◌, Memᴰ}
use Rattle.std.proofs.Math.Option.{Option, none, some}
use Rattle.model.specs.Numbers.{large_size}
use Rattle.model.specs.declared.Operation.{Operation}
use Rattle.model.specs.declared.Operation.TheVariants.{Allocate, Free, Reset}
use Rattle.model.specs.declared.Answer.{Answer}
use Rattle.model.specs.Sizes.{pages_for}
use Rattle.model.specs.PageMap.{PageMap, page_map, chunk, block_at}
use Rattle.model.specs.Holdings.{Account, ceiling_of}
use Rattle.model.specs.Ceilings.{within}
use Rattle.model.specs.Calls.{Action, group, trim, query, listing, holdings, ceiling, Command, init, act, is_refused, DeniedBy, GrantedAt, group_ok, size_ok}
use Rattle.model.specs.Perform.{Metadata}
use Rattle.history.specs.Ledger.{Held, begins, effect, applied, ceiling_by, Agrees}
use Rattle.history.specs.Rows.{Row}

-- The page map of the state that words encode.
abbrev pub map_of : Option Account → Option PageMap
map_of none = none
map_of (some a) = some (page_map a.state)

module _ (B : Type 0) (view : B → Metadata) (next : B → Command → B) (says : B → Command → Answer) where
  abbrev pub map_at : B → Option PageMap
  map_at b = map_of (view b).account

  -- Lists of calls ----------------------------------------------------------------------------------------------------------

  -- The words, the live blocks and the ceilings, by group, that the calls so far have left, and how many calls there were.
  pub record History : Type 0 where
    pub lent : B
    pub live : List Held
    pub ceiling : ℕ → ℕ
    pub calls : ℕ

  abbrev pub after : History → Command → History
  after w c =
      let a = says w.lent c in
      record { lent = next w.lent c; live = applied w.calls (effect c a) w.live; ceiling = ceiling_by c a w.ceiling; calls = suc w.calls }

  abbrev pub after_all : History → List Command → History
  after_all w [] = w
  after_all w (c ∷ l) = after_all (after w c) l

  -- Words b after a start of n pages, which is call number 0.
  abbrev pub begun : B → ℕ → History
  begun b n = after (record { lent = b; live = []; ceiling = λ _. 0; calls = 0 }) (init n)

  -- No further start, unless that is refused.
  abbrev pub NoStart : History → List Command → Type 0
  NoStart w [] = Unit {0}
  NoStart w (c ∷ l) = (effect c (says w.lent c) ≡ begins → ⊥) × NoStart (after w c) l

  -- Every group has one ceiling in both. (So in between it may have been set, if it was set back; a refused setting sets nothing.)
  abbrev pub SameCeilings : History → History → Type 0
  SameCeilings w v = (g : ℕ) → group_ok g ≡ true → v.ceiling g ≡ w.ceiling g

  -- The sequence after the trimming -----------------------------------------------------------------------------------------

  abbrev pub asks : ℕ → Operation → Command
  asks g q = act (group (record { group = g; operation = q }))

  -- A request from 8,192 bytes up, or a return by which no chunk comes back: if it names a live chunk, it is refused. (Where words have
  -- no page map this asks nothing, so that more sequences are claimed of; the claim itself gives a page map before every call.)
  abbrev pub AllowedAsked : B → ℕ → Operation → Type 0
  AllowedAsked b g (Allocate n) = large_size ≤ n
  AllowedAsked b g (Free o) = (m : PageMap) → map_at b ≡ some m → (c i h : ℕ) → block_at m o ≡ some (chunk c i h) → is_refused (says b (asks g (Free o))) ≡ true
  AllowedAsked b g Reset = ⊥

  -- Between them any ceiling may be set: what is claimed of a sequence in which none changes (document 02) holds of these, too, as the
  -- same ones are set on both words.
  abbrev pub Allowed : B → Action → Type 0
  Allowed b (group c) = AllowedAsked b c.group c.operation
  Allowed b trim = ⊥
  Allowed b (query o) = ⊥
  Allowed b (listing n) = ⊥
  Allowed b (holdings n) = ⊥
  Allowed b (ceiling g c) = Unit {0}

  abbrev pub Sequence : B → List Action → Type 0
  Sequence b [] = Unit {0}
  Sequence b (a ∷ l) = Allowed b a × Sequence (next b (act a)) l

  -- The list of answers.
  abbrev pub answers_to : B → List Action → List Answer
  answers_to b [] = []
  answers_to b (a ∷ l) = says b (act a) ∷ answers_to (next b (act a)) l

  -- A request of legal group and size, within the ceiling, is refused, by 6, exactly when no row of as many pages as it needs is clear.
  pub record Exactly (b : B) (g n : ℕ) (m : PageMap) : Type 0 where
    pub refused : (Row (pages_for n) m → ⊥) → DeniedBy 6 (says b (asks g (Allocate n)))
    pub granted : Row (pages_for n) m → (o : ℕ) × GrantedAt o (says b (asks g (Allocate n)))

  abbrev pub ExactAsked : B → Account → ℕ → Operation → Type 0
  ExactAsked b x g (Allocate n) =
      let m = page_map x.state in group_ok g ≡ true → size_ok n ≡ true → within (ceiling_of x g) g n m ≡ true → Exactly b g n m
  ExactAsked b x g (Free o) = Unit {0}
  ExactAsked b x g Reset = Unit {0}

  abbrev pub ExactCall : B → Account → Action → Type 0
  ExactCall b x (group c) = ExactAsked b x c.group c.operation
  ExactCall b x trim = Unit {0}
  ExactCall b x (query o) = Unit {0}
  ExactCall b x (listing n) = Unit {0}
  ExactCall b x (holdings n) = Unit {0}
  ExactCall b x (ceiling g c) = Unit {0}

  -- Just before every call of the sequence the words encode an account, and the rule on refusals speaks of its page map and ceilings.
  abbrev pub Exact : B → List Action → Type 0
  Exact b [] = Unit {0}
  Exact b (a ∷ l) = ((x : Account) × ((view b).account ≡ some x) × ExactCall b x a) × Exact (next b (act a)) l

  -- What is claimed of the words trimmed at the split point, m, and of those trimmed at the end, e: the same page map; in every such
  -- sequence refusals exactly as said; and, if `same` is so, for every such sequence the same list of answers.
  -- (Equal answers are of one kind, and have the same offset, number and count where they have one.)
  pub record Alike (same : Type 0) (m e : B) : Type 0 where
    pub map : (x : PageMap) × (map_at m ≡ some x) × (map_at e ≡ some x)
    pub answers : same → (q : List Action) → Sequence m q ⊎ Sequence e q → answers_to m q ≡ answers_to e q
    pub exact-split : (q : List Action) → Sequence m q → Exact m q
    pub exact-end : (q : List Action) → Sequence e q → Exact e q

  -- The claim ---------------------------------------------------------------------------------------------------------------

  -- Words b, whatever they hold; a start of n pages that is not refused; the calls up to the split point (the letter: the moment);
  -- and the calls from there to the end, the stretch. Where answers are compared, `supposed` is supposed of the stretch.
  abbrev pub Claim : (History → List Command → Type 0) → Type 0
  Claim supposed = (b : B) (n : ℕ) (first stretch : List Command) →
      let start : History = begun b n in
      let split : History = after_all start first in
      let end : History = after_all split stretch in
      is_refused (says b (init n)) ≡ false →
      NoStart start (first ++ stretch) →
      -- every block granted in the stretch came back during it
      ((h : Held) → Memᴰ h end.live → h.serial < split.calls) →
      -- no block live at its beginning did
      ((h : Held) → Memᴰ h split.live → Memᴰ h end.live) →
      -- trimming at the end leaves what trimming at the split point, on a copy of the words, would have left
      Alike (supposed split stretch) (next split.lent (act trim)) (next end.lent (act trim))

  -- DEMAND 3. What is supposed is that the stretch leaves every ceiling as it was.
  unfoldable pub Demand3 : Type 0
  Demand3 = Claim (λ split stretch. SameCeilings split (after_all split stretch))

  -- Demand 3 speaks of demand 2's live blocks: after a start that is not refused, and any calls without a further start that is not
  -- refused, the words have a page map, and the blocks that calls and answers tell are its live blocks. As this is so of every list, it
  -- is so after each call of one: a start leaves no block live; a request that is granted makes one block live, at its offset, with its
  -- group and room; that block comes back with a return that names its offset, or with a reset of its group, neither refused; nothing
  -- else makes a block live or ends it.
  unfoldable pub LedgerAgrees : Type 0
  LedgerAgrees = (b : B) (n : ℕ) (calls : List Command) →
      let end : History = after_all (begun b n) calls in
      is_refused (says b (init n)) ≡ false →
      NoStart (begun b n) calls →
      (m : PageMap) × (map_at end.lent ≡ some m) × Agrees end.live m

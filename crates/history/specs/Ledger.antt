-- The live blocks of a list of calls, told from the calls and their answers alone (document 01, "Demand 3, word by word"), and what
-- it is that they are those of a page map; and the groups' ceilings, told so too (document 02, e). Assumes nothing.
use Rattle.std.specs.Prelude.{ℕ, ◌≡◌, ◌↔◌, cond, not, eqb}
use mathlib.Core.List.{List, [], ◌∷◌, Memᴰ}
use Rattle.std.proofs.Math.Option.{Option, none, some}
use Rattle.lemmas.specs.Keep.{keep}
use Rattle.model.specs.Numbers.{most_bytes}
use Rattle.model.specs.declared.Operation.{Operation}
use Rattle.model.specs.declared.Operation.TheVariants.{Allocate, Free, Reset}
use Rattle.model.specs.declared.Answer.{Answer}
use Rattle.model.specs.Sizes.{room_for}
use Rattle.model.specs.PageMap.{PageMap, Block, group_of, room_of, block_at}
use Rattle.model.specs.Calls.{Action, group, trim, query, listing, holdings, ceiling, Command, init, act, is_refused, grant_of}

-- A live block: the number of the call that was granted it, its offset, its group and its room. The number tells a block from
-- another that is granted later at the same offset.
pub record Held : Type 0 where
  pub serial : ℕ
  pub offset : ℕ
  pub group : ℕ
  pub room : ℕ

-- What a call does to the live blocks.
pub data Effect : Type 0 where
  -- no block is live: a start that is not refused
  begins : Effect
  -- a block becomes live, at an offset, with a group and a room: a request that is granted
  grants : ℕ → ℕ → ℕ → Effect
  -- the block at an offset comes back: a return that is not refused
  ends : ℕ → Effect
  -- every block of a group comes back: a reset that is not refused
  ends_all : ℕ → Effect
  -- anything else
  nothing : Effect

abbrev pub of_grant : ℕ → ℕ → Option ℕ → Effect
of_grant g n none = nothing
of_grant g n (some o) = grants o g (room_for n)

abbrev pub unless_refused : Answer → Effect → Effect
unless_refused a e = cond (is_refused a) nothing e

abbrev pub of_operation : ℕ → Operation → Answer → Effect
of_operation g (Allocate n) a = of_grant g n (grant_of a)
of_operation g (Free o) a = unless_refused a (ends o)
of_operation g Reset a = unless_refused a (ends_all g)

abbrev pub of_action : Action → Answer → Effect
of_action (group c) a = of_operation c.group c.operation a
of_action trim a = nothing
of_action (query o) a = nothing
of_action (listing n) a = nothing
of_action (holdings n) a = nothing
of_action (ceiling g c) a = nothing

abbrev pub effect : Command → Answer → Effect
effect (init n) a = unless_refused a begins
effect (act x) a = of_action x a

-- The live blocks after call number i.
abbrev pub applied : ℕ → Effect → List Held → List Held
applied i begins l = []
applied i (grants o g r) l = record { serial = i; offset = o; group = g; room = r } ∷ l
applied i (ends o) l = keep (λ h. not (eqb h.offset o)) l
applied i (ends_all g) l = keep (λ h. not (eqb h.group g)) l
applied i nothing l = l

-- A block that is held has this offset, group and room; a live block of the page map begins at this offset, with this group and room.
abbrev pub HeldAt : List Held → ℕ → ℕ → ℕ → Type 0
HeldAt l o g r = (h : Held) × Memᴰ h l × (h.offset ≡ o) × (h.group ≡ g) × (h.room ≡ r)

abbrev pub LiveAt : PageMap → ℕ → ℕ → ℕ → Type 0
LiveAt m o g r = (b : Block) × (block_at m o ≡ some b) × (group_of b ≡ g) × (room_of b ≡ r)

-- The blocks that are held are the live blocks of the page map, and no two of them have one offset.
pub record Agrees (l : List Held) (m : PageMap) : Type 0 where
  pub blocks : (o g r : ℕ) → HeldAt l o g r ↔ LiveAt m o g r
  pub single : (h k : Held) → Memᴰ h l → Memᴰ k l → h.offset ≡ k.offset → h ≡ k

-- The ceiling of the group h after a call, where those of all groups were as k tells: a start that is not refused sets every one to
-- 1,048,576, a setting that is not refused sets that of its group, nothing else sets any.
abbrev pub set_by : Action → Answer → (ℕ → ℕ) → ℕ → ℕ
set_by (group c) a k h = k h
set_by trim a k h = k h
set_by (query o) a k h = k h
set_by (listing n) a k h = k h
set_by (holdings n) a k h = k h
set_by (ceiling g c) a k h = cond (is_refused a) (k h) (cond (eqb h g) c (k h))

abbrev pub ceiling_by : Command → Answer → (ℕ → ℕ) → ℕ → ℕ
ceiling_by (init n) a k h = cond (is_refused a) (k h) most_bytes
ceiling_by (act x) a k h = set_by x a k h

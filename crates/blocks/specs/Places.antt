-- What the search for a block answers: the live block of the rules, and where it stands. Assumes nothing.
use Rattle.std.specs.Prelude.{ℕ, ◌+◌, ◌*◌, ◌≡◌, get_or, Option, Some, None, Result, Ok, Err}
use Rattle.std.proofs.Math.Option.{none, some}
use Rattle.model.specs.declared.Refusal.{Refusal}
use Rattle.model.specs.declared.Answer.{Answer}
use Rattle.model.specs.declared.Answer.TheVariants as answer
use Rattle.model.specs.Numbers.{page_bytes}
use Rattle.model.specs.Sizes.{room}
use Rattle.model.specs.Arena.{direct, zone}
use Rattle.model.specs.Zone.{Zone}
use Rattle.model.specs.State.{State}
use Rattle.model.specs.PageMap.{page_map, whole, chunk, block_at}
use Rattle.pages.specs.Places.{Stands}
use Rattle.blocks.specs.declared.Block.{Block}
use Rattle.blocks.specs.declared.Block.TheVariants.{Whole, Chunk}
use Rattle.blocks.specs.declared.Told.{Told}

-- The block that is told is the live one that begins at the byte o; what is answered tells of it, or of none.
abbrev pub TellsBlock : State → ℕ → Block → Type 0
TellsBlock s o (Whole p len g) = (block_at (page_map s) o ≡ some (whole len g)) × Stands s.segments p.at p.before (direct len g) × (p.at * page_bytes ≡ o)
TellsBlock s o (Chunk p c i g) =
    (block_at (page_map s) o ≡ some (chunk c i g))
    × ((z : Zone) × Stands s.segments p.at p.before (zone z) × (z.class ≡ c) × (get_or z.owners i 0 ≡ g))
    × (p.at * page_bytes + i * room c ≡ o)

abbrev pub Tells : State → ℕ → Option Block → Type 0
Tells s o (Some b) = TellsBlock s o b
Tells s o None = block_at (page_map s) o ≡ none

-- What a query answers.
abbrev pub block_answer : Result Told Refusal → Answer
block_answer (Ok t) = answer.Block t.group t.room
block_answer (Err k) = answer.Refused k

-- `Part::owner` meets its contract. Assumes nothing.
use Prim.Native.Nat.{◌+◌}
use mathlib.Core.Path.{◌≡◌, sym, ap, ◌∙◌}
use Rattle.std.proofs.Common.{get_or, rules}
use Rattle.zone.specs.Encoding.{head_words}
use Rattle.zone.specs.Decoding.{owner_in}
use Rattle.zone.proofs.Decoded.{owner-live, owner-none}
use Rattle.zone.proofs.Figures.{owner-read}
use Rattle.zone.proofs.Part.owner.Goals as goal
use Rattle.zone.proofs.Part.owner.Goals.{After-unwrap_or-slot}

-- The slot that is looked at, 0 where there is none.
slot-is : (c : After-unwrap_or-slot) → c.unwrap_or-slot.result ≡ get_or c.args.self.words.now (head_words + c.args.chunk) 0
slot-is c = search rules

pub returns-then-state-lt-POSITION_BASE : goal.returns-then-state-lt-POSITION_BASE
returns-then-state-lt-POSITION_BASE c =
    sym (owner-live _ c.if-state-lt-POSITION_BASE.true)
    ∙ ap owner_in (slot-is (goal.at.returns-then-state-lt-POSITION_BASE c).After-unwrap_or-slot)
    ∙ owner-read _ c.args.self.valid c.args.chunk

pub returns-else-state-lt-POSITION_BASE : goal.returns-else-state-lt-POSITION_BASE
returns-else-state-lt-POSITION_BASE c =
    sym (owner-none _ c.if-state-lt-POSITION_BASE.false)
    ∙ ap owner_in (slot-is (goal.at.returns-else-state-lt-POSITION_BASE c).After-unwrap_or-slot)
    ∙ owner-read _ c.args.self.valid c.args.chunk

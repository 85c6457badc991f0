-- `find_block` meets its contract. Assumes nothing.
use mathlib.Core.Path.{sym, subst}
use native.Mathlib.Omega.{arith}
use Rattle.metadata.specs.Decoding.{decode}
use Rattle.blocks.specs.Places.{Tells}
use Rattle.blocks.proofs.Spots.{Held, held, nowhere, held-zone, held-run, held-direct, held-inside, held_whole, held-chunk}
use Rattle.blocks.proofs.find_block.Goals as goal
use Rattle.blocks.proofs.find_block.Goals.{In_ok-start}

-- The segment that was found holds the byte.
here : (c : In_ok-start) → Held (decode c.args.words.now) c.args.offset c.in_ok-start.field-0
here c = held c.requires _ _ c.find_segment.ensures _ c.in_ok-start.was

pub returns-in_err-start : goal.returns-in_err-start
returns-in_err-start c = subst (Tells (decode c.args.words.now) c.args.offset) (sym c.from_residual.ensures) (nowhere c.requires _ _ c.find_segment.ensures c.in_err-start.was)

pub overflow_cast-away : goal.overflow_cast-away
overflow_cast-away c = let h = here (goal.at.overflow_cast-away c).In_ok-start in omega (arith, h.few)

pub overflow_mul-away : goal.overflow_mul-away
overflow_mul-away c = let h = here (goal.at.overflow_mul-away c).In_ok-start in omega (arith, h.few)

pub overflow_sub-away : goal.overflow_sub-away
overflow_sub-away c = (here (goal.at.overflow_sub-away c).In_ok-start).low

pub find_chunk-requires-clause-inside_zone : goal.find_chunk-requires-clause-inside_zone
find_chunk-requires-clause-inside_zone c = held-zone (here (goal.at.find_chunk-requires-clause-inside_zone c).In_ok-start) c.in-Zone.is

pub group_at-group-requires-clause-placed : goal.group_at-group-requires-clause-placed
group_at-group-requires-clause-placed c =
    let t = held-direct (here (goal.at.group_at-group-requires-clause-placed c).In_ok-start) c.in-Direct.is in (_, _, t.0, t.1)

pub returns-in-Zone : goal.returns-in-Zone
returns-in-Zone c = held-chunk (here (goal.at.returns-in-Zone c).In_ok-start) c.find_chunk.result c.find_chunk.ensures

pub returns-in-Direct : goal.returns-in-Direct
returns-in-Direct c = held-inside (here (goal.at.returns-in-Direct c).In_ok-start) c.in-Direct.is c.if-away-ne0.true

pub returns-in-Direct-2 : goal.returns-in-Direct-2
returns-in-Direct-2 c = held_whole (here (goal.at.returns-in-Direct-2 c).In_ok-start) c.in-Direct.is c.if-away-ne0.false c.group_at-group.result c.group_at-group.ensures

pub returns-in-Run : goal.returns-in-Run
returns-in-Run c = held-run (here (goal.at.returns-in-Run c).In_ok-start) c.in-Run.is

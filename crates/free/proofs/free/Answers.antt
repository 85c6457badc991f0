-- `free` meets its contract. Assumes nothing.
use mathlib.Core.Path.{sym, ◌∙◌, ap, subst}
use Rattle.std.specs.Prelude.{Some}
use Rattle.metadata.specs.Encoding.{encode}
use Rattle.metadata.specs.Decoding.{decode}
use Rattle.blocks.specs.Places.{Tells}
use Rattle.steps.proofs.Outcomes.{by-rule}
use Rattle.free.proofs.Answers.{free-done, chunk-freed}
use Rattle.free.proofs.free.Goals as goal

pub returns-else-holder-group : goal.returns-else-holder-group
returns-else-holder-group c =
    let s = decode c.args.words.now in
    let t = subst (Tells s c.args.offset) (c.in_ok-start.ensures.ok_part ∙ ap Some c.in-Chunk.is) c.find_block.ensures in
    by-rule _ _ _ (free-done s c.args.group c.args.offset c.in_ok-try_from.ensures.1 _ t.0 c.if-holder-group.false)
    (c.chunk_back.ensures.words_after ∙ ap encode (sym (chunk-freed s _ _ t)))

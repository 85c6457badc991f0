-- `grant` meets its contract: an untouched chunk, else the one returned last. Assumes nothing.
use Prim.Native.Nat.{◌≤◌, ◌<◌}
use mathlib.Core.Path.{◌≡◌, sym, ◌∙◌}
use mathlib.Core.Bool.{true, false}
use native.Mathlib.Omega.{arith}
use borrow.Author.Tests.{ltb-true, ltb-false}
use Rattle.model.specs.Sizes.{chunks}
use Rattle.zone.specs.Decoding.{class_in, touched_in}
use Rattle.zone.proofs.Figures.{zone-size, class-small, touched-few, hand-out-words, taken}
use Rattle.zone.proofs.Words.{words-encoding}
use Rattle.zone.proofs.grant.Goals as goal
use Rattle.zone.proofs.grant.Goals.{After-has_chunk}

-- Whether a chunk is untouched, by what was asked.
left : (c : After-has_chunk) → c.has_chunk.result ≡ true → touched_in c.args.part.now < chunks (class_in c.args.part.now)
left c t = ltb-true _ _ (sym c.has_chunk.ensures ∙ t)

gone : (c : After-has_chunk) → c.has_chunk.result ≡ false → chunks (class_in c.args.part.now) ≤ touched_in c.args.part.now
gone c t = ltb-false _ _ (sym c.has_chunk.ensures ∙ t)

pub bounds-part-1 : goal.bounds-part-1
bounds-part-1 c = omega (arith, zone-size _ c.requires.0)

pub bounds-part-2 : goal.bounds-part-2
bounds-part-2 c = omega (arith, zone-size _ c.requires.0)

pub has_chunk-requires : goal.has_chunk-requires
has_chunk-requires c = let e = c.requires.0 in (class-small _ e, touched-few _ e)

pub hand_out-requires : goal.hand_out-requires
hand_out-requires c =
    let p = c.requires in
    let g = c.args.group in
    (zone-size _ p.0, (hand-out-words _ p.0 _ g.least g.most (left (goal.at.hand_out-requires c).After-has_chunk c.if-has_chunk.true)).0)

pub returns-then-has_chunk : goal.returns-then-has_chunk
returns-then-has_chunk c =
    let p = c.requires in
    let g = c.args.group in
    let r = hand-out-words _ p.0 _ g.least g.most (left (goal.at.returns-then-has_chunk c).After-has_chunk c.if-has_chunk.true) in (r.1, c.hand_out.ensures ∙ r.2)

pub take_last-requires : goal.take_last-requires
take_last-requires c =
    let p = c.requires in
    let g = c.args.group in
    ((taken _ p.0 _ g.least g.most p.1 (gone (goal.at.take_last-requires c).After-has_chunk c.if-has_chunk.false)).asks, omega (arith, g.most))

pub returns-else-has_chunk : goal.returns-else-has_chunk
returns-else-has_chunk c =
    let p = c.requires in
    let g = c.args.group in
    let r = taken _ p.0 _ g.least g.most p.1 (gone (goal.at.returns-else-has_chunk c).After-has_chunk c.if-has_chunk.false) in (c.take_last.ensures.0 ∙ r.chunk-is, c.take_last.ensures.1 ∙ words-encoding r.words_are)

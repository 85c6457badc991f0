-- `slots::are_legal` meets its contract, part by part. Assumes nothing.
use Prim.Native.Nat.{◌+◌, ◌-◌, ◌*◌}
use mathlib.Core.Path.{◌≡◌, sym, ◌∙◌}
use native.Mathlib.Omega.{arith}
use borrow.Author.Tests.{lt-ltb, le-ltb}
use Rattle.lemmas.proofs.Cases.{by-lt}
use Rattle.zone.specs.Encoding.{slot_count, half}
use Rattle.zone.proofs.Scans.{slots-full, slots-far, slots-uncounted, slots-placed}
use Rattle.zone.proofs.slots.are_legal.Goals as goal

pub returns-then-upper-ge-HALF : goal.returns-then-upper-ge-HALF
returns-then-upper-ge-HALF c = slots-full c.args.slots.now c.args.touched c.args.chained (sym c.survey-upper.ensures.1 ∙ le-ltb _ _ c.if-upper-ge-HALF.true)

pub returns-then-lower-upper : goal.returns-then-lower-upper
returns-then-lower-upper c =
    let upper = c.survey-upper in
    let lower = c.survey-lower in
    let bare = sym upper.ensures.1 ∙ lt-ltb upper.result.seen half (omega arith) in
    let live : lower.result.live + upper.result.live ≡ c.args.touched - c.args.chained = grind arith in
    c.are_in_place.ensures ∙ slots-placed c.args.slots.now c.args.touched c.args.chained (omega arith) bare (omega (arith, live, upper.ensures.0, lower.ensures.0))

pub returns-else-lower-upper : goal.returns-else-lower-upper
returns-else-lower-upper c =
    let s = c.args.slots.now in
    let k = c.args.touched in
    let m = c.args.chained in
    let upper = c.survey-upper in
    let lower = c.survey-lower in
    c.if-lower-upper.false
    ∙ by-lt lower.result.seen (half * slot_count)
    (λ b. slots-uncounted s k m (omega arith) (λ e. let live : lower.result.live + upper.result.live ≡ k - m = omega (arith, e, upper.ensures.0, lower.ensures.0) in grind arith))
    (λ b. slots-far s k m (omega arith) (omega arith) (sym lower.ensures.2 ∙ le-ltb _ _ b))

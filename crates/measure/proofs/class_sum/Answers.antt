-- `class_sum` meets its contract. Assumes nothing.
use Rattle.std.proofs.Common.{ℕ, List}
use Rattle.measure.proofs.Sums.{added_none, added_more}
use Rattle.measure.proofs.class_sum.Goals as goal

pub loop-number-init : goal.loop-number-init
loop-number-init g c = added_none c.args.numbers.now

pub loop-number-preserved : goal.loop-number-preserved
loop-number-preserved g c =
    let s : List ℕ = c.args.numbers.now in
    let size = c.size_from.ensures in
    let class = c.requires.exact c.size_from.result c.find_class.result size.1 size.2 c.find_class.ensures in
    added_more s c.loop-number.number-index c.loop-number-test.true c.loop-number.invariant size.0 class c.wrapping_add_u32-sum.ensures.value

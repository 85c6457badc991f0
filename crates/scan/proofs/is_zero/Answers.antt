-- `is_zero` meets its contract, by what `block_is_zero` answered for the blocks and for the words behind them. Assumes nothing.
use Rattle.std.proofs.Common.{arith, rules, tests, refl, ◌∙◌, ap}
use Rattle.lemmas.specs.Every.{every}
use Rattle.lemmas.specs.Zeros.{is_zero}
use Rattle.scan.proofs.Blocks.{blocks-zero, block-wrong}
use Rattle.scan.proofs.is_zero.Goals as goal

pub returns-then-all : goal.returns-then-all
returns-then-all c =
    let cut = c.chunks_exact-blocks.ensures in
    let (p, from, run) = c.if-all.ensures.runs in
    let blocks = rw (from, cut.size, cut.rest) at (cut.runs p p.seen (rw (from, cut.size) (omega arith))) in
    let rest = blocks-zero p 64 c.args.s blocks run.0 (run.1 (λ _ _ _ _. refl)) (λ x h. search (rules, tests)) in
    c.block_is_zero.ensures ∙ ap (every is_zero) (c.remainder-rest.ensures ∙ cut.remainder) ∙ rest

pub returns-else-all : goal.returns-else-all
returns-else-all c =
    let cut = c.chunks_exact-blocks.ensures in
    let (p, from, run) = c.if-all.ensures.runs in
    let blocks = rw (from, cut.size, cut.rest) at (cut.runs p p.seen (rw (from, cut.size) (omega arith))) in
    c.if-all.false ∙ block-wrong p 64 c.args.s blocks (run (λ _ _ _ _. refl)) (λ x h. search (rules, tests))

-- `block_is_zero` meets its contract: the fold is the or of the words. Assumes nothing.
use Rattle.std.specs.Prelude.{fold}
use Rattle.std.proofs.Common.{◌≡◌, ap, ◌∙◌, nat_eq, bit_or, ℕ, arith}
use Rattle.std.proofs.lemmas.Grind.{common_steps}
use Rattle.scan.proofs.Folding.{or-all}
use Rattle.scan.proofs.block_is_zero.Goals as goal

pub returns : goal.returns
returns c =
    let e : c.fold.result ≡ fold bit_or 0 c.args.s.now = grind (arith, common_steps) in
    ap (λ (n : ℕ). nat_eq n 0) e ∙ or-all c.args.s.now

-- `uplink::put_block` meets its contract. Assumes nothing.
use mathlib.Core.List.{[], ◌∷◌}
use mathlib.Core.Path.{ap, ◌∙◌}
use native.Mathlib.Omega.{arith}
use Rattle.model.specs.Text.{line}
use Rattle.text.proofs.Left.{wrote_as}
use Rattle.uplink.proofs.Says.{pair-bounded, pair-short}
use Rattle.uplink.proofs.answers.put_block.Goals as goal

pub put_line-requires : goal.put_line-requires
put_line-requires c =
    pair-bounded _ _ _ c.requires (omega arith) (omega arith)

pub returns : goal.returns
returns c = record {
  wrote = wrote_as (ap (λ n. line (n ∷ c.from-2.result ∷ [])) c.from.ensures ∙ ap (λ n. line (c.args.group ∷ n ∷ [])) c.from-2.ensures) c.put_line.ensures;
  upper_bound = pair-short _ _ c.put_line.ensures (omega arith) (omega arith);
}

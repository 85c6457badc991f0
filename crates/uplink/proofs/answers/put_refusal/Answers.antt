-- `uplink::put_refusal` meets its contract. Assumes nothing.
use mathlib.Core.Path.{ap, ◌∙◌}
use native.Mathlib.Omega.{arith}
use Rattle.model.specs.Ascii.{ascii}
use Rattle.text.specs.Writing.{named}
use Rattle.text.proofs.Left.{wrote_as}
use Rattle.uplink.proofs.Says.{named-bounded, named-short}
use Rattle.uplink.proofs.answers.put_refusal.Goals as goal

pub put_named-requires : goal.put_named-requires
put_named-requires c = named-bounded _ _ _ c.requires (omega arith) (omega arith)

pub returns : goal.returns
unfolding ascii
returns c = record {
  wrote = wrote_as (ap (named (ascii "no")) (c.from-2.ensures ∙ c.from.ensures)) c.put_named.ensures;
  upper_bound = named-short _ _ c.put_named.ensures (omega arith) (omega arith);
}

-- `uplink::put_answer` meets its contract: each kind of answer has its text. Assumes nothing.
use native.Mathlib.Omega.{arith}
use Rattle.model.specs.Ascii.{ascii}
use Rattle.text.proofs.Left.{wrote_as}
use Rattle.uplink.proofs.Says.{named-bounded, named-short, says-granted, says-no, says-done, says-counted, says-block}
use Rattle.uplink.proofs.answers.put_answer.Goals as goal

pub put_named-requires : goal.put_named-requires
put_named-requires c =
    named-bounded _ _ _ c.requires (omega arith) (omega arith)

pub put_named-requires-in-Counted : goal.put_named-requires-in-Counted
put_named-requires-in-Counted c =
    named-bounded _ _ _ c.requires (omega arith) (omega arith)

pub returns-in-Granted : goal.returns-in-Granted
unfolding ascii
returns-in-Granted c = record {
  wrote = wrote_as (says-granted c.in-Granted.is c.from.ensures) c.put_named.ensures;
  upper_bound = named-short _ _ c.put_named.ensures (omega arith) (omega arith);
}

pub returns-in-Denied : goal.returns-in-Denied
returns-in-Denied c = record {
  wrote = wrote_as (says-no c.in-Denied.is) c.put_refusal.ensures.wrote;
  upper_bound = c.put_refusal.ensures.upper_bound;
}

pub returns-in-Done : goal.returns-in-Done
unfolding ascii
returns-in-Done c = record {
  wrote = wrote_as (says-done c.in-Done.is) c.put_bytes.ensures;
  upper_bound = omega (arith, c.put_bytes.ensures.next);
}

pub returns-in-Counted : goal.returns-in-Counted
unfolding ascii
returns-in-Counted c = record {
  wrote = wrote_as (says-counted c.in-Counted.is c.from-in-Counted.ensures) c.put_named-in-Counted.ensures;
  upper_bound = named-short _ _ c.put_named-in-Counted.ensures (omega arith) (omega arith);
}

pub returns-in-Block : goal.returns-in-Block
returns-in-Block c = record {
  wrote = wrote_as (says-block c.in-Block.is) c.put_block.ensures.wrote;
  upper_bound = c.put_block.ensures.upper_bound;
}

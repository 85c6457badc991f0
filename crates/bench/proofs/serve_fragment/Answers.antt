-- `bench::serve_fragment` meets its contract. The loop's invariant is `Serving`, and that there is room for one more reply.
-- Assumes nothing.
use native.Mathlib.Omega.{arith}
use Rattle.bench.proofs.Gathering.{gathered, serving-turn, serving-done, on-ok}
use Rattle.bench.proofs.serve_fragment.Goals as goal

pub loop-at-preserved-then-out-used-lt-REPLY : goal.loop-at-preserved-then-out-used-lt-REPLY
loop-at-preserved-then-out-used-lt-REPLY c =
    let g = gathered c.loop-at.out c.loop-at.used c.loop-at.invariant.room c.serve_next-turn.ensures.reply in record {
      serving = serving-turn c.loop-at.invariant.serving c.serve_next-turn.ensures c.serve_next-turn.auto.meta g.long;
      room = omega (arith, g.long);
    }

pub loop-at-preserved : goal.loop-at-preserved
loop-at-preserved c =
    let g = gathered c.loop-at.out c.loop-at.used c.loop-at.invariant.room c.serve_next-turn.ensures.reply in record {
      serving = serving-turn c.loop-at.invariant.serving c.serve_next-turn.ensures c.serve_next-turn.auto.meta g.long;
      room = omega (arith, g.holds);
    }

pub returns : goal.returns
returns c = on-ok _ (serving-done c.loop-at.invariant.serving c.loop-at-test.false)

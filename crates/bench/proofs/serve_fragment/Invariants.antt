-- `Serving`, and that there is room for one more reply.
use Rattle.std.proofs.Common.{length, ◌+◌, ◌-◌, ◌≤◌}
use Rattle.uplink.specs.Fragments.{held}
use Rattle.bench.specs.Numbers.{reply_room}
use Rattle.bench.proofs.Gathering.{Serving}
use Rattle.bench.proofs.serve_fragment.Given as goal

abbrev pub invariant-loop-at : goal.invariant-loop-at
invariant-loop-at l = record {
  serving : Serving l.initial.meta l.fragment l.initial.out (held l.initial.reader) l.meta l.out (held l.reader) l.at;
  room : l.used + reply_room ≤ length l.out;
}

abbrev pub decreases-loop-at : goal.decreases-loop-at
decreases-loop-at l = length l.fragment - l.at

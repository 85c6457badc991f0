-- `bench::serve_end` meets its contract. Assumes nothing.
use Rattle.bench.proofs.Gathering.{reply-enough, front-holds}
use lib.Seq.{length-take-le}
use mathlib.Core.Path.{sym}
use Rattle.bench.specs.Numbers.{reply_room}
use Rattle.bench.proofs.serve_end.Goals as goal

pub slice_bounds-write_out-end : goal.slice_bounds-write_out-end
slice_bounds-write_out-end c =
    front-holds c.args.out.now reply_room c.requires reply-enough c.serve_last-len.ensures.replied

pub slice_bounds-write_out-end-2 : goal.slice_bounds-write_out-end-2
slice_bounds-write_out-end-2 c =
    sym (length-take-le _ _ (front-holds c.args.out.now reply_room c.requires reply-enough c.serve_last-len.ensures.replied))

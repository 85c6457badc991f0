-- `uplink::Reader::feed` meets its contract: the bytes to the first LF are held, and then the line is taken. Assumes nothing.
use Rattle.uplink.proofs.Steps.{fed-line, fed-none}
use Rattle.uplink.proofs.Reader.feed.Goals as goal

pub returns-in-Some : goal.returns-in-Some
returns-in-Some c =
    fed-line c.args.fragment.now c.args.from _ c.min.ensures c.in-Some.ensures c.hold.ensures c.take.ensures.line c.take.ensures.ready

pub returns-in-None : goal.returns-in-None
returns-in-None c =
    fed-none c.args.fragment.now c.args.from _ c.min.ensures c.in-None.ensures c.hold-in-None.ensures

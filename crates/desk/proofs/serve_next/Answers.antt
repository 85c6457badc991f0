-- `desk::serve_next` meets its contract. Assumes nothing.
use Rattle.desk.proofs.Turns.{followed-line, followed-none, turn_by}
use Rattle.desk.proofs.serve_next.Goals as goal

pub returns-in-Some : goal.returns-in-Some
returns-in-Some c =
    let e = c.serve-len.ensures in
    turn_by c.feed-next.ensures _ _ (followed-line c.args.meta.now c.args.out.now c.in-Some.is (e.meta_after, e.replied))

pub returns-in-None : goal.returns-in-None
returns-in-None c =
    turn_by c.feed-next.ensures _ _ (followed-none c.args.meta.now c.args.out.now c.in-None.is)
